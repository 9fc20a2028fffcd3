use Rattle.std.proofs.Common.{◌≡◌, find, None, take}
use Rattle.q_ledger.specs.Loads.{rows_of_loads}
use Rattle.q_ledger.specs.Spaces.{is_dead_by}
use Rattle.q_ledger.proofs.waiting.Waiting.first_at_dead_site.Given as goal

abbrev pub invariant-loop-i : goal.invariant-loop-i
invariant-loop-i l = find (λ r. is_dead_by l.sites r.site) (rows_of_loads (take l.i l.self-inside.loads.entries)) ≡ None
