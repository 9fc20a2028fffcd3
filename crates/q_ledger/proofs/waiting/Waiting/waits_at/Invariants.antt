use Rattle.std.proofs.Common.{◌≡◌, false, take}
use Rattle.std.specs.List.{list_any}
use Rattle.q_model.specs.Sites.{site_eq}
use Rattle.q_ledger.specs.Loads.{rows_of_loads}
use Rattle.q_ledger.proofs.waiting.Waiting.waits_at.Given as goal

abbrev pub invariant-loop-i : goal.invariant-loop-i
invariant-loop-i l = list_any (λ r. site_eq r.site l.site) (rows_of_loads (take l.i l.self-inside.loads.entries)) ≡ false
