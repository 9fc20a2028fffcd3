use Rattle.std.proofs.Common.{◌≡◌, filter, map, take}
use Rattle.q_ledger.specs.Tidying.{wakes}
use Rattle.q_ledger.proofs.waking.woken_among.Given as goal

abbrev pub invariant-loop-noted : goal.invariant-loop-noted
invariant-loop-noted l = l.woken.items ≡ map (λ r. r.site) (filter (wakes l.entry) (take l.noted-index l.sites))
