use Rattle.std.proofs.Common.{◌≡◌, take}
use Rattle.q_ledger.specs.Needs.{needs_in}
use Rattle.q_ledger.proofs.outcomes.needs.Given as goal

abbrev pub invariant-loop-i : goal.invariant-loop-i
invariant-loop-i l = l.needs.items ≡ needs_in l.expired l.id (take l.i l.positions) l.outcomes
