use Rattle.std.proofs.Common.{◌≡◌, ◌++◌, take}
use Rattle.q_core.specs.Needs.{needs_in}
use Rattle.q_core.proofs.needs.add_needs.Given as goal

abbrev pub invariant-loop-i : goal.invariant-loop-i
invariant-loop-i l = l.unsettled ≡ record l.fn.unsettled { items = l.fn.unsettled.items ++ needs_in l.expired l.id (take l.i l.positions) l.outcomes }
