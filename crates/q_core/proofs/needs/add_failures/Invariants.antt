use Rattle.std.proofs.Common.{◌≡◌, ◌++◌, take, true}
use Rattle.q_core.specs.Needs.{needs_put_off}
use Rattle.q_core.proofs.needs.add_failures.Given as goal

abbrev pub invariant-loop-i : goal.invariant-loop-i
invariant-loop-i l = l.unsettled ≡ record l.fn.unsettled { items = l.fn.unsettled.items ++ needs_put_off true l.id (take l.i l.positions) }
