use Rattle.std.proofs.Common.{◌≡◌, ◌++◌, map, take, drop}
use Rattle.q_ledger.specs.Counting.{count_changed}
use Rattle.q_ledger.proofs.counting.count_rows.Given as goal

abbrev pub invariant-loop-slot : goal.invariant-loop-slot
invariant-loop-slot l = l.slots ≡ map (count_changed l.id l.more l.fewer) (take l.slot-index l.initial.slots) ++ drop l.slot-index l.initial.slots
