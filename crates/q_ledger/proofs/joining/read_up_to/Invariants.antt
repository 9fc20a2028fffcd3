use Rattle.std.proofs.Common.{◌≡◌, ◌++◌, map, take, drop}
use Rattle.q_ledger.specs.Loading.{slot_read}
use Rattle.q_ledger.proofs.joining.read_up_to.Given as goal

abbrev pub invariant-loop-slot : goal.invariant-loop-slot
invariant-loop-slot l = l.slots ≡ map (slot_read l.id l.to) (take l.slot-index l.initial.slots) ++ drop l.slot-index l.initial.slots
