use Rattle.std.proofs.Common.{◌≡◌, ◌++◌, map, take, drop}
use Rattle.q_ledger.specs.Changed.{stood_at}
use Rattle.q_ledger.proofs.moving.stand_at.Given as goal

abbrev pub invariant-loop-message : goal.invariant-loop-message
invariant-loop-message l = l.messages ≡ map (stood_at l.id l.place) (take l.message-index l.initial.messages) ++ drop l.message-index l.initial.messages
