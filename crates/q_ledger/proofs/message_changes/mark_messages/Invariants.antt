use Rattle.std.proofs.Common.{◌≡◌, ◌++◌, map, take, drop}
use Rattle.q_ledger.specs.Marked.{changed_of}
use Rattle.q_model.specs.Marking.{with_mark}
use Rattle.q_ledger.proofs.message_changes.mark_messages.Given as goal

abbrev pub invariant-loop-message : goal.invariant-loop-message
invariant-loop-message l = l.messages ≡ map (changed_of l.id (with_mark l.position)) (take l.message-index l.initial.messages) ++ drop l.message-index l.initial.messages
