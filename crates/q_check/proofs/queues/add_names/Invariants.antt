use Rattle.std.proofs.Common.{take}
use Rattle.q_check.specs.QueueTexts.{IsFileText}
use Rattle.q_check.proofs.TextLists.{AddsTexts}
use Rattle.q_check.proofs.queues.add_names.Given as goal

abbrev pub invariant-loop-name : goal.invariant-loop-name
invariant-loop-name l = record { adds : AddsTexts (IsFileText l.look l.area) (take l.name-index l.names) l.fn.text.items l.text.items }
