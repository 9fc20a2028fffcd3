use Rattle.std.proofs.Common.{◌≡◌, true}
use Rattle.std.specs.List.{list_all}
use Rattle.q_message.specs.NewFile.{is_receiver}
use Rattle.bench_messages.proofs.writing.recipients.Given as goal

abbrev pub invariant-loop-i : goal.invariant-loop-i
invariant-loop-i l = list_all is_receiver l.to ≡ true
