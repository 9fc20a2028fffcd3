use Rattle.std.proofs.Common.{◌≡◌, ◌++◌, true, take, flat_map}
use Rattle.std.specs.List.{list_all}
use Rattle.q_message.specs.NewFile.{are_addresses, recipient_record}
use Rattle.q_message.proofs.writing.push_recipients.Given as goal

abbrev pub invariant-loop-receiver : goal.invariant-loop-receiver
invariant-loop-receiver l = record {
  written : l.out.items ≡ l.initial.out.items ++ flat_map recipient_record (take l.receiver-index l.to);
  forms : list_all are_addresses (take l.receiver-index l.to) ≡ true;
}
