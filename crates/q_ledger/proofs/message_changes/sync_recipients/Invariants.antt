use Rattle.std.proofs.Common.{◌≡◌, ◌++◌, map, take, drop}
use Rattle.q_ledger.specs.Marked.{synced_recipient}
use Rattle.q_ledger.proofs.message_changes.sync_recipients.Given as goal

abbrev pub invariant-loop-recipient : goal.invariant-loop-recipient
invariant-loop-recipient l = l.recipients ≡ map (synced_recipient) (take l.recipient-index l.initial.recipients) ++ drop l.recipient-index l.initial.recipients
