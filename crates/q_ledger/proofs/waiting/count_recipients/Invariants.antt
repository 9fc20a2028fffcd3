use Rattle.std.proofs.Common.{◌≡◌, take}
use Rattle.q_ledger.specs.Loads.{recipients_of}
use Rattle.q_ledger.proofs.waiting.count_recipients.Given as goal

abbrev pub invariant-loop-row : goal.invariant-loop-row
invariant-loop-row l = l.count ≡ recipients_of (take l.row-index l.rows)
