use Rattle.std.proofs.Common.{ap, ◌∙◌, sym, slice_set}
use Rattle.std.proofs.lemmas.List.Edits.{map_over_more}
use Rattle.q_ledger.specs.Marked.{synced_recipient}
use Rattle.q_ledger.proofs.message_changes.sync_recipients.Goals as goal

pub loop-recipient-preserved : goal.loop-recipient-preserved
loop-recipient-preserved c =
    let change = synced_recipient in
    ap (slice_set c.loop-recipient.recipients c.loop-recipient.recipient-index) (c.sync.ensures ∙ ap change (sym c.recipient-item.is))
    ∙ map_over_more change c.args.recipients.now c.loop-recipient.recipients c.loop-recipient.recipient-index c.recipient-item.result c.loop-recipient-test.true c.loop-recipient.invariant c.recipient-item.is
