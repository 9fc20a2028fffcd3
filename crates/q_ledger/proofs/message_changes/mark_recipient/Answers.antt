use Rattle.std.proofs.Common.{◌∙◌, ap, sym, arith, slice_set}
use Rattle.q_ledger.proofs.MarkLaws.{one_read, past_marked}
use Rattle.q_ledger.specs.Marked.{marked_recipient}
use Rattle.q_ledger.proofs.message_changes.mark_recipient.Goals as goal

pub returns-then-place-recipients : goal.returns-then-place-recipients
returns-then-place-recipients c =
    let rs = c.args.recipients.now in
    let p = c.args.position in
    ap (slice_set rs p) (c.mark.ensures ∙ ap marked_recipient (sym c.index-recipients-place.is)) ∙ one_read p rs c.index-recipients-place.result (omega (arith, c.if-place-recipients.true)) c.index-recipients-place.is

pub returns-else-place-recipients : goal.returns-else-place-recipients
returns-else-place-recipients c = past_marked c.args.position c.args.recipients.now (omega (arith, c.if-place-recipients.false))
