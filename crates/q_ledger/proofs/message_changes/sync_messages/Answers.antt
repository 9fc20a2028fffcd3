use Rattle.std.proofs.Common.{ap, ◌∙◌, sym, slice_set}
use Rattle.std.proofs.lemmas.List.Edits.{map_over_more}
use Rattle.q_ledger.specs.Marked.{changed_of}
use Rattle.q_model.specs.Syncs.{sync_all}
use Rattle.q_ledger.proofs.message_changes.sync_messages.Goals as goal

pub loop-message-preserved : goal.loop-message-preserved
loop-message-preserved c =
    let change = changed_of c.args.id sync_all in
    ap (slice_set c.loop-message.messages c.loop-message.message-index) (c.sync_of.ensures ∙ ap change (sym c.message-item.is))
    ∙ map_over_more change c.args.messages.now c.loop-message.messages c.loop-message.message-index c.message-item.result c.loop-message-test.true c.loop-message.invariant c.message-item.is
