use Rattle.std.proofs.Common.{ap, ◌∙◌, sym, slice_set}
use Rattle.std.proofs.lemmas.List.Edits.{map_over_more}
use Rattle.q_ledger.specs.Changed.{stood_at}
use Rattle.q_ledger.proofs.moving.stand_at.Goals as goal

pub loop-message-preserved : goal.loop-message-preserved
loop-message-preserved c =
    let f = stood_at c.args.id c.args.place in
    ap (slice_set c.loop-message.messages c.loop-message.message-index) (c.stand_at.ensures ∙ ap f (sym c.message-item.is))
    ∙ map_over_more f c.args.messages.now c.loop-message.messages c.loop-message.message-index c.message-item.result c.loop-message-test.true c.loop-message.invariant c.message-item.is
