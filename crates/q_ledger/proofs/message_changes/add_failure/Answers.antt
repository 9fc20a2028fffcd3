use Rattle.std.proofs.Common.{◌∙◌, ap, sym, slice_set}
use Rattle.q_ledger.proofs.MarkLaws.{first_read, none_changed}
use Rattle.q_model.specs.Ids.{id_eq}
use Rattle.q_model.specs.Logs.{with_failure}
use Rattle.q_model.specs.Message.{Message}
use Rattle.q_ledger.proofs.message_changes.add_failure.Goals as goal

pub returns-in_default-clause-added : goal.returns-in_default-clause-added
returns-in_default-clause-added c = none_changed (λ (m : Message). id_eq m.id c.args.id) (with_failure c.args.failure) c.args.messages.now (sym c.in_default.ensures)

pub returns-clause-added : goal.returns-clause-added
returns-clause-added c =
    let ms = c.args.messages.now in
    let i = c.in-Some.place in
    ap (slice_set ms i) (c.in_ok-add_failure.ensures.added ∙ ap (with_failure c.args.failure) (sym c.index-messages-place.is))
    ∙ first_read (λ (m : Message). id_eq m.id c.args.id) (with_failure c.args.failure) ms i c.index-messages-place.result (sym c.in-Some.ensures) c.index-messages-place.is
