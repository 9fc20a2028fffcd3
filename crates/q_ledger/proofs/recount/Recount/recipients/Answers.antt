use Rattle.std.proofs.Common.{◌∙◌, ap}
use Rattle.q_ledger.proofs.StepLaws.{recipients_held}
use Rattle.q_ledger.specs.Beside.{recipients_in}
use Rattle.q_ledger.specs.Holding.{Recounted}
use Rattle.q_ledger.proofs.recount.Recount.recipients.Goals as goal

pub returns : goal.returns
returns c w es l holds after =
    c.recipients_of.ensures
    ∙ ap (λ (r : Recounted). recipients_in r.state.ledger c.args.id) c.self.view_is
    ∙ recipients_held w c.args.self.now es l c.args.id c.ledgers_are_one.ensures holds after
