use Rattle.std.proofs.Common.{◌∙◌, ap}
use Rattle.q_ledger.proofs.MarkedLaws.{marked_steps}
use Rattle.q_ledger.specs.Marked.{with_book}
use Rattle.q_ledger.specs.State.{State}
use Rattle.q_model.specs.BookChanges.{change_message}
use Rattle.q_model.specs.Marking.{with_mark}
use Rattle.q_ledger.proofs.ledger.Ledger.settle_and_mark.Goals as goal

pub returns : goal.returns
returns c =
    c.write_mark.ensures
    ∙ ap (λ (s : State). with_book (change_message s.ledger.book c.args.id (with_mark c.args.position)) s) c.settle_mark.ensures
    ∙ marked_steps c.args.self.now c.args.id c.args.position
