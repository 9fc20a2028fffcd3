use Rattle.std.proofs.Common.{◌∙◌, ap, sym}
use Rattle.std.proofs.Math.Bool.{or-false}
use Rattle.std.specs.Prelude.{◌||◌, find, is_some, List}
use Rattle.q_model.specs.Book.{Book, Damaged, message_of}
use Rattle.q_model.specs.Ids.{id_eq}
use Rattle.q_ledger.proofs.book.Book.stands.Goals as goal

pub returns : goal.returns
returns c =
    let here = is_some (message_of c.args.self.now c.args.id) in
    c.has_message.ensures ∙ sym (or-false here)
    ∙ ap (λ (ds : List Damaged). here || is_some (find (λ d. id_eq d.id c.args.id) ds)) (ap (λ (b : Book). b.damaged) c.self.view_is)
