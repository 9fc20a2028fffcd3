use Rattle.std.proofs.Common.{◌∙◌, ap, sym, List}
use Rattle.std.proofs.Math.Bool.{or-false}
use Rattle.std.specs.List.{list_any}
use Rattle.std.specs.Prelude.{◌&&◌}
use Rattle.q_model.specs.Book.{Book, stands_in}
use Rattle.q_model.specs.Ids.{id_eq}
use Rattle.q_model.specs.Message.{Message}
use Rattle.q_model.specs.Places.{is_incoming}
use Rattle.q_ledger.proofs.book.Book.stands_in_incoming.Goals as goal

pub returns : goal.returns
returns c =
    c.stands_in_incoming.ensures
    ∙ ap (λ (ms : List Message). list_any (λ m. id_eq m.id c.args.id && is_incoming m.place) ms) c.deref.ensures.value
    ∙ sym (or-false (list_any (λ m. id_eq m.id c.args.id && is_incoming m.place) c.self.inside.messages.items))
    ∙ ap (λ (b : Book). stands_in is_incoming b c.args.id) c.self.view_is
