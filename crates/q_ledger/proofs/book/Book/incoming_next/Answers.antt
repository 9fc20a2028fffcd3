use Rattle.std.proofs.Common.{◌∙◌, ap, sym, List}
use Rattle.std.proofs.lemmas.List.{append-nil}
use Rattle.std.specs.Prelude.{filter, filter_map, map}
use Rattle.q_model.specs.Book.{Book, ids_at}
use Rattle.q_model.specs.Ids.{id_before}
use Rattle.q_model.specs.Lists.{least}
use Rattle.q_model.specs.Message.{Message}
use Rattle.q_model.specs.Places.{is_incoming}
use Rattle.q_ledger.proofs.LeastLaws.{map_passing}
use Rattle.q_ledger.specs.Picks.{incoming_id}
use Rattle.q_ledger.proofs.book.Book.incoming_next.Goals as goal

pub returns : goal.returns
returns c =
    let ms = c.self.inside.messages.items in
    c.least_incoming.ensures
    ∙ ap (λ (xs : List Message). least id_before (filter_map incoming_id xs)) c.deref.ensures.value
    ∙ ap (least id_before) (sym (append-nil (map (λ (m : Message). m.id) (filter (λ (m : Message). is_incoming m.place) ms)) ∙ map_passing (λ (m : Message). m.id) (λ (m : Message). is_incoming m.place) ms))
    ∙ ap (λ (b : Book). least id_before (ids_at is_incoming b)) c.self.view_is
