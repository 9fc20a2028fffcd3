use Rattle.std.proofs.Common.{◌∙◌, ap, sym, List}
use Rattle.std.proofs.lemmas.List.{append-nil}
use Rattle.std.specs.Prelude.{filter, filter_map}
use Rattle.q_model.specs.Book.{Book}
use Rattle.q_model.specs.Lists.{least}
use Rattle.q_model.specs.Message.{Message}
use Rattle.q_model.specs.Scans.{deferred_name, is_ahead, name_before, scan_next}
use Rattle.q_ledger.proofs.LeastLaws.{filter_given}
use Rattle.q_ledger.specs.Picks.{name_ahead}
use Rattle.q_ledger.proofs.book.Book.scan_next.Goals as goal

pub returns : goal.returns
returns c =
    let s = c.args.scan.now in
    let ms = c.self.inside.messages.items in
    c.least_ahead.ensures
    ∙ ap (λ (xs : List Message). least name_before (filter_map (name_ahead s) xs)) c.deref.ensures.value
    ∙ ap (least name_before) (sym (ap (filter (is_ahead s)) (append-nil (filter_map (λ (m : Message). deferred_name m.place m.id) ms)) ∙ filter_given (is_ahead s) (λ (m : Message). deferred_name m.place m.id) ms))
    ∙ ap (λ (b : Book). scan_next b s) c.self.view_is
