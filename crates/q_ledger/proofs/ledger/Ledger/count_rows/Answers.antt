use Rattle.std.proofs.Common.{◌≡◌, ◌∙◌, ap, length, map, refl, sym}
use Rattle.std.proofs.lemmas.List.{length-map, with_items_is}
use Rattle.std.specs.Vec.{with_items}
use Rattle.q_ledger.proofs.CountedLaws.{slots_counted}
use Rattle.q_ledger.specs.Counting.{count_changed, rows_counted}
use Rattle.q_ledger.specs.contracts.ledger.Ledger.{the_view}
use Rattle.q_ledger.proofs.ledger.Ledger.count_rows.Goals as goal

pub returns : goal.returns
returns c =
    let change = count_changed c.args.id c.args.more c.args.fewer in
    let old = c.self.inside.admitted in
    let slots = c.count_rows.new.slots in
    let counted : slots ≡ map change old.items = c.count_rows.ensures ∙ ap (map change) c.deref_mut.ensures.value in
    let many : length slots ≡ old.len = ap length counted ∙ length-map old.items change ∙ sym old.ok.0 in
    slots_counted c.args.id c.args.more c.args.fewer (the_view c.self.inside) (with_items old slots).items refl (with_items_is old slots many ∙ counted)
    ∙ ap (rows_counted c.args.id c.args.more c.args.fewer) c.self.view_is
