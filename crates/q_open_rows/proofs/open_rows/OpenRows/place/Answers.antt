use Rattle.std.proofs.Common.{◌∙◌, ap, option_map, sym}
use Rattle.std.specs.Option.{option_copied}
use Rattle.q_keyed.proofs.Values.{item_found}
use Rattle.q_open_rows.proofs.Numbered.{no_place}
use Rattle.q_open_rows.specs.declared.open_row.OpenRow.{OpenRow}
use Rattle.q_open_rows.specs.Opened.{is_at, Opened, place_of}
use Rattle.q_open_rows.proofs.open_rows.OpenRows.place.Goals as goal

pub returns-in_err-number : goal.returns-in_err-number
returns-in_err-number c =
    c.from_residual.ensures
    ∙ sym (no_place c.args.site.now c.self.inside.rows.items (sym c.find.ensures.is ∙ c.in_err-number.was))
    ∙ ap (λ (o : Opened). place_of c.args.site.now o.items) c.self.view_is

pub returns-in-Some : goal.returns-in-Some
returns-in-Some c =
    ap (λ o. option_map (λ (r : OpenRow). r.place) (option_copied o)) (sym c.in-Some.is)
    ∙ ap (option_map (λ (r : OpenRow). r.place)) (c.get.ensures ∙ item_found (is_at c.args.site.now) c.in_ok-number.number c.self.inside.rows.items c.find.ensures.apart (sym c.find.ensures.is ∙ c.in_ok-number.was))
    ∙ ap (λ (o : Opened). place_of c.args.site.now o.items) c.self.view_is

pub returns-in-None : goal.returns-in-None
returns-in-None c =
    ap (λ o. option_map (λ (r : OpenRow). r.place) (option_copied o)) (sym c.in-None.is)
    ∙ ap (option_map (λ (r : OpenRow). r.place)) (c.get.ensures ∙ item_found (is_at c.args.site.now) c.in_ok-number.number c.self.inside.rows.items c.find.ensures.apart (sym c.find.ensures.is ∙ c.in_ok-number.was))
    ∙ ap (λ (o : Opened). place_of c.args.site.now o.items) c.self.view_is
