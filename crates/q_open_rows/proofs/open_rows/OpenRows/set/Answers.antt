use Rattle.std.proofs.Common.{◌∙◌, ◌<◌, ap, arith, length, subst, sym}
use Rattle.std.proofs.lemmas.List.{length-map}
use Rattle.q_keyed.specs.Numbered.{Items, Numbered, values_of}
use Rattle.q_open_rows.proofs.Numbered.{no_place, own, set_new, set_there}
use Rattle.q_open_rows.specs.declared.open_row.OpenRow.{OpenRow}
use Rattle.q_open_rows.specs.Opened.{Opened, place_of, with_place}
use Rattle.q_open_rows.proofs.open_rows.OpenRows.set.Goals as goal

pub put-requires : goal.put-requires
put-requires c = own c.args.site.now c.in-Some.number c.self.inside.rows.items c.find.ensures.apart (sym c.find.ensures.is ∙ c.in-Some.is)

pub push-number-requires-clause-room : goal.push-number-requires-clause-room
push-number-requires-clause-room c =
    let ks = c.self.inside.rows.items in
    let none = ap (λ (o : Opened). place_of c.args.site.now o.items) (sym c.self.view_is) ∙ no_place c.args.site.now ks (sym c.find.ensures.is ∙ c.in-None.is) in
    let room = c.requires.room none in
    let same = length-map ks (λ (k : Numbered OpenRow). k.item) in
    let few = subst (λ (o : Opened). length o.items < o.room) (sym c.self.view_is) room in
    omega (arith, few, same)

pub returns-in-Some : goal.returns-in-Some
returns-in-Some c =
    let s = c.find.ensures in
    ap (λ (v : Items OpenRow). record { items = values_of v.items; room = v.room }) c.put.ensures
    ∙ ap (λ rs. record { items = rs; room = c.self.inside.rows.room }) (set_there c.args.site.now c.args.place c.in-Some.number c.self.inside.rows.items s.apart s.keys (sym c.find.ensures.is ∙ c.in-Some.is))
    ∙ ap (λ (o : Opened). record o { items = with_place c.args.site.now c.args.place o.items }) c.self.view_is

pub returns-in-None : goal.returns-in-None
returns-in-None c =
    ap (λ (v : Items OpenRow). record { items = values_of v.items; room = v.room }) c.push-number.ensures.items
    ∙ ap (λ rs. record { items = rs; room = c.self.inside.rows.room }) (set_new c.args.site.now c.args.place c.push-number.result c.self.inside.rows.items (sym c.find.ensures.is ∙ c.in-None.is))
    ∙ ap (λ (o : Opened). record o { items = with_place c.args.site.now c.args.place o.items }) c.self.view_is
