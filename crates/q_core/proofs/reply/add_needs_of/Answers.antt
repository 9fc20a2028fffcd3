use Rattle.std.proofs.Common.{◌≡◌, ◌∙◌, ◌++◌, ap, None, Some, sym}
use Rattle.std.specs.Prelude.{option_map}
use Rattle.q_flights.specs.Flying.{delivery_shown}
use Rattle.q_core.specs.Needs.{needs_in}
use Rattle.q_model.specs.declared.rows.Delivery.{Delivery}
use Rattle.q_core.proofs.reply.add_needs_of.Goals as goal

pub add_needs-requires : goal.add_needs-requires
add_needs-requires c =
    (c.requires (delivery_shown c.in-Some.delivery) (sym c.get.ensures ∙ ap (option_map delivery_shown) c.in-Some.is))

pub returns-in-Some : goal.returns-in-Some
returns-in-Some c = λ f found.
    let q = c.args.unsettled.now in
    let both : Some (delivery_shown c.in-Some.delivery) ≡ Some f = sym (ap (option_map delivery_shown) c.in-Some.is) ∙ c.get.ensures ∙ found in
    let it : (delivery_shown c.in-Some.delivery) ≡ f = cc in
    c.add_needs.ensures
    ∙ ap (λ (x : Delivery). record q { items = q.items ++ needs_in c.args.expired x.row.id x.row.positions c.args.outcomes.now }) it

pub returns-in_default : goal.returns-in_default
returns-in_default c = λ f found.
    let bad : None ≡ Some f = sym (ap (option_map delivery_shown) c.in_default.is) ∙ c.get.ensures ∙ found in cc
