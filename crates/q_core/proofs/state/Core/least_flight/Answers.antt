use Rattle.std.proofs.Common.{ap, ◌∙◌, sym, nat_lt, option_map, List}
use Rattle.q_model.specs.Lists.{least}
use Rattle.q_model.specs.declared.rows.Delivery.{Delivery}
use Rattle.q_core.proofs.ChoiceLaws.{least-map}
use Rattle.q_core.proofs.state.Core.least_flight.Goals as goal

pub returns : goal.returns
returns c = λ w l a.
    c.first_number.ensures
    ∙ ap (λ (fs : List Delivery). option_map (λ (f : Delivery). f.number) (least (λ (x y : Delivery). nat_lt x.number y.number) fs)) a.matches.parts.flights
    ∙ sym (least-map nat_lt (λ (f : Delivery). f.number) l.flights)
