use Rattle.std.proofs.Common.{ap, sym, slice_get, ◌∙◌}
use Rattle.q_register.specs.Places.{standing}
use Rattle.q_register.proofs.Standing.{find_none, find_sole}
use Rattle.q_register.proofs.places.find_in.Goals as goal

pub returns-in-Some : goal.returns-in-Some
returns-in-Some g c =
    let found = c.in-Some.ensures.some in
    let place = c.in-Some.found.place in
    c.member_at.ensures ∙ ap (λ xs. standing (slice_get xs place)) c.deref.ensures.value ∙ ap standing found.stands
    ∙ sym (find_sole g.K.PartialEq.eq c.args.key.now c.args.places.now.items place c.in-Some.found.member found.stands found.key found.sole)

pub returns-in-None : goal.returns-in-None
returns-in-None g c = sym (find_none g.K.PartialEq.eq c.args.key.now c.args.places.now.items c.in-None.ensures.none)
