use Rattle.std.proofs.Common.{ap, refl}
use Rattle.std.specs.Option.{option_map}
use Rattle.q_agent.specs.Slots.{shown_work}
use Rattle.q_agent.proofs.delivery_session.DeliverySession.rest.Goals as goal

pub returns-in-Some-clause-rested : goal.returns-in-Some-clause-rested
returns-in-Some-clause-rested g c = record {
  work = shown_work g.L.Link.view c.in-Some.work;
  link = g.L.Link.view c.rest.new.link;
  has = ap (option_map (shown_work g.L.Link.view)) c.in-Some.is;
  link_rested = c.rest.ensures.link;
  rest = refl;
}
