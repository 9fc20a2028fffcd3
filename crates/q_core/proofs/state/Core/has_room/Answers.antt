use Rattle.std.proofs.Common.{◌∙◌, ap}
use Rattle.q_core.proofs.SiteViews.{room_known}
use Rattle.q_core.specs.Starting.{has_room_in}
use Rattle.q_core.specs.State.{State}
use Rattle.q_core.proofs.state.Core.has_room.Goals as goal

pub returns : goal.returns
returns c =
    let core = c.self.inside in
    c.has_space.ensures ∙ room_known core.flights.items c.args.site.now core.sites.items c.self.invariant.2.busy ∙ ap (λ (s : State). has_room_in s c.args.site.now) c.self.view_is
