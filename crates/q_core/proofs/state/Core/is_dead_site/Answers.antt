use Rattle.std.proofs.Common.{◌∙◌, ap}
use Rattle.q_core.proofs.SiteViews.{dead_known}
use Rattle.q_core.specs.Held.{is_dead_in}
use Rattle.q_core.specs.State.{State}
use Rattle.q_core.proofs.state.Core.is_dead_site.Goals as goal

pub returns : goal.returns
returns c = c.is_dead.ensures ∙ dead_known c.args.site.now c.self.inside.sites.items ∙ ap (λ (s : State). is_dead_in s c.args.site.now) c.self.view_is
