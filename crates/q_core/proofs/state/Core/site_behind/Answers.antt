use Rattle.std.proofs.Common.{◌∙◌, ap}
use Rattle.q_core.proofs.SiteViews.{next_known}
use Rattle.q_core.specs.Queries.{record_behind}
use Rattle.q_core.specs.State.{State}
use Rattle.q_core.proofs.state.Core.site_behind.Goals as goal

pub returns : goal.returns
returns c = c.behind.ensures ∙ next_known c.args.site.now c.self.inside.sites.items ∙ ap (λ (s : State). record_behind c.args.site.now s.sites) c.self.view_is
