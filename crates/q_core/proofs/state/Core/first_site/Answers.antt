use Rattle.std.proofs.Common.{◌∙◌, ap}
use Rattle.std.specs.Prelude.{slice_get}
use Rattle.q_core.proofs.SiteViews.{first_known}
use Rattle.q_core.specs.State.{State}
use Rattle.q_core.proofs.state.Core.first_site.Goals as goal

pub returns : goal.returns
returns c = c.first.ensures ∙ first_known c.self.inside.sites.items ∙ ap (λ (s : State). slice_get s.sites 0) c.self.view_is
