use Rattle.std.proofs.Common.{◌∙◌, ap}
use Rattle.q_core.proofs.AppliedLaws.{none_counted}
use Rattle.q_core.specs.State.{State}
use Rattle.q_model.specs.Lists.{has_none}
use Rattle.q_core.proofs.state.Core.has_no_outcomes.Goals as goal

pub returns : goal.returns
returns c = c.is_empty.ensures ∙ none_counted c.self.inside.unsettled.items ∙ ap (λ (s : State). has_none s.unsettled) c.self.view_is
