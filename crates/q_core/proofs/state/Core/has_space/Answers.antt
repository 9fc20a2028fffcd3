use Rattle.std.proofs.Common.{◌∙◌, ap, length, refl}
use Rattle.std.specs.Prelude.{nat_le}
use Rattle.q_core.proofs.SpaceLaws.{spare_space}
use Rattle.q_core.specs.Held.{have_space}
use Rattle.q_core.specs.State.{State}
use Rattle.q_core.specs.View.{state_of}
use Rattle.q_core.proofs.state.Core.has_space.Goals as goal

pub returns : goal.returns
returns c =
    let a = c.self.inside in
    ap (nat_le (length c.args.recipients.now)) c.spare-spare.ensures
    ∙ spare_space (state_of a) a.unsettled c.args.recipients.now refl c.self.invariant.6.outcomes c.stand_within.ensures.within
    ∙ ap (λ (s : State). have_space s c.args.recipients.now) c.self.view_is
