use Rattle.std.proofs.Common.{◌∙◌, ◌<◌, subst, sym}
use Rattle.q_core.proofs.ChoiceLaws.{chosen_none, chosen_some}
use Rattle.q_core.specs.State.{State}
use Rattle.q_core.proofs.state.Core.first_choice.Goals as goal

pub loop-transport-preserved : goal.loop-transport-preserved
loop-transport-preserved c =
    let me = c.args.self.now in
    sym (chosen_none me c.loop-transport.transport me.transports (subst (λ (s : State). c.loop-transport.transport < s.transports) c.self.view_is c.loop-transport-test.true) (sym c.choice.ensures ∙ c.in_default.is)) ∙ c.loop-transport.invariant

pub returns-in-Some : goal.returns-in-Some
returns-in-Some c =
    let me = c.args.self.now in
    sym (chosen_some me c.loop-transport.transport me.transports c.in-Some.decision (subst (λ (s : State). c.loop-transport.transport < s.transports) c.self.view_is c.loop-transport-test.true) (sym c.choice.ensures ∙ c.in-Some.is)) ∙ c.loop-transport.invariant
