use Rattle.q_core.proofs.AskLaws.{question_law}
use Rattle.q_core.specs.declared.state.Question.TheVariants.{Nothing}
use Rattle.q_core.proofs.WholeLaws.{heard_law}
use Rattle.std.proofs.Common.{subst, sym}
use Rattle.q_core.specs.Agrees.{Matches}
use Rattle.q_core.specs.State.{State}
use Rattle.q_model.specs.Step.{after}
use Rattle.q_core.proofs.state.Core.event.Goals as goal

pub returns-clause-exact : goal.returns-clause-exact
returns-clause-exact c = λ w l a e k may. heard_law c.args.heard e c.requires.time a k may (question_law Nothing (subst (λ (s : State). Matches w s (after w l e)) (sym c.self.view_is) (c.hear.ensures.exact e k w l a may)))
