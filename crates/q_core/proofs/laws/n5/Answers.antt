use Rattle.std.proofs.Common.{sym, subst}
use Rattle.q_core.proofs.LeftLaws.{leftover_law}
use Rattle.q_core.specs.Decisions.{IsRuleOrLook}
use Rattle.q_model.specs.Next.{leftover_rule}
use Rattle.q_core.specs.declared.decision.Decision.TheVariants as decisions
use Rattle.q_core.proofs.laws.n5.Goals as goal

pub returns : goal.returns
returns c = λ w l a. subst (λ d. IsRuleOrLook c.args.core.now decisions.LookActive c.args.core.now.active d (leftover_rule w l)) (sym c.next_clearing.ensures) (leftover_law a.matches.parts a.consistent)
