use Rattle.std.proofs.Common.{sym, subst}
use Rattle.q_core.proofs.PickLaws.{admission_law}
use Rattle.q_core.specs.Decisions.{IsRuleOrLooks}
use Rattle.q_model.specs.Next.{admission_rule}
use Rattle.q_core.proofs.laws.n6.Goals as goal

pub returns : goal.returns
returns c = λ w l a. subst (λ d. IsRuleOrLooks c.args.core.now d (admission_rule w l)) (sym c.next_admission.ensures) (admission_law a.matches)
