use Rattle.std.proofs.Common.{sym, subst}
use Rattle.q_core.proofs.RuleLaws.{settling_law}
use Rattle.q_core.specs.Decisions.{IsRule}
use Rattle.q_model.specs.Next.{settling_rule}
use Rattle.q_core.proofs.laws.n1.Goals as goal

pub returns : goal.returns
returns c = λ w l a. subst (λ d. IsRule c.args.core.now d (settling_rule l)) (sym c.first_need.ensures) (settling_law a.matches.parts)
