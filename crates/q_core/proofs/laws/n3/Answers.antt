use Rattle.std.proofs.Common.{sym, subst}
use Rattle.q_core.proofs.RuleLaws.{skip_law}
use Rattle.q_core.specs.Decisions.{IsRule}
use Rattle.q_model.specs.Next.{skip_rule}
use Rattle.q_core.proofs.laws.n3.Goals as goal

pub returns : goal.returns
returns c = λ w l a. subst (λ d. IsRule c.args.core.now d (skip_rule l)) (sym c.next_skip.ensures) (skip_law a.matches.parts)
