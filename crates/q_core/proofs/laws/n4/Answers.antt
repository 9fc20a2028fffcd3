use Rattle.std.proofs.Common.{sym, subst}
use Rattle.q_core.proofs.RuleLaws.{finishing_law}
use Rattle.q_core.specs.Decisions.{IsRule}
use Rattle.q_model.specs.Next.{finishing_rule}
use Rattle.q_core.proofs.laws.n4.Goals as goal

pub returns : goal.returns
returns c = λ w l a. subst (λ d. IsRule c.args.core.now d (finishing_rule w l)) (sym c.next_finish.ensures) (finishing_law a.matches.parts a.consistent.memory.present)
