use Rattle.std.proofs.Common.{sym, subst}
use Rattle.q_core.proofs.StartLaws.{start_law}
use Rattle.q_core.specs.Decisions.{IsRule}
use Rattle.q_model.specs.Next.{start_rule}
use Rattle.q_core.proofs.laws.n8.Goals as goal

pub returns : goal.returns
returns c = λ w l a. subst (λ d. IsRule c.args.core.now d (start_rule w l)) (sym c.next_start.ensures) (start_law a.matches.parts a.consistent.memory)
