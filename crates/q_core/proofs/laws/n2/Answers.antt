use Rattle.std.proofs.Common.{sym, subst}
use Rattle.q_core.proofs.RuleLaws.{sync_law}
use Rattle.q_core.specs.Decisions.{IsRule}
use Rattle.q_model.specs.Next.{sync_rule}
use Rattle.q_core.proofs.laws.n2.Goals as goal

pub returns : goal.returns
returns c = λ w l a. subst (λ d. IsRule c.args.core.now d (sync_rule w l)) (sym c.next_sync.ensures) (sync_law a.matches.parts)
