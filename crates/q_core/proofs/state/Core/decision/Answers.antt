use Rattle.std.proofs.Common.{sym, subst}
use Rattle.q_core.proofs.NextLaws.{next_law}
use Rattle.q_core.specs.Deciding.{IsNextDecision}
use Rattle.q_model.specs.Next.{next}
use Rattle.q_core.proofs.PlacedDecisions.{placed_law}
use Rattle.q_core.specs.Deciding.{IsPlaced}
use Rattle.q_core.proofs.state.Core.decision.Goals as goal

pub returns-clause-ledger : goal.returns-clause-ledger
returns-clause-ledger c = λ w l a. subst (λ d. IsNextDecision w l c.args.self.now d (next w l)) (sym c.decide.ensures) (next_law a)

pub returns-clause-placed : goal.returns-clause-placed
returns-clause-placed c = λ w l a. subst (IsPlaced l) (sym c.decide.ensures) (placed_law a)
