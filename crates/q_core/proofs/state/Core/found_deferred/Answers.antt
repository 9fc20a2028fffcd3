use Rattle.std.proofs.Common.{subst, sym}
use Rattle.q_core.proofs.LookLaws.{deferred_law}
use Rattle.q_core.specs.Agrees.{Agrees}
use Rattle.q_core.proofs.WholeLaws.{still_agrees}
use Rattle.q_core.proofs.state.Core.found_deferred.Goals as goal

pub returns-clause-agrees : goal.returns-clause-agrees
returns-clause-agrees c = λ w l a scan e f. subst (λ k. Agrees w k l) (sym c.look_at.ensures) (still_agrees a (deferred_law c.args.found scan a.matches e f))
