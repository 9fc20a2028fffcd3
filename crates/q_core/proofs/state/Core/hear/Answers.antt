use Rattle.std.proofs.Common.{subst}
use Rattle.q_laws.proofs.Kept.{may_be}
use Rattle.q_core.specs.Hearing.{IsHeard}
use Rattle.q_core.proofs.state.Core.hear.Goals as goal

pub returns-in-Mail-clause-exact : goal.returns-in-Mail-clause-exact
returns-in-Mail-clause-exact c = λ e h w l a allows. c.arrive.ensures.exact e (subst (λ x. IsHeard x e) c.in-Mail.is h) w l a (may_be w l e allows)
