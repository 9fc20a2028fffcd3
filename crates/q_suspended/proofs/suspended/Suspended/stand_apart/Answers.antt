use Rattle.std.proofs.Common.{subst}
use Rattle.q_suspended.proofs.Sites.{sites_apart}
use Rattle.q_suspended.specs.Suspensions.{AreApart, Suspensions}
use Rattle.q_suspended.proofs.suspended.Suspended.stand_apart.Goals as goal

pub returns-clause-apart : goal.returns-clause-apart
returns-clause-apart c = subst (λ (s : Suspensions). AreApart s.items) c.self.view_is (sites_apart c.self.inside.sites.items c.stand_apart.ensures.keys)
