use Rattle.std.proofs.Common.{subst}
use Rattle.q_pool.proofs.PoolLaws.{apart_values}
use Rattle.q_pool.specs.Pooled.{AreApart, Pooled}
use Rattle.q_pool.proofs.pool.Pool.stand_apart.Goals as goal

pub returns-clause-apart : goal.returns-clause-apart
returns-clause-apart c =
    let a = c.self.inside in
    subst (λ (p : Pooled). AreApart p.items) c.self.view_is (apart_values a.sync_limit a.minimum a.register.items c.self.invariant c.stand_apart.ensures.apart)
