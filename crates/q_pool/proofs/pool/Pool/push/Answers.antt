use Rattle.std.proofs.Common.{ap, ◌∙◌, sym, subst, refl}
use Rattle.std.specs.Prelude.{find}
use Rattle.q_pool.proofs.PoolLaws.{absent_key, ranked_more}
use Rattle.q_pool.specs.Kept.{is_of}
use Rattle.q_pool.specs.Pooled.{Pooled}
use Rattle.q_pool.specs.Ranks.{AreRanked}
use Rattle.q_pool.proofs.pool.Pool.push.Goals as goal

pub push-requires-clause-absent : goal.push-requires-clause-absent
push-requires-clause-absent c =
    let a = c.self.inside in
    absent_key a.sync_limit a.minimum c.args.slot.id a.register.items c.self.invariant
    (ap (λ (p : Pooled). find (is_of c.args.slot.id) p.items) c.self.view_is ∙ c.requires.absent)

pub invariant_of-self : goal.invariant_of-self
invariant_of-self c =
    let a = c.self.inside in
    subst (λ r. AreRanked a.sync_limit a.minimum r.items) (sym c.push.ensures)
    (ranked_more a.sync_limit a.minimum a.register.items _ c.self.invariant (record { key = refl; rank = c.rank.ensures }))
