use Rattle.std.proofs.Common.{ap, ◌∙◌, sym, subst, List, map}
use Rattle.std.specs.Prelude.{filter, not}
use Rattle.q_pool.proofs.PoolLaws.{key_eq, left_values, ranked_left}
use Rattle.q_pool.specs.Kept.{is_of}
use Rattle.q_pool.specs.Pooled.{Pooled}
use Rattle.q_pool.specs.Ranks.{AreRanked, value_of}
use Rattle.q_pool.specs.declared.kept.Kept.{Kept}
use Rattle.q_register.specs.Members.{lacks_key}
use Rattle.q_pool.proofs.pool.Pool.remove.Goals as goal

pub invariant_of-self : goal.invariant_of-self
invariant_of-self c =
    let a = c.self.inside in
    subst (λ r. AreRanked a.sync_limit a.minimum r.items) (sym c.remove.ensures.items)
    (ranked_left a.sync_limit a.minimum (lacks_key key_eq c.args.id) a.register.items c.self.invariant)

pub returns : goal.returns
returns c =
    let a = c.self.inside in
    ap (λ r. record { items = map value_of r.items; room = r.room; sync_limit = a.sync_limit; minimum = a.minimum }) c.remove.ensures.items
    ∙ ap (λ (ks : List Kept). record { items = ks; room = a.register.room; sync_limit = a.sync_limit; minimum = a.minimum }) (left_values a.sync_limit a.minimum c.args.id a.register.items c.self.invariant)
    ∙ ap (λ (p : Pooled). record p { items = filter (λ k. not (is_of c.args.id k)) p.items }) c.self.view_is
