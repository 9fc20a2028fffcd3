use Rattle.std.proofs.Common.{◌≡◌, ap, ◌∙◌, List, sym, subst, map, Some, refl}
use Rattle.std.specs.Prelude.{find}
use Rattle.q_pool.proofs.PoolLaws.{kept_changed, put_at, ranked_set, values_set}
use Rattle.q_pool.specs.Kept.{is_of, kept_at}
use Rattle.q_pool.specs.Pooled.{AreApart, Pooled}
use Rattle.q_pool.specs.Ranks.{AreRanked, value_of}
use Rattle.q_pool.specs.declared.kept.Kept.{Kept}
use Rattle.q_pool.proofs.pool.Pool.put.Goals as goal

pub invariant_of-self : goal.invariant_of-self
invariant_of-self c =
    let a = c.self.inside in
    subst (λ r. AreRanked a.sync_limit a.minimum r.items) (sym c.set.ensures)
    (ranked_set a.sync_limit a.minimum c.args.slot.id _ _ a.register.items refl c.rank-rank.ensures c.self.invariant)

pub returns : goal.returns
returns c = λ f is.
    let a = c.self.inside in
    let found = c.args.found in
    let id = found.slot.id in
    let put : Kept = record found { slot = c.args.slot } in
    let of : map value_of a.register.items ≡ c.args.self.now.items = ap (λ (p : Pooled). p.items) c.self.view_is in
    let apart : AreApart (map value_of a.register.items) = subst AreApart (sym of) c.stand_apart.ensures.apart in
    let there : find (is_of id) (map value_of a.register.items) ≡ Some found = ap (find (is_of id)) of ∙ c.requires.found in
    ap (λ r. record { items = map value_of r.items; room = r.room; sync_limit = a.sync_limit; minimum = a.minimum }) c.set.ensures
    ∙ ap (λ (ks : List Kept). record { items = ks; room = a.register.room; sync_limit = a.sync_limit; minimum = a.minimum })
    (values_set a.sync_limit a.minimum c.args.slot.id put _ a.register.items c.self.invariant
    ∙ ap (λ i. map (put_at i put) (map value_of a.register.items)) c.requires.same
    ∙ ap (λ s. map (put_at id (record found { slot = s })) (map value_of a.register.items)) (sym is)
    ∙ kept_changed f found (map value_of a.register.items) apart there)
    ∙ ap (λ (p : Pooled). record p { items = map (kept_at id f) p.items }) c.self.view_is
