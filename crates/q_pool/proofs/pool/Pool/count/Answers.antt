use Rattle.std.proofs.Common.{◌≡◌, ap, ◌∙◌, List, sym, subst, map, Some}
use Rattle.std.specs.Prelude.{find}
use Rattle.q_pool.proofs.PoolLaws.{counted_changed, counted_other, found_named, none_changed, ranked_set, values_set}
use Rattle.q_pool.specs.Kept.{counted_at, is_of}
use Rattle.q_pool.specs.Pooled.{AreApart, Pooled}
use Rattle.q_pool.specs.Ranks.{AreRanked, value_of}
use Rattle.q_pool.specs.declared.kept.Kept.{Kept}
use Rattle.q_pool.proofs.pool.Pool.count.Goals as goal

pub returns-in_default : goal.returns-in_default
returns-in_default c =
    let now = c.args.self.now in
    ap (λ (ks : List Kept). record now { items = ks })
    (sym (none_changed c.args.id (counted_at c.args.id c.args.waiting c.args.flying c.args.unsettled) (counted_other c.args.id c.args.waiting c.args.flying c.args.unsettled) now.items (sym c.get.ensures ∙ sym c.copied.ensures ∙ c.in_default.is)))

pub invariant_of-self : goal.invariant_of-self
invariant_of-self c =
    let a = c.self.inside in
    subst (λ r. AreRanked a.sync_limit a.minimum r.items) (sym c.set.ensures)
    (ranked_set a.sync_limit a.minimum c.args.id _ _ a.register.items (found_named c.args.id c.args.self.now.items c.in-Some.kept (sym c.get.ensures ∙ sym c.copied.ensures ∙ c.in-Some.is)) c.rank-rank.ensures c.self.invariant)

pub returns : goal.returns
returns c =
    let a = c.self.inside in
    let found = c.in-Some.kept in
    let id = c.args.id in
    let put : Kept = record { slot = found.slot; waiting = c.args.waiting; flying = c.args.flying; unsettled = c.args.unsettled } in
    let of : map value_of a.register.items ≡ c.args.self.now.items = ap (λ (p : Pooled). p.items) c.self.view_is in
    let apart : AreApart (map value_of a.register.items) = subst AreApart (sym of) c.stand_apart.ensures.apart in
    let there : find (is_of id) (map value_of a.register.items) ≡ Some found = ap (find (is_of id)) of ∙ sym c.get.ensures ∙ sym c.copied.ensures ∙ c.in-Some.is in
    ap (λ r. record { items = map value_of r.items; room = r.room; sync_limit = a.sync_limit; minimum = a.minimum }) c.set.ensures
    ∙ ap (λ (ks : List Kept). record { items = ks; room = a.register.room; sync_limit = a.sync_limit; minimum = a.minimum })
    (values_set a.sync_limit a.minimum id put _ a.register.items c.self.invariant
    ∙ counted_changed id c.args.waiting c.args.flying c.args.unsettled found (map value_of a.register.items) apart there)
    ∙ ap (λ (p : Pooled). record p { items = map (counted_at id c.args.waiting c.args.flying c.args.unsettled) p.items }) c.self.view_is
