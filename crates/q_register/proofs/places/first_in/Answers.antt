use Rattle.std.proofs.Common.{ap, refl, subst, sym, length, slice_get, List, All, ◌<◌, ◌∙◌, ◌≡◌, ℕ}
use Rattle.q_least.specs.Keys.{IsLeastAt, key_at, no_key}
use Rattle.q_register.specs.Places.{standing}
use Rattle.q_register.proofs.First.{first_by_ranks, none_by_ranks}
use Rattle.q_register.proofs.places.first_in.Goals as goal

pub returns-in-Some : goal.returns-in-Some
returns-in-Some g c =
    let place = c.in-Some.place in
    let xs = c.args.places.now.items in
    let n = length c.args.ranks.now in
    let ranked = c.requires.ranked in
    let least = subst (λ (rs : List ℕ). IsLeastAt rs place) ranked c.in-Some.ensures.least in
    let keyed = subst (λ (rs : List ℕ). key_at rs place < no_key) ranked c.in-Some.ensures.keyed in
    c.member_at.ensures ∙ ap (λ ys. standing (slice_get ys place)) c.deref.ensures.value ∙ first_by_ranks n place xs c.requires.within least keyed

pub returns-in-None : goal.returns-in-None
returns-in-None g c =
    let none = subst (λ (rs : List ℕ). All (λ key. key ≡ no_key) rs) c.requires.ranked (c.in-None.ensures.none.0 refl) in
    sym (none_by_ranks (length c.args.ranks.now) c.args.places.now.items c.requires.within none)
