-- The first name of an area that is looked for, from its names in order.
use Rattle.std.proofs.Common.{◌≡◌, ◌<◌, ◌+◌, ◌⊎◌, ⊎_elim, ◌++◌, ℕ, zero, suc, List, [], ◌∷◌, length, take, drop, Option, Some, None, refl, sym, ap, subst, ◌∙◌, inl, inr, arith}
use Rattle.std.specs.Prelude.{Contains, slice_get, slice_index_or}
use Rattle.std.specs.Ordering.{nat_cmp, ordering_reverse}
use Rattle.std.specs.declared.cmp.Ordering.{Ordering}
use Rattle.std.specs.declared.cmp.Ordering.TheVariants.{Greater, Less}
use Rattle.std.specs.Cmp.Lexicographic.{slice_cmp}
use Rattle.std.proofs.lemmas.Cmp.{nat_list_cmp_total}
use Rattle.std.proofs.lemmas.List.Elements.{Contains-append_cases, Contains-append_right}
use Rattle.q_host.specs.Reads.{IsAfter, IsListing, Rise}
use Rattle.q_model.specs.declared.rows.DeferredName.{DeferredName}
use Rattle.q_look.specs.FirstNames.{HasNone, IsAhead, IsFirstWanted, IsFirstIn, Naming}

-- ---- names in order

head_or_behind : (z x : List ℕ) (zs : List (List ℕ)) → Contains (z ∷ zs) x → (z ≡ x) ⊎ Contains zs x
head_or_behind z x zs (zero, lt, e) = inl e
head_or_behind z x zs (suc k, lt, e) = inr (k, omega (arith, lt), e)

split : (xs : List (List ℕ)) (i : ℕ) (x : List ℕ) → slice_get xs i ≡ Some x → xs ≡ take i xs ++ x ∷ drop (suc i) xs
split [] i x h = absurd cc
split (y ∷ ys) zero x h = let same : y ≡ x = cc in ap (λ (z : List ℕ). z ∷ ys) same
split (y ∷ ys) (suc i) x h = ap (λ (zs : List (List ℕ)). y ∷ zs) (split ys i x h)

rise_behind : (after : Option (List ℕ)) (front : List (List ℕ)) (x : List ℕ) (back : List (List ℕ)) → Rise after (front ++ x ∷ back) → Rise (Some x) back
rise_behind after [] x back h = h.1
rise_behind after (y ∷ ys) x back h = rise_behind (Some y) ys x back h.1

rise_less : (x y : List ℕ) (back : List (List ℕ)) → Rise (Some x) back → Contains back y → slice_cmp nat_cmp x y ≡ Less
rise_less x y [] h there = absurd (omega (arith, there.1))
rise_less x y (z ∷ zs) h there = ⊎_elim (λ here. subst (λ (n : List ℕ). slice_cmp nat_cmp x n ≡ Less) here h.0) (λ behind. nat_list_cmp_total.trans x z y h.0 (rise_less z y zs h.1 behind)) (head_or_behind z y zs there)

rise_after : (after : Option (List ℕ)) (y : List ℕ) (xs : List (List ℕ)) → Rise after xs → Contains xs y → IsAfter after y
rise_after None y xs h there = tt
rise_after (Some x) y xs h there = rise_less x y xs h there

after_on : (after : Option (List ℕ)) (x y : List ℕ) → IsAfter after x → slice_cmp nat_cmp x y ≡ Less → IsAfter after y
after_on None x y h less = tt
after_on (Some a) x y h less = nat_list_cmp_total.trans a x y h less

reversed : (o p : Ordering) → o ≡ ordering_reverse p → o ≡ Less → p ≡ Less → ⊥
reversed o p e less more = by (sym less ∙ e ∙ ap ordering_reverse more)
  where
    by : Less ≡ Greater → ⊥
    by k = cc

-- no two names stand before each other
pub not_both : (x y : List ℕ) → slice_cmp nat_cmp x y ≡ Less → slice_cmp nat_cmp y x ≡ Less → ⊥
not_both x y less more = reversed (slice_cmp nat_cmp x y) (slice_cmp nat_cmp y x) (nat_list_cmp_total.antisymm x y) less more

self_not : (x : List ℕ) → slice_cmp nat_cmp x x ≡ Less → ⊥
self_not x less = not_both x x less less

-- ---- a listing, and what was listed before

-- each name ahead of `after` stands behind this one, and what stands behind this one is ahead of `after`
pub record HasPassed (names : Naming) (f : List ℕ → Option (List ℕ)) (after behind : Option (List ℕ)) : Type 0 where
  pub left : (n : List ℕ) (e : DeferredName) → IsAhead names f after n e → IsAfter behind n
  pub from : (n : List ℕ) → IsAfter behind n → IsAfter after n

pub passed_none : (names : Naming) (f : List ℕ → Option (List ℕ)) (after : Option (List ℕ)) → HasPassed names f after after
passed_none names f after = record { left = λ n e ahead. ahead.behind; from = λ n h. h }

module _ (names : Naming) (f : List ℕ → Option (List ℕ)) (after behind : Option (List ℕ)) (listed : List (List ℕ)) (listing : IsListing f behind listed) (passed : HasPassed names f after behind) where
  first_there : (d : DeferredName) → (first : IsFirstIn names listed d) → Contains listed first.name
  first_there d first = subst (λ (xs : List (List ℕ)). Contains xs first.name) (sym first.all) (Contains-append_right first.front (first.name ∷ first.back) first.name (0, omega arith, refl))

  pub first_is : (d : DeferredName) → IsFirstIn names listed d → IsFirstWanted names f after (Some d)
  first_is d first = record {
    name = first.name;
    ahead = record {
      there = listing.there first.name (first_there d first);
      behind = passed.from first.name (rise_after behind first.name listed listing.rise (first_there d first));
      named = first.named;
    };
    none_before = λ n e ahead less.
        ⊎_elim
        (λ inside. ⊎_elim (λ front. first.none n e front ahead.named) (λ rest. ⊎_elim (λ same. self_not n (subst (λ (x : List ℕ). slice_cmp nat_cmp n x ≡ Less) same less))
        (λ back. not_both n first.name less (rise_less first.name n first.back (rise_behind behind first.front first.name first.back (subst (Rise behind) first.all listing.rise)) back))
        (head_or_behind first.name n first.back rest))
        (Contains-append_cases first.front (first.name ∷ first.back) n (subst (λ (xs : List (List ℕ)). Contains xs n) first.all inside)))
        (λ past. not_both n first.name less (past.1 first.name (first_there d first)))
        (listing.none_left_out n ahead.there (passed.left n e ahead));
  }

  pub first_none : HasNone names listed → length listed < 64 → IsFirstWanted names f after None
  first_none none few n e ahead = ⊎_elim (λ inside. none n e inside ahead.named) (λ past. absurd (omega (arith, few, past.0))) (listing.none_left_out n ahead.there (passed.left n e ahead))

  pub passed_last : HasNone names listed → (last : List ℕ) → Contains listed last → HasPassed names f after (Some last)
  passed_last none last here = record {
    left = λ n e ahead. ⊎_elim (λ inside. absurd (none n e inside ahead.named)) (λ past. past.1 last here) (listing.none_left_out n ahead.there (passed.left n e ahead));
    from = λ n less. passed.from n (after_on behind last n (rise_after behind last listed listing.rise here) less);
  }

-- ---- one name after another

next : (n : ℕ) → n + 1 ≡ suc n
next n = omega arith

front_more : (xs : List (List ℕ)) (k : ℕ) (y : List ℕ) → slice_get xs k ≡ Some y → take (suc k) xs ≡ take k xs ++ y ∷ []
front_more [] k y h = absurd cc
front_more (z ∷ zs) zero y h = let same : z ≡ y = cc in ap (λ (w : List ℕ). w ∷ []) same
front_more (z ∷ zs) (suc k) y h = ap (λ (ws : List (List ℕ)). z ∷ ws) (front_more zs k y h)

pub none_at_first : (names : Naming) (listed : List (List ℕ)) → HasNone names (take 0 listed)
none_at_first names listed n d there named = omega (arith, there.1)

pub none_more : (names : Naming) (listed : List (List ℕ)) (i : ℕ) (x : List ℕ) → slice_get listed i ≡ Some x → ((d : DeferredName) → names x d → ⊥) → HasNone names (take i listed) → HasNone names (take (i + 1) listed)
none_more names listed i x here unnamed none n d given named =
    let there : Contains (take (suc i) listed) n = subst (λ (k : ℕ). Contains (take k listed) n) (next i) given in
    ⊎_elim (λ front. none n d front named) (λ last. ⊎_elim (λ same. unnamed d (subst (λ (m : List ℕ). names m d) (sym same) named)) (λ gone. absurd (omega (arith, gone.1))) (head_or_behind x n [] last))
    (Contains-append_cases (take i listed) (x ∷ []) n (subst (λ (xs : List (List ℕ)). Contains xs n) (front_more listed i x here) there))

pub first_at : (names : Naming) (listed : List (List ℕ)) (i : ℕ) (x : List ℕ) (d : DeferredName) → slice_get listed i ≡ Some x → names x d → HasNone names (take i listed) → IsFirstIn names listed d
first_at names listed i x d here named none = record { name = x; front = take i listed; back = drop (suc i) listed; all = split listed i x here; named = named; none = none }

pub there_at : (listed : List (List ℕ)) (i : ℕ) (x : List ℕ) → slice_get listed i ≡ Some x → Contains listed x
there_at listed i x h = (i, within listed i x h, at listed i x h)
  where
    within : (xs : List (List ℕ)) (k : ℕ) (y : List ℕ) → slice_get xs k ≡ Some y → k < length xs
    within [] k y e = absurd cc
    within (z ∷ zs) zero y e = omega arith
    within (z ∷ zs) (suc k) y e = omega (arith, within zs k y e)

    at : (xs : List (List ℕ)) (k : ℕ) (y : List ℕ) → slice_get xs k ≡ Some y → slice_index_or xs k y ≡ y
    at [] k y e = absurd cc
    at (z ∷ zs) zero y e = cc
    at (z ∷ zs) (suc k) y e = at zs k y e

-- the item of a loop
pub item_at : (xs : List (List ℕ)) (i : ℕ) (x : List ℕ) → i < length xs → x ≡ slice_index_or xs i x → slice_get xs i ≡ Some x
item_at [] i x h e = absurd (omega (arith, h))
item_at (y ∷ ys) zero x h e = ap (λ (z : List ℕ). Some z) (sym e)
item_at (y ∷ ys) (suc i) x h e = item_at ys i x (omega (arith, h)) e
