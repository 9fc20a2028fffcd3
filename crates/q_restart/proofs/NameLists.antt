-- A listing of an area goes on behind the names that came before.
use Rattle.std.proofs.Common.{◌≡◌, ◌⊎◌, ◌<◌, ◌≤◌, ℕ, zero, suc, List, [], ◌∷◌, ◌++◌, length, Option, Some, None, inl, inr, ⊎_elim, sym, subst, ◌∙◌, arith}
use Rattle.std.specs.Cmp.Lexicographic.{nat_list_cmp_total, slice_cmp}
use Rattle.std.specs.List.{Contains}
use Rattle.std.specs.List.Sorted.{IsStrictlySortedBy}
use Rattle.std.specs.Option.{IsSome}
use Rattle.std.specs.Ordering.{nat_cmp}
use Rattle.std.specs.Prelude.{slice_get}
use Rattle.std.specs.declared.cmp.Ordering.{Ordering}
use Rattle.std.specs.declared.cmp.Ordering.TheVariants.{Less}
use Rattle.std.proofs.lemmas.List.Elements.{Contains-append_cases, Contains-append_left, Contains-append_right}
use Rattle.q_host.specs.Reads.{IsAfter, IsListing, Rise}
use Rattle.q_restart.specs.Walks.{AreAllNames}
use Rattle.q_restart.proofs.Lists.{each_has, has_at, has_cases, has_none, sorted_append}

-- ---- names that rise

abbrev cmp : List ℕ → List ℕ → Ordering
cmp = slice_cmp nat_cmp

after-on : (after : Option (List ℕ)) (m n : List ℕ) → IsAfter after m → cmp m n ≡ Less → IsAfter after n
after-on None m n h k = tt
after-on (Some a) m n h k = nat_list_cmp_total.trans a m n h k

pub rise-after : (after : Option (List ℕ)) (ns : List (List ℕ)) (n : List ℕ) → Rise after ns → Contains ns n → IsAfter after n
rise-after after [] n h k = absurd (has_none n k)
rise-after after (m ∷ ms) n h k = ⊎_elim (λ (e : m ≡ n). subst (IsAfter after) e h.0) (λ behind. after-on after m n h.0 (rise-after (Some m) ms n h.1 behind)) (has_cases m ms n k)

pub rise-sorted : (after : Option (List ℕ)) (ns : List (List ℕ)) → Rise after ns → IsStrictlySortedBy cmp ns
unfolding IsStrictlySortedBy
rise-sorted after [] h = tt
rise-sorted after (n ∷ ns) h = (each_has (λ m. cmp n m ≡ Less) ns (λ m k. rise-after (Some n) ns m h.1 k), rise-sorted (Some n) ns h.1)

-- the last is behind the others
rise-last : (after : Option (List ℕ)) (ns : List (List ℕ)) (i : ℕ) (last : List ℕ) → Rise after ns → slice_get ns i ≡ Some last → length ns ≤ suc i → (n : List ℕ) → Contains ns n → (n ≡ last) ⊎ (cmp n last ≡ Less)
rise-last after [] i last h at whole n k = absurd (has_none n k)
rise-last after (m ∷ ms) zero last h at whole n k = ⊎_elim (λ (e : m ≡ n). inl (sym e ∙ some_same m last at)) (λ behind. absurd (omega (arith, whole, behind.1))) (has_cases m ms n k)
  where
    some_same : (x y : List ℕ) → Some x ≡ Some y → x ≡ y
    some_same x y e = cc
rise-last after (m ∷ ms) (suc i) last h at whole n k = ⊎_elim (λ (e : m ≡ n). inr (subst (λ (x : List ℕ). cmp x last ≡ Less) e (rise-after (Some m) ms last h.1 (has_at ms i last at))))
    (λ behind. rise-last (Some m) ms i last h.1 at (omega (arith, whole)) n behind) (has_cases m ms n k)

-- ---- all names up to one

pub record IsFront (f : List ℕ → Option (List ℕ)) (after : Option (List ℕ)) (all : List (List ℕ)) : Type 0 where
  pub sorted : IsStrictlySortedBy cmp all
  pub there : (n : List ℕ) → Contains all n → IsSome (f n)
  pub behind : (m n : List ℕ) → Contains all m → IsAfter after n → cmp m n ≡ Less
  pub rest : (n : List ℕ) → IsSome (f n) → Contains all n ⊎ IsAfter after n

sorted-none : IsStrictlySortedBy cmp []
unfolding IsStrictlySortedBy
sorted-none = tt

pub front-none : (f : List ℕ → Option (List ℕ)) (all : List (List ℕ)) → all ≡ [] → IsFront f None all
front-none f all none = subst (IsFront f None) (sym none) (record {
  sorted = sorted-none;
  there = λ n k. absurd (has_none n k);
  behind = λ m n k h. absurd (has_none m k);
  rest = λ n h. inr tt;
})

module _ (f : List ℕ → Option (List ℕ)) (after : Option (List ℕ)) (all part new : List (List ℕ)) (front : IsFront f after all) (listing : IsListing f after part) (is : new ≡ all ++ part) where
  joined-sorted : IsStrictlySortedBy cmp (all ++ part)
  joined-sorted = sorted_append cmp nat_list_cmp_total all part front.sorted (rise-sorted after part listing.rise) (λ x y hx hy. front.behind x y hx (rise-after after part y listing.rise hy))

  joined-there : (n : List ℕ) → Contains (all ++ part) n → IsSome (f n)
  joined-there n k = ⊎_elim (λ h. front.there n h) (λ h. listing.there n h) (Contains-append_cases all part n k)

  -- a full part: more may come
  pub front-more : (i : ℕ) (last : List ℕ) → slice_get part i ≡ Some last → length part ≤ suc i → IsFront f (Some last) new
  front-more i last at whole = subst (IsFront f (Some last)) (sym is) (record {
    sorted = joined-sorted;
    there = joined-there;
    behind = λ m n k h. ⊎_elim (λ before. nat_list_cmp_total.trans m last n (front.behind m last before (rise-after after part last listing.rise (has_at part i last at))) h)
        (λ here. ⊎_elim (λ (e : m ≡ last). subst (λ (x : List ℕ). cmp x n ≡ Less) (sym e) h) (λ (less : cmp m last ≡ Less). nat_list_cmp_total.trans m last n less h) (rise-last after part i last listing.rise at whole m here))
        (Contains-append_cases all part m k);
    rest = λ n h. ⊎_elim (λ before. inl (Contains-append_left all part n before)) (λ later. ⊎_elim (λ here. inl (Contains-append_right all part n here)) (λ past. inr (past.1 last (has_at part i last at))) (listing.none_left_out n h later)) (front.rest n h);
  })

  -- a part that isn't full is the last
  pub front-all : length part < 64 → AreAllNames f new
  front-all short = subst (AreAllNames f) (sym is) (record {
    sorted = joined-sorted;
    there = joined-there;
    all = λ n h. ⊎_elim (λ before. Contains-append_left all part n before) (λ later. ⊎_elim (λ here. Contains-append_right all part n here) (λ past. absurd (omega (arith, past.0, short))) (listing.none_left_out n h later)) (front.rest n h);
  })
