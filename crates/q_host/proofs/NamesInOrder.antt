-- Names in the order of bytes, and lists of them.
use Rattle.std.proofs.Common.{◌≡◌, ◌⊎◌, ⊎_elim, ◌<◌, ℕ, zero, suc, List, [], ◌∷◌, Option, Some, None, refl, sym, ap, subst, ◌∙◌, inl, inr, arith}
use Rattle.std.specs.Prelude.{Contains}
use Rattle.std.specs.Ordering.{MatchOrdering, nat_cmp, ordering_reverse, ordering_then}
use Rattle.std.specs.declared.cmp.Ordering.{Ordering}
use Rattle.std.specs.declared.cmp.Ordering.TheVariants.{Equal, Greater, Less}
use Rattle.std.specs.Cmp.{ranks}
use Rattle.std.specs.Cmp.Lexicographic.{slice_cmp}
use Rattle.std.proofs.lemmas.Cmp.{nat_list_cmp_total}
use Rattle.q_host.specs.Reads.{IsAfter, Rise}

pub head_or_behind : (z x : List ℕ) (zs : List (List ℕ)) → Contains (z ∷ zs) x → (z ≡ x) ⊎ Contains zs x
head_or_behind z x zs (zero, lt, e) = inl e
head_or_behind z x zs (suc k, lt, e) = inr (k, omega (arith, lt), e)

pub in_behind : (z x : List ℕ) (zs : List (List ℕ)) → Contains zs x → Contains (z ∷ zs) x
in_behind z x zs (k, lt, e) = (suc k, omega (arith, lt), e)

pub in_none : (x : List ℕ) → Contains {X = List ℕ} [] x → ⊥
in_none x there = omega (arith, there.1)

pub rise_less : (x y : List ℕ) (back : List (List ℕ)) → Rise (Some x) back → Contains back y → slice_cmp nat_cmp x y ≡ Less
rise_less x y [] h there = absurd (in_none y there)
rise_less x y (z ∷ zs) h there = ⊎_elim (λ here. subst (λ (n : List ℕ). slice_cmp nat_cmp x n ≡ Less) here h.0) (λ behind. nat_list_cmp_total.trans x z y h.0 (rise_less z y zs h.1 behind)) (head_or_behind z y zs there)

pub after_on : (after : Option (List ℕ)) (x y : List ℕ) → IsAfter after x → slice_cmp nat_cmp x y ≡ Less → IsAfter after y
after_on None x y h less = tt
after_on (Some a) x y h less = nat_list_cmp_total.trans a x y h less

reversed : (o p : Ordering) → o ≡ ordering_reverse p → o ≡ Less → p ≡ Less → ⊥
reversed o p e less more = by (sym less ∙ e ∙ ap ordering_reverse more)
  where
    by : Less ≡ Greater → ⊥
    by k = cc

-- no two names stand before each other
pub not_both : (x y : List ℕ) → slice_cmp nat_cmp x y ≡ Less → slice_cmp nat_cmp y x ≡ Less → ⊥
not_both x y less more = reversed (slice_cmp nat_cmp x y) (slice_cmp nat_cmp y x) (nat_list_cmp_total.antisymm x y) less more

pub not_itself : (x : List ℕ) → slice_cmp nat_cmp x x ≡ Less → ⊥
not_itself x less = not_both x x less less

same_then : (a c : ℕ) (o p : Ordering) → MatchOrdering o (a < c) (a ≡ c) (c < a) → ordering_then o p ≡ Equal → (a ≡ c) × (p ≡ Equal)
same_then a c Less p m e = absurd cc
same_then a c Equal p m e = (m, e)
same_then a c Greater p m e = absurd cc

-- names that are equal in the order are the same
same_name : (x y : List ℕ) → slice_cmp nat_cmp x y ≡ Equal → x ≡ y
same_name [] [] e = refl
same_name [] (c ∷ y) e = absurd cc
same_name (a ∷ x) [] e = absurd cc
same_name (a ∷ x) (c ∷ y) e =
    let two = same_then a c (nat_cmp a c) (slice_cmp nat_cmp x y) (ranks a c) e in
    ap (λ (b : ℕ). b ∷ x) two.0 ∙ ap (λ (z : List ℕ). c ∷ z) (same_name x y two.1)

-- of two names one stands before the other, or they are one
pub either_order : (x y : List ℕ) → (slice_cmp nat_cmp x y ≡ Less) ⊎ ((x ≡ y) ⊎ (slice_cmp nat_cmp y x ≡ Less))
either_order x y = by (slice_cmp nat_cmp x y) refl
  where
    turned : (o : Ordering) → Greater ≡ ordering_reverse o → o ≡ Less
    turned Less e = refl
    turned Equal e = absurd cc
    turned Greater e = absurd cc

    by : (o : Ordering) → slice_cmp nat_cmp x y ≡ o → (slice_cmp nat_cmp x y ≡ Less) ⊎ ((x ≡ y) ⊎ (slice_cmp nat_cmp y x ≡ Less))
    by Less e = inl e
    by Equal e = inr (inl (same_name x y e))
    by Greater e = inr (inr (turned (slice_cmp nat_cmp y x) (sym e ∙ nat_list_cmp_total.antisymm x y)))
