-- The first of the members whose rank is at most a bound, as the ranks show it.
use Rattle.std.proofs.Common.{◌≡◌, ℕ, ◌+◌, ◌<◌, ◌≤◌, ap, sym, ◌∙◌, Bool, true, false, if◌then◌else◌, List, [], ◌∷◌, None, Option, Some, slice_get, suc, zero, refl, arith, find, inl, inr, length, nat_le, nat_lt, position}
use Rattle.std.proofs.lemmas.Bool.{cases_Bool, lt-leb, ltb-false}
use Rattle.std.proofs.lemmas.Option.{slice_get_past}
use Rattle.std.specs.List.{position_or_len}
use Rattle.q_least.specs.Keys.{is_within}
use Rattle.q_register.specs.declared.member.Member.{Member}
use Rattle.q_register.specs.Members.{no_rank, ranks_within}
use Rattle.q_register.specs.Places.{members_of, ranks_of, standing}

some_place : (test : Bool) (p q : ℕ) → Some p ≡ (if test then Some q else None) → p ≡ q
some_place true p q e = cc
some_place false p q e = absurd cc

no_place : (test : Bool) (q : ℕ) → None ≡ (if test then Some q else None) → test ≡ false
no_place true q e = absurd cc
no_place false q e = refl

module _ {K T : Type 0} where
  nothing_stands : (p : ℕ) → standing (slice_get {X = Option (Member K T)} [] p) ≡ None
  nothing_stands p = ap standing (slice_get_past {X = Option (Member K T)} [] p (omega arith))

  -- the first rank within the bound is that of the first member within it
  abbrev Finds : ℕ → ℕ → List (Option (Member K T)) → Type 0
  Finds n bound xs = find (ranks_within bound) (members_of xs) ≡ standing (slice_get xs (position_or_len (is_within bound) (ranks_of n xs)))

  found_next : (x : Option (Member K T)) (xs : List (Option (Member K T))) (p : ℕ) → standing (slice_get xs p) ≡ standing (slice_get (x ∷ xs) (1 + p))
  found_next x xs p = let next : suc p ≡ 1 + p = omega arith in ap (λ (i : ℕ). standing (slice_get (x ∷ xs) i)) next

  found_at : (n bound : ℕ) (xs : List (Option (Member K T))) → length xs ≤ n → bound < no_rank → Finds n bound xs
  found_at n bound [] few low = sym (nothing_stands (position_or_len (is_within bound) (ranks_of {K = K} {T = T} n [])))
  found_at zero bound (x ∷ xs) few low = absurd (omega (arith, few))
  found_at (suc n) bound (None ∷ xs) few low = rw (lt-leb no_rank bound low) (found_at n bound xs (omega (arith, few)) low ∙ found_next None xs (position_or_len (is_within bound) (ranks_of n xs)))
  found_at (suc n) bound (Some e ∷ xs) few low = elim (cases_Bool (nat_le e.rank bound)) [
    | inl is ↦ rw is refl
    | inr is ↦ rw is (found_at n bound xs (omega (arith, few)) low ∙ found_next (Some e) xs (position_or_len (is_within bound) (ranks_of n xs)))
  ]

  ranks_reach : (n : ℕ) (xs : List (Option (Member K T))) → length xs ≤ n → length xs ≤ length (ranks_of n xs)
  ranks_reach n [] few = omega arith
  ranks_reach zero (x ∷ xs) few = few
  ranks_reach (suc n) (x ∷ xs) few = omega (arith, ranks_reach n xs (omega (arith, few)))

  pub some_within : (n bound p : ℕ) (xs : List (Option (Member K T))) → length xs ≤ n → bound < no_rank → Some p ≡ position (is_within bound) (ranks_of n xs) → standing (slice_get xs p) ≡ find (ranks_within bound) (members_of xs)
  some_within n bound p xs few low is =
      let q = position_or_len (is_within bound) (ranks_of n xs) in
      let same : p ≡ q = some_place (nat_lt q (length (ranks_of n xs))) p q is in
      ap (λ (i : ℕ). standing (slice_get xs i)) same ∙ sym (found_at n bound xs few low)

  pub none_within : (n bound : ℕ) (xs : List (Option (Member K T))) → length xs ≤ n → bound < no_rank → None ≡ position (is_within bound) (ranks_of n xs) → None ≡ find (ranks_within bound) (members_of xs)
  none_within n bound xs few low is =
      let q = position_or_len (is_within bound) (ranks_of n xs) in
      let past = ltb-false q (length (ranks_of n xs)) (no_place (nat_lt q (length (ranks_of n xs))) q is) in
      sym (found_at n bound xs few low ∙ ap standing (slice_get_past xs q (omega (arith, past, ranks_reach n xs few))))
