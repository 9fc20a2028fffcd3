-- Which of two goes first.
use Rattle.std.proofs.Common.{◌≡◌, ◌*◌, ◌+◌, ◌<◌, ◌≤◌, ◌^◌, ap, arith, Bool, false, inl, inr, not, refl, true, ℕ, ◌⊎◌}
use Rattle.std.proofs.lemmas.Bool.{both_ways, cases_Bool, cases_lt, lt-ltb, ltb-true}
use Rattle.std.proofs.lemmas.Bool.Decides.{nat_tests}
use Rattle.std.proofs.Math.Nat.{le_of_mul-le-mul_left, mul-le-mul_left, mul-le-mul_right}
use Rattle.std.specs.Prelude.{◌&&◌, ◌||◌, nat_lt}
use Rattle.q_candidates.specs.declared.candidate.Candidate.{Candidate}
use Rattle.q_candidates.specs.Candidates.{age_at, goes_first, is_better}

not_less : (m n : ℕ) → nat_lt m n ≡ false → n ≤ m
not_less m n h = grind (arith, nat_tests)

less_not : (m n : ℕ) → n ≤ m → nat_lt m n ≡ false
less_not m n h = grind (arith, nat_tests)

-- one ratio is no greater than the next, and that no greater than the last
ratio_along : (xc nc xf nf xb nb : ℕ) → 1 ≤ nf → xc * nf ≤ xf * nc → xf * nb ≤ xb * nf → xc * nb ≤ xb * nc
ratio_along xc nc xf nf xb nb some h k =
    let first : xc * nf * nb ≤ xf * nc * nb = mul-le-mul_right nb h in
    let second : xf * nb * nc ≤ xb * nf * nc = mul-le-mul_right nc k in
    let both : nf * (xc * nb) ≤ nf * (xb * nc) = omega (arith, first, second) in
    le_of_mul-le-mul_left both (omega (arith, some))

module _ (now : ℕ) where
  abbrev weight : Candidate → ℕ
  weight c = age_at now c + 1

  better_along : (c f b : Candidate) → 1 ≤ f.need → is_better now c f ≡ false → is_better now f b ≡ false → is_better now c b ≡ false
  better_along c f b some h k =
      less_not (weight b * c.need) (weight c * b.need)
      (ratio_along (weight c) c.need (weight f) f.need (weight b) b.need some (not_less (weight f * c.need) (weight c * f.need) h) (not_less (weight b * f.need) (weight f * b.need) k))

  better_back : (a b : Candidate) → is_better now a b ≡ true → is_better now b a ≡ false
  better_back a b h = step (weight b * a.need) (weight a * b.need) h
    where
      step : (m n : ℕ) → nat_lt m n ≡ true → nat_lt n m ≡ false
      step m n k = grind (arith, nat_tests)

  back_step : (m n : ℕ) (t u : Bool) → (t ≡ true → u ≡ false) → (t || (not u && nat_lt m n)) ≡ true → (u || (not t && nat_lt n m)) ≡ false
  back_step m n true u back h = ap (λ v. v || (false && nat_lt n m)) (back refl)
  back_step m n false true back h = absurd cc
  back_step m n false false back h = grind (arith, nat_tests)

  -- of two only one goes first
  pub first_back : (a b : Candidate) → goes_first now a b ≡ true → goes_first now b a ≡ false
  first_back a b h = back_step a.rank b.rank (is_better now a b) (is_better now b a) (better_back a b) h

  parts_step : (m n : ℕ) (t u : Bool) → (t || (not u && nat_lt m n)) ≡ false → (t ≡ false) × ((u ≡ true) ⊎ (n ≤ m))
  parts_step m n true u h = absurd cc
  parts_step m n false true h = (refl, inl refl)
  parts_step m n false false h = (refl, inr (not_less m n h))

  parts : (a b : Candidate) → goes_first now a b ≡ false → (is_better now a b ≡ false) × ((is_better now b a ≡ true) ⊎ (b.rank ≤ a.rank))
  parts a b h = parts_step a.rank b.rank (is_better now a b) (is_better now b a) h

  from_step : (m n : ℕ) (t u : Bool) → t ≡ false → (u ≡ true) ⊎ (n ≤ m) → (t || (not u && nat_lt m n)) ≡ false
  from_step m n true u h k = absurd cc
  from_step m n false u h (inl e) = ap (λ v. not v && nat_lt m n) e
  from_step m n false true h (inr low) = refl
  from_step m n false false h (inr low) = less_not m n low

  from_parts : (a b : Candidate) → is_better now a b ≡ false → (is_better now b a ≡ true) ⊎ (b.rank ≤ a.rank) → goes_first now a b ≡ false
  from_parts a b h k = from_step a.rank b.rank (is_better now a b) (is_better now b a) h k

  -- one that doesn't go before another doesn't go before those that this doesn't go before
  pub first_along : (c f b : Candidate) → 1 ≤ c.need → 1 ≤ f.need → 1 ≤ b.need → goes_first now c f ≡ false → goes_first now f b ≡ false → goes_first now c b ≡ false
  first_along c f b some_c some_f some_b h k =
      from_parts c b (better_along c f b some_f (parts c f h).0 (parts f b k).0) (step (cases_Bool (is_better now b c)) (parts c f h).1 (parts f b k).1)
    where
      step : (is_better now b c ≡ true) ⊎ (is_better now b c ≡ false) → (is_better now f c ≡ true) ⊎ (f.rank ≤ c.rank) → (is_better now b f ≡ true) ⊎ (b.rank ≤ f.rank) → (is_better now b c ≡ true) ⊎ (b.rank ≤ c.rank)
      step (inl e) x y = inl e
      step (inr e) (inl x) y = absurd (both_ways (is_better now f c) (better_along f b c some_b (parts f b k).0 e) x)
      step (inr e) (inr x) (inl y) = absurd (both_ways (is_better now b f) (better_along b c f some_c e (parts c f h).0) y)
      step (inr e) (inr x) (inr y) = inr (omega (arith, x, y))

  -- of one need the older goes first, and of one age the one of the lesser rank
  pub first_of_need : (c d : Candidate) → 1 ≤ d.need → c.need ≡ d.need → age_at now c ≤ age_at now d → (age_at now c ≡ age_at now d → d.rank ≤ c.rank) → goes_first now c d ≡ false
  first_of_need c d some same older rank =
      from_parts c d (less_not (weight d * c.need) (weight c * d.need) (rw same (mul-le-mul_right d.need (omega (arith, older))))) (step (cases_lt (age_at now c) (age_at now d)))
    where
      step : (age_at now c < age_at now d) ⊎ (age_at now d ≤ age_at now c) → (is_better now d c ≡ true) ⊎ (d.rank ≤ c.rank)
      step (inl less) =
          let more : (weight c + 1) * d.need ≤ weight d * d.need = mul-le-mul_right d.need (omega (arith, less)) in
          inl (lt-ltb (weight c * d.need) (weight d * c.need) (rw same (omega (arith, more, some))))
      step (inr no_less) = inr (rank (omega (arith, older, no_less)))

-- none that is no older and needs as much goes before one that the oldest wouldn't go before
pub over_first : (now age from : ℕ) (c b : Candidate) → age_at now c ≤ age → from ≤ c.need → nat_lt ((age + 1) * b.need) ((age_at now b + 1) * from) ≡ true → goes_first now c b ≡ false
over_first now age from c b older low over =
    let less : (age + 1) * b.need < (age_at now b + 1) * from = ltb-true ((age + 1) * b.need) ((age_at now b + 1) * from) over in
    let mine : (age_at now c + 1) * b.need ≤ (age + 1) * b.need = mul-le-mul_right b.need (omega (arith, older)) in
    let its : (age_at now b + 1) * from ≤ (age_at now b + 1) * c.need = mul-le-mul_left (age_at now b + 1) low in
    from_parts now c b (less_not ((age_at now b + 1) * c.need) ((age_at now c + 1) * b.need) (omega (arith, less, mine, its)))
    (inl (lt-ltb ((age_at now c + 1) * b.need) ((age_at now b + 1) * c.need) (omega (arith, less, mine, its))))

-- by the keys of ages
pub older_by_key : (now : ℕ) (c d : Candidate) → c.rank < 2 ^ 64 → d.arrival * 2 ^ 64 + d.rank ≤ c.arrival * 2 ^ 64 + c.rank → d.arrival ≤ c.arrival
older_by_key now c d few low = omega (arith, few, low)

pub rank_by_key : (c d : Candidate) → d.arrival * 2 ^ 64 + d.rank ≤ c.arrival * 2 ^ 64 + c.rank → c.arrival ≡ d.arrival → d.rank ≤ c.rank
rank_by_key c d low same = omega (arith, low, same)
