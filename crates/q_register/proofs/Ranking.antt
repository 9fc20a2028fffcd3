-- The ranks follow what happens to the places, and show the first.
use Rattle.std.proofs.Common.{◌≡◌, ℕ, ◌++◌, ◌<◌, ◌≤◌, ap, List, [], ◌∷◌, Option, set, suc, zero, refl, arith, length}
use Rattle.q_register.specs.declared.member.Member.{Member}
use Rattle.q_register.specs.Places.{rank_of, ranks_of}

module _ {K T : Type 0} where
  -- an empty place is taken
  pub ranks-added : (n : ℕ) (xs : List (Option (Member K T))) (x : Option (Member K T)) → length xs < n → ranks_of n (xs ++ x ∷ []) ≡ set (ranks_of n xs) (length xs) (rank_of x)
  ranks-added zero xs x h = absurd (omega (arith, h))
  ranks-added (suc n) [] x h = refl
  ranks-added (suc n) (y ∷ xs) x h = ap (λ (rs : List ℕ). rank_of y ∷ rs) (ranks-added n xs x (omega (arith, h)))

  -- a place gets another member
  pub ranks-set : (n p : ℕ) (xs : List (Option (Member K T))) (x : Option (Member K T)) → p < length xs → length xs ≤ n → ranks_of n (set xs p x) ≡ set (ranks_of n xs) p (rank_of x)
  ranks-set n p [] x h few = absurd (omega (arith, h))
  ranks-set zero p (y ∷ xs) x h few = absurd (omega (arith, few))
  ranks-set (suc n) zero (y ∷ xs) x h few = refl
  ranks-set (suc n) (suc p) (y ∷ xs) x h few = ap (λ (rs : List ℕ). rank_of y ∷ rs) (ranks-set n p xs x (omega (arith, h)) (omega (arith, few)))
