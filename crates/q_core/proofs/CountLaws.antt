-- How many of a list pass a test, as the list changes.
use Rattle.std.proofs.Common.{◌≡◌, ◌∙◌, ◌+◌, ◌≤◌, ap, arith, Bool, cond, length, List, [], ◌∷◌, ◌++◌, refl, Some, subst, suc, sym, zero, ℕ}
use Rattle.std.proofs.lemmas.Grind.{common_steps}
use Rattle.std.specs.List.{remove}
use Rattle.std.specs.Prelude.{count_by, slice_get}

more_step : (b : Bool) (n m : ℕ) → cond b 1 0 + (n + m) ≡ (cond b 1 0 + n) + m
more_step b n m = omega arith

pub counted_step : {X : Type 0} (p : X → Bool) (x : X) (xs : List X) → count_by p (x ∷ xs) ≡ cond (p x) 1 0 + count_by p xs
counted_step p x xs = grind (arith, common_steps)

pub count_more : {X : Type 0} (p : X → Bool) (xs ys : List X) → count_by p (xs ++ ys) ≡ count_by p xs + count_by p ys
count_more p [] ys = let z : count_by p [] ≡ 0 = refl in omega (arith, z)
count_more p (x ∷ xs) ys = counted_step p x (xs ++ ys) ∙ ap (λ n. cond (p x) 1 0 + n) (count_more p xs ys) ∙ more_step (p x) (count_by p xs) (count_by p ys) ∙ ap (λ n. n + count_by p ys) (sym (counted_step p x xs))

one_fewer : {X : Type 0} (p : X → Bool) (x : X) (xs rest : List X) (n : ℕ) → count_by p xs ≡ count_by p rest + n → count_by p (x ∷ xs) ≡ count_by p (x ∷ rest) + n
one_fewer p x xs rest n h = let a = counted_step p x xs in let b = counted_step p x rest in omega (arith, a, b, h)

-- the item at a place is counted, or not
pub count_without : {X : Type 0} (p : X → Bool) (xs : List X) (i : ℕ) (x : X) → slice_get xs i ≡ Some x → count_by p xs ≡ count_by p (remove xs i) + cond (p x) 1 0
count_without p [] i x h = cc
count_without p (y ∷ ys) zero x h = let same : y ≡ x = cc in let a = counted_step p y ys in subst (λ z. count_by p (y ∷ ys) ≡ count_by p ys + cond (p z) 1 0) same (omega (arith, a))
count_without p (y ∷ ys) (suc i) x h = one_fewer p y ys (remove ys i) (cond (p x) 1 0) (count_without p ys i x h)

count_bound : {X : Type 0} (p : X → Bool) (x : X) (xs : List X) (b : Bool) → p x ≡ b → count_by p xs ≤ length xs → count_by p (x ∷ xs) ≤ length (x ∷ xs)
count_bound p x xs b t h = let a = counted_step p x xs in grind (arith, common_steps)

pub count_within : {X : Type 0} (p : X → Bool) (xs : List X) → count_by p xs ≤ length xs
count_within p [] = omega arith
count_within p (x ∷ xs) = count_bound p x xs (p x) refl (count_within p xs)
