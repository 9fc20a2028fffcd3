-- A list that is parted at a place.
use Rattle.std.proofs.Common.{◌≡◌, ℕ, zero, suc, ◌<◌, ◌≤◌, Bool, true, false, List, [], ◌∷◌, ◌++◌, length, find, take, drop, get_or, slice_get, Some, refl, ap, arith}
use Rattle.std.specs.List.{AllByRecursion}

-- what stands at a place parts a list
pub parts_at : {A : Type 0} (xs : List A) (i : ℕ) (x : A) → slice_get xs i ≡ Some x → xs ≡ take i xs ++ x ∷ drop (suc i) xs
parts_at [] i x h = absurd cc
parts_at (y ∷ ys) zero x h = let same : y ≡ x = cc in ap (λ z. z ∷ ys) same
parts_at (y ∷ ys) (suc i) x h = ap (λ zs. y ∷ zs) (parts_at ys i x h)

pub at_drop : {A : Type 0} (xs : List A) (i : ℕ) → slice_get (drop i xs) 0 ≡ slice_get xs i
at_drop [] zero = refl
at_drop [] (suc i) = refl
at_drop (x ∷ xs) zero = refl
at_drop (x ∷ xs) (suc i) = at_drop xs i

-- a fact of each element before a place, and of each from it on
pub each_before : {A : Type 0} (P : A → Type 0) (xs : List A) (i : ℕ) → ((k : ℕ) (d : A) → k < i → P (get_or xs k d)) → i ≤ length xs → AllByRecursion P (take i xs)
each_before P xs zero h within = tt
each_before P [] (suc i) h within = tt
each_before P (x ∷ xs) (suc i) h within = (h zero x (omega arith), each_before P xs i (λ k d lt. h (suc k) d (omega (arith, lt))) (omega (arith, within)))

pub each_from : {A : Type 0} (P : A → Type 0) (xs : List A) (i : ℕ) → ((k : ℕ) (d : A) → i ≤ k → k < length xs → P (get_or xs k d)) → AllByRecursion P (drop i xs)
each_from P [] zero h = tt
each_from P [] (suc i) h = tt
each_from P (x ∷ xs) zero h = (h zero x (omega arith) (omega arith), each_from P xs zero (λ k d ge lt. h (suc k) d (omega arith) (omega (arith, lt))))
each_from P (x ∷ xs) (suc i) h = each_from P xs i (λ k d ge lt. h (suc k) d (omega (arith, ge)) (omega (arith, lt)))

pub each_at : {A : Type 0} (P : A → Type 0) (xs : List A) (i : ℕ) (d : A) → AllByRecursion P xs → i < length xs → P (get_or xs i d)
each_at P [] i d h lt = absurd (omega (arith, lt))
each_at P (x ∷ xs) zero d h lt = h.0
each_at P (x ∷ xs) (suc i) d h lt = each_at P xs i d h.1 (omega (arith, lt))

pub each_parts : {A : Type 0} (P : A → Type 0) (xs ys : List A) → AllByRecursion P (xs ++ ys) → AllByRecursion P xs × AllByRecursion P ys
each_parts P [] ys h = (tt, h)
each_parts P (x ∷ xs) ys h = let rest = each_parts P xs ys h.1 in ((h.0, rest.0), rest.1)

-- the first that passes is the first from the place on
pub find_from : {A : Type 0} (test : A → Bool) (xs ys : List A) → AllByRecursion (λ x. test x ≡ false) xs → AllByRecursion (λ y. test y ≡ true) ys → find test (xs ++ ys) ≡ slice_get ys 0
find_from test [] [] none each = refl
find_from test [] (y ∷ ys) none each = rw each.0 refl
find_from test (x ∷ xs) ys none each = rw none.0 (find_from test xs ys none.1 each)
