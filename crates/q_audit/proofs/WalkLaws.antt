-- A walk that changes each item of a list.
use Rattle.std.proofs.Common.{◌≡◌, ◌<◌, ◌+◌, ◌++◌, ◌∷◌, ◌∙◌, [], ℕ, zero, suc, List, length, map, take, drop, refl, ap, arith}
use Rattle.std.specs.Prelude.{slice_index_or, slice_set}

-- so many items are changed, and the others aren't yet
abbrev pub changed : {A : Type 0} → (A → A) → ℕ → List A → List A
changed f i xs = map f (take i xs) ++ drop i xs

one_more : {A : Type 0} (f : A → A) (xs : List A) (i : ℕ) (d : A) → i < length xs → slice_set (changed f i xs) i (f (slice_index_or (changed f i xs) i d)) ≡ changed f (suc i) xs
one_more f [] i d h = absurd (omega (arith, h))
one_more f (a ∷ xs) zero d h = refl
one_more {A} f (a ∷ xs) (suc i) d h = ap (λ (ys : List A). f a ∷ ys) (one_more f xs i d (omega (arith, h)))

next : (i : ℕ) → suc i ≡ i + 1
next i = omega arith

pub next_changed : {A : Type 0} (f : A → A) (xs : List A) (i : ℕ) (d : A) → i < length xs → slice_set (changed f i xs) i (f (slice_index_or (changed f i xs) i d)) ≡ changed f (i + 1) xs
next_changed f xs i d h = one_more f xs i d h ∙ ap (λ (n : ℕ). changed f n xs) (next i)
