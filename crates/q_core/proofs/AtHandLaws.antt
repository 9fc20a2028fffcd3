-- Searches of a list from place to place, and what is left of a list without one of its items.
use Rattle.std.proofs.Common.{◌≡◌, ℕ, ◌≤◌, Bool, true, false, List, [], ◌∷◌, None, Option, Some, refl, ap, arith, suc, zero, length, take, cond, not, filter, find, slice_get}
use Rattle.std.specs.List.{remove}

module _ {X : Type 0} (q : X → Bool) where
  step : (y : X) (a b : Option X) (test : Bool) → cond test (Some y) a ≡ None → (a ≡ None → b ≡ None) → cond test (Some y) b ≡ None
  step y a b true none more = none
  step y a b false none more = more none

  found : (y x : X) (a b : Option X) (test : Bool) → cond test (Some y) a ≡ None → (a ≡ None → b ≡ Some x) → cond test (Some y) b ≡ Some x
  found y x a b true none more = cc
  found y x a b false none more = more none

  find_next : (i : ℕ) (xs : List X) (x : X) → find q (take i xs) ≡ None → slice_get xs i ≡ Some x → q x ≡ false → find q (take (suc i) xs) ≡ None
  find_next i [] x none at unlike = cc
  find_next zero (y ∷ xs) x none at unlike = let same : y ≡ x = cc in rw same (rw unlike refl)
  find_next (suc i) (y ∷ xs) x none at unlike = step y (find q (take i xs)) (find q (take (suc i) xs)) (q y) none (λ h. find_next i xs x h at unlike)

  -- none among the places so far, nor at this one
  -- none before this place, but there
  pub find_here : (i : ℕ) (xs : List X) (x : X) → find q (take i xs) ≡ None → slice_get xs i ≡ Some x → q x ≡ true → find q xs ≡ Some x
  find_here i [] x none at like = cc
  find_here zero (y ∷ xs) x none at like = let same : y ≡ x = cc in rw same (rw like refl)
  find_here (suc i) (y ∷ xs) x none at like = found y x (find q (take i xs)) (find q xs) (q y) none (λ h. find_here i xs x h at like)

  -- none among all places
  pub find_nowhere : (i : ℕ) (xs : List X) → length xs ≤ i → find q (take i xs) ≡ None → find q xs ≡ None
  find_nowhere i [] h none = refl
  find_nowhere zero (y ∷ xs) h none = absurd (omega (arith, h))
  find_nowhere (suc i) (y ∷ xs) h none = step y (find q (take i xs)) (find q xs) (q y) none (λ k. find_nowhere i xs (omega (arith, h)) k)

  whole_step : (y : X) (rest : Option X) (ys xs : List X) (test : Bool) → cond (not test) (Some y) rest ≡ None → (rest ≡ None → ys ≡ xs) → cond test (y ∷ ys) ys ≡ y ∷ xs
  whole_step y rest ys xs true none more = ap (λ (zs : List X). y ∷ zs) (more none)
  whole_step y rest ys xs false none more = cc

  -- where none goes the list stays
  pub filter_whole : (xs : List X) → find (λ x. not (q x)) xs ≡ None → filter q xs ≡ xs
  filter_whole [] none = refl
  filter_whole (y ∷ xs) none = whole_step y (find (λ x. not (q x)) xs) (filter q xs) xs (q y) none (filter_whole xs)

  -- the item that goes may go before
  pub filter_without : (i : ℕ) (xs : List X) (x : X) → slice_get xs i ≡ Some x → q x ≡ false → filter q (remove xs i) ≡ filter q xs
  filter_without i [] x at unlike = cc
  filter_without zero (y ∷ xs) x at unlike = let same : y ≡ x = cc in rw same (rw unlike refl)
  filter_without (suc i) (y ∷ xs) x at unlike = ap (λ (zs : List X). cond (q y) (y ∷ zs) zs) (filter_without i xs x at unlike)
