-- Which things under numbers pass a test, as one comes under a number or goes.
use Rattle.std.proofs.Common.{◌≡◌, ◌%◌, ◌<◌, ◌≤◌, ap, arith, Bool, length, List, None, Option, set, Some, true, ℕ}
use Rattle.std.proofs.lemmas.List.{get_or-set_other, get_or-set_same}
use Rattle.q_chains.specs.Slots.{passes, passes_in}

pub bucket_below : (hash room : ℕ) → 1 ≤ room → hash % room < room
bucket_below hash room h = omega (arith, h)

module _ {T : Type 0} where
  -- another thing under a number, or none
  pub passes_alike : (p : T → Bool) (slots : List (Option T)) (n m : ℕ) (o : Option T) → (m ≡ n → ⊥) → passes p (set slots n o) m ≡ passes p slots m
  passes_alike p slots n m o h = ap (passes_in p) (get_or-set_other slots n m o None h)

  pub passes_own : (p : T → Bool) (slots : List (Option T)) (n : ℕ) (o : Option T) → n < length slots → passes p (set slots n o) n ≡ passes_in p o
  passes_own p slots n o h = ap (passes_in p) (get_or-set_same slots n o None h)

  pub passes_only : (p q : T → Bool) (o : Option T) → ((x : T) → p x ≡ true → q x ≡ true) → passes_in p o ≡ true → passes_in q o ≡ true
  passes_only p q None only h = cc
  passes_only p q (Some x) only h = only x h
