-- Of which tickets there are fewer.
use Rattle.std.proofs.Common.{◌≡◌, ◌∙◌, ◌∷◌, ◌<◌, ◌≤◌, [], ap, arith, Bool, cond, false, inl, inr, length, List, refl, sym, true}
use Rattle.std.proofs.lemmas.Bool.{both_ways, or_cases}
use Rattle.std.specs.Prelude.{filter}
use Rattle.q_heads.proofs.Standing.{same_is}
use Rattle.q_heads.specs.Lanes.{is_same, stands}
use Rattle.q_sorted.specs.declared.ticket.Ticket.{Ticket}

most_step : (x : Ticket) (xs ys : List Ticket) (t u : Bool) → (u ≡ true → t ≡ true) → length ys ≤ length xs → length (cond u (x ∷ ys) ys) ≤ length (cond t (x ∷ xs) xs)
most_step x xs ys true true h rest = omega (arith, rest)
most_step x xs ys true false h rest = omega (arith, rest)
most_step x xs ys false true h rest = absurd (both_ways false refl (h refl))
most_step x xs ys false false h rest = rest

most_pass : (p q : Ticket → Bool) (xs : List Ticket) → ((x : Ticket) → q x ≡ true → p x ≡ true) → length (filter q xs) ≤ length (filter p xs)
most_pass p q [] h = omega arith
most_pass p q (x ∷ xs) h = most_step x (filter p xs) (filter q xs) (p x) (q x) (h x) (most_pass p q xs h)

here_step : (x : Ticket) (xs ys : List Ticket) (t u : Bool) → t ≡ true → u ≡ false → length ys ≤ length xs → length (cond u (x ∷ ys) ys) < length (cond t (x ∷ xs) xs)
here_step x xs ys true false p q rest = omega (arith, rest)
here_step x xs ys true true p q rest = absurd cc
here_step x xs ys false u p q rest = absurd cc

later_step : (x : Ticket) (xs ys : List Ticket) (t u : Bool) → (u ≡ true → t ≡ true) → length ys < length xs → length (cond u (x ∷ ys) ys) < length (cond t (x ∷ xs) xs)
later_step x xs ys true true h rest = omega (arith, rest)
later_step x xs ys true false h rest = omega (arith, rest)
later_step x xs ys false true h rest = absurd (both_ways false refl (h refl))
later_step x xs ys false false h rest = rest

-- fewer pass the test that one fails
pub fewer_pass : (p q : Ticket → Bool) (e : Ticket) (xs : List Ticket) → ((x : Ticket) → q x ≡ true → p x ≡ true) → stands e xs ≡ true → p e ≡ true → q e ≡ false → length (filter q xs) < length (filter p xs)
fewer_pass p q e [] h there passes fails = absurd cc
fewer_pass p q e (x ∷ xs) h there passes fails =
    elim (or_cases (is_same e x) (stands e xs) there) [
      | inl here ↦ here_step x (filter p xs) (filter q xs) (p x) (q x) (ap p (sym (same_is e x here)) ∙ passes) (ap q (sym (same_is e x here)) ∙ fails) (most_pass p q xs h)
      | inr later ↦ later_step x (filter p xs) (filter q xs) (p x) (q x) (h x) (fewer_pass p q e xs h later passes fails)
    ]
