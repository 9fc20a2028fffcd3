-- A walk along items under numbers.
use Rattle.std.proofs.Common.{◌≡◌, ◌∙◌, ◌∷◌, [], ap, Bool, cond, false, List, None, Option, option_map, refl, Some, subst, sym, true, ℕ}
use Rattle.std.proofs.lemmas.Bool.{eqb-true}
use Rattle.std.specs.List.{list_any}
use Rattle.std.specs.Option.{is_some}
use Rattle.std.specs.Prelude.{◌==◌, find, IfSome}
use Rattle.q_model.proofs.EachLaws.{find-any}
use Rattle.q_keyed.specs.Numbered.{AreApart, first_number, has_number, item_at, next_number, Numbered}
use Rattle.q_chains.proofs.Numbers.{flipped, own_test}

module _ {T : Type 0} where
  -- the item of this number and those behind it
  abbrev pub from_on : Option ℕ → List (Numbered T) → List (Numbered T)
  from_on None ks = []
  from_on (Some n) [] = []
  from_on (Some n) (k ∷ ks) = cond (k.number == n) (k ∷ ks) (from_on (Some n) ks)

  abbrev pub behind_number : ℕ → List (Numbered T) → List (Numbered T)
  behind_number n [] = []
  behind_number n (k ∷ ks) = cond (k.number == n) ks (behind_number n ks)

  pub from_first : (ks : List (Numbered T)) → from_on (first_number ks) ks ≡ ks
  from_first [] = refl
  from_first (k ∷ ks) = ap (λ t. cond t (k ∷ ks) (from_on (Some k.number) ks)) (own_test k.number)

  lacks_step : (n : ℕ) (k : Numbered T) (ks : List (Numbered T)) (t : Bool) → cond t (Some k) (find (has_number n) ks) ≡ None → (t ≡ false) × (find (has_number n) ks ≡ None)
  lacks_step n k ks true h = cc
  lacks_step n k ks false h = (refl, h)

  lacks_head : (n : ℕ) (k : Numbered T) (ks : List (Numbered T)) → find (has_number n) (k ∷ ks) ≡ None → ((k.number == n) ≡ false) × (find (has_number n) ks ≡ None)
  lacks_head n k ks h = lacks_step n k ks (k.number == n) h

  lacks_behind_step : (n m : ℕ) (ks : List (Numbered T)) (t : Bool) → find (has_number m) ks ≡ None → find (has_number m) (behind_number n ks) ≡ None → find (has_number m) (cond t ks (behind_number n ks)) ≡ None
  lacks_behind_step n m ks true h rest = h
  lacks_behind_step n m ks false h rest = rest

  lacks_behind : (n m : ℕ) (ks : List (Numbered T)) → find (has_number m) ks ≡ None → find (has_number m) (behind_number n ks) ≡ None
  lacks_behind n m [] h = refl
  lacks_behind n m (k ∷ ks) h = let parts = lacks_head m k ks h in lacks_behind_step n m ks (k.number == n) parts.1 (lacks_behind n m ks parts.1)

  -- a walk that begins behind an item doesn't come by it
  from_behind : (k : Numbered T) (ks ls : List (Numbered T)) → find (has_number k.number) ls ≡ None → from_on (first_number ls) ks ≡ ls → from_on (first_number ls) (k ∷ ks) ≡ ls
  from_behind k ks [] lacks rest = refl
  from_behind k ks (l ∷ ls) lacks rest =
      let parts = lacks_head k.number l ls lacks in
      ap (λ t. cond t (k ∷ ks) (from_on (Some l.number) ks)) (flipped k.number l.number ∙ parts.0) ∙ rest

  next_step : (n : ℕ) (k : Numbered T) (ks : List (Numbered T)) (t : Bool) → find (has_number k.number) ks ≡ None → next_number n ks ≡ first_number (behind_number n ks) → from_on (next_number n ks) ks ≡ behind_number n ks →
      from_on (cond t (first_number ks) (next_number n ks)) (k ∷ ks) ≡ cond t ks (behind_number n ks)
  next_step n k ks true lacks is rest = from_behind k ks ks lacks (from_first ks)
  next_step n k ks false lacks is rest =
      ap (λ o. from_on o (k ∷ ks)) is
      ∙ from_behind k ks (behind_number n ks) (lacks_behind n k.number ks lacks) (ap (λ o. from_on o ks) (sym is) ∙ rest)

  next_is_step : (n : ℕ) (ks : List (Numbered T)) (t : Bool) → next_number n ks ≡ first_number (behind_number n ks) → cond t (first_number ks) (next_number n ks) ≡ first_number (cond t ks (behind_number n ks))
  next_is_step n ks true rest = refl
  next_is_step n ks false rest = rest

  next_is : (n : ℕ) (ks : List (Numbered T)) → next_number n ks ≡ first_number (behind_number n ks)
  next_is n [] = refl
  next_is n (k ∷ ks) = next_is_step n ks (k.number == n) (next_is n ks)

  from_next : (n : ℕ) (ks : List (Numbered T)) → AreApart ks → from_on (next_number n ks) ks ≡ behind_number n ks
  from_next n [] apart = refl
  from_next n (k ∷ ks) apart = next_step n k ks (k.number == n) apart.0 (next_is n ks) (from_next n ks apart.1)

  here_step : (n : ℕ) (x : T) (k : Numbered T) (ks : List (Numbered T)) (t : Bool) → (k.number == n) ≡ t → option_map (λ (k : Numbered T). k.item) (cond t (Some k) (find (has_number n) ks)) ≡ Some x →
      (item_at n ks ≡ Some x → from_on (Some n) ks ≡ record { number = n; item = x } ∷ behind_number n ks) → cond t (k ∷ ks) (from_on (Some n) ks) ≡ record { number = n; item = x } ∷ cond t ks (behind_number n ks)
  here_step n x k ks true e there rest =
      let same : k.item ≡ x = cc in
      let number : k.number ≡ n = eqb-true k.number n e in
      ap (λ (y : T). record { number = k.number; item = y } ∷ ks) same ∙ ap (λ m. record { number = m; item = x } ∷ ks) number
  here_step n x k ks false e there rest = rest there

  from_here : (n : ℕ) (x : T) (ks : List (Numbered T)) → item_at n ks ≡ Some x → from_on (Some n) ks ≡ record { number = n; item = x } ∷ behind_number n ks
  from_here n x [] there = cc
  from_here n x (k ∷ ks) there = here_step n x k ks (k.number == n) refl there (from_here n x ks)

  own_lacks_step : (n : ℕ) (k : Numbered T) (ks : List (Numbered T)) (t : Bool) → (k.number == n) ≡ t → find (has_number k.number) ks ≡ None → find (has_number n) (behind_number n ks) ≡ None → find (has_number n) (cond t ks (behind_number n ks)) ≡ None
  own_lacks_step n k ks true e lacks rest = ap (λ m. find (has_number m) ks) (sym (eqb-true k.number n e)) ∙ lacks
  own_lacks_step n k ks false e lacks rest = rest

  own_lacks : (n : ℕ) (ks : List (Numbered T)) → AreApart ks → find (has_number n) (behind_number n ks) ≡ None
  own_lacks n [] apart = refl
  own_lacks n (k ∷ ks) apart = own_lacks_step n k ks (k.number == n) refl apart.0 (own_lacks n ks apart.1)

  -- an item isn't among those behind it
  pub lacks_own : (n : ℕ) (next : Option ℕ) (ks : List (Numbered T)) → AreApart ks → next ≡ next_number n ks → list_any (has_number n) (from_on next ks) ≡ false
  lacks_own n next ks apart is =
      ap (λ o. list_any (has_number n) (from_on o ks)) is ∙ ap (list_any (has_number n)) (from_next n ks apart)
      ∙ sym (find-any (has_number n) (behind_number n ks)) ∙ ap is_some (own_lacks n ks apart)

  -- One step of a walk, from an item to the one right behind it.
  pub one_on : (n : ℕ) (x : T) (at next : Option ℕ) (ks : List (Numbered T)) → AreApart ks → at ≡ Some n → item_at n ks ≡ Some x → next ≡ next_number n ks → from_on at ks ≡ record { number = n; item = x } ∷ from_on next ks
  one_on n x at next ks apart here there is =
      ap (λ o. from_on o ks) here ∙ from_here n x ks there
      ∙ ap (λ ls. record { number = n; item = x } ∷ ls) (sym (from_next n ks apart) ∙ ap (λ o. from_on o ks) (sym is))

  -- a walk comes by items that there are
  abbrev pub StandsIn : List (Numbered T) → Option ℕ → Type 0
  StandsIn ks at = IfSome at (λ n. is_some (item_at n ks) ≡ true)

  own_stands : (k : Numbered T) (ks : List (Numbered T)) → is_some (item_at k.number (k ∷ ks)) ≡ true
  own_stands k ks = ap (λ t. is_some (option_map (λ (k : Numbered T). k.item) (cond t (Some k) (find (has_number k.number) ks)))) (own_test k.number)

  more_step : (i : ℕ) (k : Numbered T) (ks : List (Numbered T)) (t : Bool) → is_some (item_at i ks) ≡ true → is_some (option_map (λ (k : Numbered T). k.item) (cond t (Some k) (find (has_number i) ks))) ≡ true
  more_step i k ks true h = refl
  more_step i k ks false h = h

  more_stands : (k : Numbered T) (ks : List (Numbered T)) (o : Option ℕ) → StandsIn ks o → StandsIn (k ∷ ks) o
  more_stands k ks None h = tt
  more_stands k ks (Some i) h = more_step i k ks (k.number == i) h

  first_of_stands : (ks : List (Numbered T)) → StandsIn ks (first_number ks)
  first_of_stands [] = tt
  first_of_stands (k ∷ ks) = own_stands k ks

  next_of_step : (n : ℕ) (k : Numbered T) (ks : List (Numbered T)) (t : Bool) → StandsIn ks (next_number n ks) → StandsIn (k ∷ ks) (cond t (first_number ks) (next_number n ks))
  next_of_step n k ks true rest = more_stands k ks (first_number ks) (first_of_stands ks)
  next_of_step n k ks false rest = more_stands k ks (next_number n ks) rest

  next_of_stands : (n : ℕ) (ks : List (Numbered T)) → StandsIn ks (next_number n ks)
  next_of_stands n [] = tt
  next_of_stands n (k ∷ ks) = next_of_step n k ks (k.number == n) (next_of_stands n ks)

  pub first_stands : (at : Option ℕ) (ks : List (Numbered T)) → at ≡ first_number ks → StandsIn ks at
  first_stands at ks is = subst (StandsIn ks) (sym is) (first_of_stands ks)

  pub next_stands : (n : ℕ) (next : Option ℕ) (ks : List (Numbered T)) → next ≡ next_number n ks → StandsIn ks next
  next_stands n next ks is = subst (StandsIn ks) (sym is) (next_of_stands n ks)

  some_step : (o : Option T) → is_some o ≡ true → (x : T) × (o ≡ Some x)
  some_step None h = absurd cc
  some_step (Some x) h = (x, refl)

  pub item_stands : (n : ℕ) (at : Option ℕ) (ks : List (Numbered T)) → at ≡ Some n → StandsIn ks at → (x : T) × (item_at n ks ≡ Some x)
  item_stands n at ks here h = some_step (item_at n ks) (subst (StandsIn ks) here h)
