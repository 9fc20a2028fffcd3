-- What is found first in a list.
use Rattle.std.proofs.Common.{◌≡◌, ◌∙◌, ◌++◌, ◌≤◌, ap, arith, Bool, cond, false, List, [], ◌∷◌, None, Option, refl, Some, subst, sym, true, ℕ}
use Rattle.std.proofs.lemmas.Grind.{common_steps}
use Rattle.std.specs.List.{AllByRecursion}
use Rattle.std.specs.Option.{option_map_or}
use Rattle.std.specs.Prelude.{◌||◌, filter, find, nat_le, nat_lt}
use Rattle.q_model.specs.Lists.{drop_first, least}

module _ {X : Type 0} where
  narrower_step : (p q : X → Bool) (x y : X) (xs : List X) → (q x ≡ true → p x ≡ true) → (find p xs ≡ Some y → find q xs ≡ Some y) → q y ≡ true → (a b : Bool) → p x ≡ a → q x ≡ b → cond a (Some x) (find p xs) ≡ Some y →
      cond b (Some x) (find q xs) ≡ Some y
  narrower_step p q x y xs within rest own true true s t h = h
  narrower_step p q x y xs within rest own true false s t h =
      let is : x ≡ y = cc in
      let bad : true ≡ false = sym own ∙ ap q (sym is) ∙ t in cc
  narrower_step p q x y xs within rest own false true s t h =
      let bad : true ≡ false = sym (within t) ∙ s in cc
  narrower_step p q x y xs within rest own false false s t h = rest h

  -- the first that passes is the first that passes a narrower test too
  pub find-narrower : (p q : X → Bool) → ((x : X) → q x ≡ true → p x ≡ true) → (xs : List X) (y : X) → find p xs ≡ Some y → q y ≡ true → find q xs ≡ Some y
  find-narrower p q within [] y h own = cc
  find-narrower p q within (x ∷ xs) y h own =
      narrower_step p q x y xs (within x) (λ e. find-narrower p q within xs y e own) own (p x) (q x) refl refl h

  kept_step : (p : X → Bool) (x y : X) (xs ys : List X) → (find p xs ≡ Some y → find p (xs ++ ys) ≡ Some y) → (b : Bool) → cond b (Some x) (find p xs) ≡ Some y → cond b (Some x) (find p (xs ++ ys)) ≡ Some y
  kept_step p x y xs ys rest true h = h
  kept_step p x y xs ys rest false h = rest h

  -- what is found is found where more come behind
  pub find-more : (p : X → Bool) (xs ys : List X) (y : X) → find p xs ≡ Some y → find p (xs ++ ys) ≡ Some y
  find-more p [] ys y h = cc
  find-more p (x ∷ xs) ys y h = kept_step p x y xs ys (find-more p xs ys y) (p x) h

  either_step : (p q : X → Bool) (x : X) (xs : List X) → (find q xs ≡ None → find (λ x. p x || q x) xs ≡ find p xs) → (a b : Bool) → cond b (Some x) (find q xs) ≡ None →
      cond (a || b) (Some x) (find (λ x. p x || q x) xs) ≡ cond a (Some x) (find p xs)
  either_step p q x xs rest true b h = refl
  either_step p q x xs rest false true h = cc
  either_step p q x xs rest false false h = rest h

  -- a test that none passes adds nothing
  pub find-either : (p q : X → Bool) (xs : List X) → find q xs ≡ None → find (λ x. p x || q x) xs ≡ find p xs
  find-either p q [] h = refl
  find-either p q (x ∷ xs) h = either_step p q x xs (find-either p q xs) (p x) (q x) h

  dropped_step : (p q : X → Bool) (x : X) (xs : List X) → (q x ≡ true → p x ≡ false) → find p (drop_first q xs) ≡ find p xs → (b : Bool) → q x ≡ b → find p (cond b xs (x ∷ drop_first q xs)) ≡ find p (x ∷ xs)
  dropped_step p q x xs apart rest true t = ap (λ a. cond a (Some x) (find p xs)) (sym (apart t))
  dropped_step p q x xs apart rest false t = ap (λ o. cond (p x) (Some x) o) rest

  -- one that doesn't pass goes
  pub find-dropped : (p q : X → Bool) → ((x : X) → q x ≡ true → p x ≡ false) → (xs : List X) → find p (drop_first q xs) ≡ find p xs
  find-dropped p q apart [] = refl
  find-dropped p q apart (x ∷ xs) = dropped_step p q x xs (apart x) (find-dropped p q apart xs) (q x) refl

  all_step : (P : X → Type 0) (x y : X) (o : Option X) → P x → (o ≡ Some y → P y) → (b : Bool) → cond b (Some x) o ≡ Some y → P y
  all_step P x y o own rest true h = let is : x ≡ y = cc in subst P is own
  all_step P x y o own rest false h = rest h

  -- what holds of all holds of the one that is found
  pub found-all : (P : X → Type 0) (p : X → Bool) (xs : List X) (y : X) → AllByRecursion P xs → find p xs ≡ Some y → P y
  found-all P p [] y h e = cc
  found-all P p (x ∷ xs) y h e = all_step P x y (find p xs) h.0 (found-all P p xs y h.1) (p x) e

  -- The least by a number is the first of those that have the least number.
  module _ (L : X → ℕ) where
    abbrev sooner : X → X → Bool
    sooner a b = nat_lt (L a) (L b)

    abbrev at_most : ℕ → X → Bool
    at_most m x = nat_le (L x) m

    -- no element that passes has a lower number
    abbrev pub IsLowest : (X → Bool) → ℕ → List X → Type 0
    IsLowest p m [] = Unit {0}
    IsLowest p m (x ∷ xs) = (p x ≡ true → m ≤ L x) × IsLowest p m xs

    -- the one that is chosen is the first with its number, and none has a lower one
    pub record IsLeastOf (p : X → Bool) (xs : List X) (y : X) : Type 0 where
      pub first : find (λ x. cond (p x) (at_most (L y) x) false) xs ≡ Some y
      pub lowest : IsLowest p (L y) xs
      pub passes : p y ≡ true

    le_self : (n : ℕ) → nat_le n n ≡ true
    le_self n = grind (arith, common_steps)

    not_most : (a b : ℕ) → nat_lt a b ≡ true → nat_le b a ≡ false
    not_most a b h = grind (arith, common_steps, h)

    lt_le : (a b : ℕ) → nat_lt a b ≡ true → a ≤ b
    lt_le a b h = grind (arith, common_steps, h)

    not_lt_le : (a b : ℕ) → nat_lt a b ≡ false → b ≤ a
    not_lt_le a b h = grind (arith, common_steps, h)

    within : (n m : ℕ) → nat_le n m ≡ true → m ≤ n → n ≡ m
    within n m h k = grind (arith, common_steps, h, k)

    lower : (p : X → Bool) (m n : ℕ) (xs : List X) → m ≤ n → IsLowest p n xs → IsLowest p m xs
    lower p m n [] h low = tt
    lower p m n (x ∷ xs) h low = (λ t. let a = low.0 t in omega (arith, h, a), lower p m n xs h low.1)

    lowest_step : (p : X → Bool) (m : ℕ) (x y : X) (o : Option X) → (p x ≡ true → m ≤ L x) → (o ≡ Some y → m ≤ L y) → p y ≡ true → (b : Bool) → cond b (Some x) o ≡ Some y → m ≤ L y
    lowest_step p m x y o own rest passes true e = let is : x ≡ y = cc in subst (λ z. m ≤ L z) is (own (ap p is ∙ passes))
    lowest_step p m x y o own rest passes false e = rest e

    pub lowest_found : (p q : X → Bool) (m : ℕ) (xs : List X) (y : X) → IsLowest p m xs → find q xs ≡ Some y → p y ≡ true → m ≤ L y
    lowest_found p q m [] y low e passes = cc
    lowest_found p q m (x ∷ xs) y low e passes =
        lowest_step p m x y (find q xs) low.0 (λ f. lowest_found p q m xs y low.1 f passes) passes (q x) e

    some_least : (x : X) (o : Option X) → Some (option_map_or (λ y. cond (sooner y x) y x) o x) ≡ None → ⊥
    some_least x o h = cc

    none_step : (p : X → Bool) (m : ℕ) (x : X) (xs : List X) → (least sooner (filter p xs) ≡ None → IsLowest p m xs) → (b : Bool) → p x ≡ b → least sooner (cond b (x ∷ filter p xs) (filter p xs)) ≡ None → IsLowest p m (x ∷ xs)
    none_step p m x xs rest true t h = absurd (some_least x (least sooner (filter p xs)) h)
    none_step p m x xs rest false t h = (λ s. let bad : true ≡ false = sym s ∙ t in cc, rest h)

    none_lowest : (p : X → Bool) (m : ℕ) (xs : List X) → least sooner (filter p xs) ≡ None → IsLowest p m xs
    none_lowest p m [] h = tt
    none_lowest p m (x ∷ xs) h = none_step p m x xs (none_lowest p m xs) (p x) refl h

    here : (p : X → Bool) (x : X) (xs : List X) → p x ≡ true → IsLowest p (L x) xs → IsLeastOf p (x ∷ xs) x
    here p x xs t low = record {
      first = ap (λ b. cond (cond b (at_most (L x) x) false) (Some x) (find (λ z. cond (p z) (at_most (L x) z) false) xs)) t
          ∙ ap (λ b. cond b (Some x) (find (λ z. cond (p z) (at_most (L x) z) false) xs)) (le_self (L x));
      lowest = (λ s. omega arith, low);
      passes = t;
    }

    passed_over : (p : X → Bool) (x z : X) (xs : List X) → cond (p x) (at_most (L z) x) false ≡ false → (p x ≡ true → L z ≤ L x) → IsLeastOf p xs z → IsLeastOf p (x ∷ xs) z
    passed_over p x z xs fails low rest = record {
      first = ap (λ b. cond b (Some x) (find (λ y. cond (p y) (at_most (L z) y) false) xs)) fails ∙ rest.first;
      lowest = (low, rest.lowest);
      passes = rest.passes;
    }

    both_step : (p : X → Bool) (x y z : X) (xs : List X) → p x ≡ true → IsLeastOf p xs z → (b : Bool) → sooner z x ≡ b → cond b z x ≡ y → IsLeastOf p (x ∷ xs) y
    both_step p x y z xs t rest true s e =
        subst (λ w. IsLeastOf p (x ∷ xs) w) e
        (passed_over p x z xs (ap (λ b. cond b (at_most (L z) x) false) t ∙ not_most (L z) (L x) s) (λ _. lt_le (L z) (L x) s) rest)
    both_step p x y z xs t rest false s e =
        subst (λ w. IsLeastOf p (x ∷ xs) w) e (here p x xs t (lower p (L x) (L z) xs (not_lt_le (L z) (L x) s) rest.lowest))

    pass_step : (p : X → Bool) (x y : X) (xs : List X) (o : Option X) → least sooner (filter p xs) ≡ o → ((z : X) → o ≡ Some z → IsLeastOf p xs z) → p x ≡ true → Some (option_map_or (λ z. cond (sooner z x) z x) o x) ≡ Some y → IsLeastOf p (x ∷ xs) y
    pass_step p x y xs None s rest t h = let is : x ≡ y = cc in subst (λ w. IsLeastOf p (x ∷ xs) w) is (here p x xs t (none_lowest p (L x) xs s))
    pass_step p x y xs (Some z) s rest t h = let is : cond (sooner z x) z x ≡ y = cc in both_step p x y z xs t (rest z refl) (sooner z x) refl is

    least_step : (p : X → Bool) (x y : X) (xs : List X) → ((z : X) → least sooner (filter p xs) ≡ Some z → IsLeastOf p xs z) → (b : Bool) → p x ≡ b → least sooner (cond b (x ∷ filter p xs) (filter p xs)) ≡ Some y → IsLeastOf p (x ∷ xs) y
    least_step p x y xs rest true t h = pass_step p x y xs (least sooner (filter p xs)) refl rest t h
    least_step p x y xs rest false t h =
        passed_over p x y xs (ap (λ b. cond b (at_most (L y) x) false) t) (λ s. let bad : true ≡ false = sym s ∙ t in cc) (rest y h)

    pub least_is : (p : X → Bool) (xs : List X) (y : X) → least sooner (filter p xs) ≡ Some y → IsLeastOf p xs y
    least_is p [] y h = cc
    least_is p (x ∷ xs) y h = least_step p x y xs (λ z e. least_is p xs z e) (p x) refl h

    one_number : (p : X → Bool) (xs : List X) (y z : X) → IsLeastOf p xs y → IsLeastOf p xs z → L y ≡ L z
    one_number p xs y z a b =
        let down = lowest_found p (λ x. cond (p x) (at_most (L z) x) false) (L y) xs z a.lowest b.first b.passes in
        let up = lowest_found p (λ x. cond (p x) (at_most (L y) x) false) (L z) xs y b.lowest a.first a.passes in
        omega (arith, down, up)

    one_least : (p : X → Bool) (xs : List X) (y z : X) → IsLeastOf p xs y → IsLeastOf p xs z → y ≡ z
    one_least p xs y z a b =
        let number = one_number p xs y z a b in
        let found : find (λ x. cond (p x) (at_most (L z) x) false) xs ≡ Some y = subst (λ m. find (λ x. cond (p x) (at_most m x) false) xs ≡ Some y) number a.first in
        let other = b.first in cc

    -- where none is the least, none passes
    empty_step : (p : X → Bool) (x : X) (xs : List X) → (least sooner (filter p xs) ≡ None → find p xs ≡ None) → (b : Bool) → least sooner (cond b (x ∷ filter p xs) (filter p xs)) ≡ None → cond b (Some x) (find p xs) ≡ None
    empty_step p x xs rest true h = absurd (some_least x (least sooner (filter p xs)) h)
    empty_step p x xs rest false h = rest h

    pub none_least : (p : X → Bool) (xs : List X) → least sooner (filter p xs) ≡ None → find p xs ≡ None
    none_least p [] h = refl
    none_least p (x ∷ xs) h = empty_step p x xs (none_least p xs) (p x) h

    absent_step : (p : X → Bool) (x : X) (xs : List X) → (find p xs ≡ None → filter p xs ≡ []) → (b : Bool) → cond b (Some x) (find p xs) ≡ None → cond b (x ∷ filter p xs) (filter p xs) ≡ []
    absent_step p x xs rest true h = cc
    absent_step p x xs rest false h = rest h

    none_filtered : (p : X → Bool) (xs : List X) → find p xs ≡ None → filter p xs ≡ []
    none_filtered p [] h = refl
    none_filtered p (x ∷ xs) h = absent_step p x xs (none_filtered p xs) (p x) h

    pub least_none : (p : X → Bool) (xs : List X) → find p xs ≡ None → least sooner (filter p xs) ≡ None
    least_none p xs h = ap (least sooner) (none_filtered p xs h)

    narrowed_step : (p : X → Bool) (m : ℕ) (x y : X) (o q : Option X) → (o ≡ Some y → q ≡ None → ⊥) → (b : Bool) → cond (cond b (at_most m x) false) (Some x) o ≡ Some y → cond b (Some x) q ≡ None → ⊥
    narrowed_step p m x y o q rest true e h = cc
    narrowed_step p m x y o q rest false e h = rest e h

    narrowed : (p : X → Bool) (m : ℕ) (xs : List X) (y : X) → find (λ x. cond (p x) (at_most m x) false) xs ≡ Some y → find p xs ≡ None → ⊥
    narrowed p m [] y e h = cc
    narrowed p m (x ∷ xs) y e h = narrowed_step p m x y (find (λ x. cond (p x) (at_most m x) false) xs) (find p xs) (narrowed p m xs y) (p x) e h

    pub is_least : (p : X → Bool) (xs : List X) (y : X) → IsLeastOf p xs y → least sooner (filter p xs) ≡ Some y
    is_least p xs y a = on (least sooner (filter p xs)) refl
      where
        on : (o : Option X) → least sooner (filter p xs) ≡ o → o ≡ Some y
        on None h = absurd (narrowed p (L y) xs y a.first (none_least p xs h))
        on (Some z) h = ap (λ w. Some w) (one_least p xs z y (least_is p xs z h) a)
