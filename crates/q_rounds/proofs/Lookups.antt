-- What stands under a number, and under which number the first that passes stands, as items come, change and go.
use Rattle.std.proofs.Common.{◌≡◌, ◌≢◌, ◌∙◌, ◌∷◌, ◌++◌, ◌<◌, ◌≤◌, [], ap, arith, Bool, cond, false, length, List, map, None, not, Option, option_map, refl, Some, sym, true, ℕ, ◌+◌}
use Rattle.std.proofs.lemmas.Bool.{eq-eqb, eqb-true, ne_eqb}
use Rattle.std.specs.Option.{is_some}
use Rattle.std.specs.Prelude.{◌==◌, find}
use Rattle.q_keyed.proofs.Values.{NonePass}
use Rattle.q_keyed.specs.Numbered.{AreApart, first_such, has_number, item_at, Numbered, put_at, values_of, without_number}

module _ {T : Type 0} where
  abbrev the_item : Option (Numbered T) → Option T
  the_item o = option_map (λ (k : Numbered T). k.item) o

  -- One more behind all others.
  own_more_step : (n : ℕ) (x : T) (k : Numbered T) (ks : List (Numbered T)) (t : Bool) → cond t (Some k) (find (has_number n) ks) ≡ None → (find (has_number n) ks ≡ None → item_at n (ks ++ record { number = n; item = x } ∷ []) ≡ Some x) →
      the_item (cond t (Some k) (find (has_number n) (ks ++ record { number = n; item = x } ∷ []))) ≡ Some x
  own_more_step n x k ks true free rest = cc
  own_more_step n x k ks false free rest = rest free

  pub own_more : (n : ℕ) (x : T) (ks : List (Numbered T)) → find (has_number n) ks ≡ None → item_at n (ks ++ record { number = n; item = x } ∷ []) ≡ Some x
  own_more n x [] free = ap (λ t. the_item (cond t (Some (record { number = n; item = x })) None)) (eq-eqb n n refl)
  own_more n x (k ∷ ks) free = own_more_step n x k ks (k.number == n) free (own_more n x ks)

  both_items : (m : ℕ) (k : Numbered T) (ks ls : List (Numbered T)) (t : Bool) → item_at m ks ≡ item_at m ls → the_item (cond t (Some k) (find (has_number m) ks)) ≡ the_item (cond t (Some k) (find (has_number m) ls))
  both_items m k ks ls true rest = refl
  both_items m k ks ls false rest = rest

  pub other_more : (n m : ℕ) (x : T) (ks : List (Numbered T)) → m ≢ n → item_at m (ks ++ record { number = n; item = x } ∷ []) ≡ item_at m ks
  other_more n m x [] other = ap (λ t. the_item (cond t (Some (record { number = n; item = x })) None)) (ne_eqb n m (λ same. other (sym same)))
  other_more n m x (k ∷ ks) other = both_items m k (ks ++ record { number = n; item = x } ∷ []) ks (k.number == m) (other_more n m x ks other)

  -- Another item.
  own_put_step : (n : ℕ) (x : T) (k : Numbered T) (ks : List (Numbered T)) (t : Bool) → (k.number == n) ≡ t → is_some (the_item (cond t (Some k) (find (has_number n) ks))) ≡ true → (is_some (item_at n ks) ≡ true → item_at n (map (put_at n x) ks) ≡ Some x) →
      the_item (cond ((cond t (record { number = n; item = x }) k).number == n) (Some (cond t (record { number = n; item = x }) k)) (find (has_number n) (map (put_at n x) ks))) ≡ Some x
  own_put_step n x k ks true e there rest = ap (λ t. the_item (cond t (Some (record { number = n; item = x })) (find (has_number n) (map (put_at n x) ks)))) (eq-eqb n n refl)
  own_put_step n x k ks false e there rest = ap (λ t. the_item (cond t (Some k) (find (has_number n) (map (put_at n x) ks)))) e ∙ rest there

  pub own_put : (n : ℕ) (x : T) (ks : List (Numbered T)) → is_some (item_at n ks) ≡ true → item_at n (map (put_at n x) ks) ≡ Some x
  own_put n x [] there = absurd cc
  own_put n x (k ∷ ks) there = own_put_step n x k ks (k.number == n) refl there (own_put n x ks)

  other_put_step : (n m : ℕ) (x : T) (k : Numbered T) (ks : List (Numbered T)) (t : Bool) → (k.number == n) ≡ t → m ≢ n → item_at m (map (put_at n x) ks) ≡ item_at m ks →
      the_item (cond ((cond t (record { number = n; item = x }) k).number == m) (Some (cond t (record { number = n; item = x }) k)) (find (has_number m) (map (put_at n x) ks))) ≡ the_item (cond (k.number == m) (Some k) (find (has_number m) ks))
  other_put_step n m x k ks true e other rest =
      ap (λ t. the_item (cond t (Some (record { number = n; item = x })) (find (has_number m) (map (put_at n x) ks)))) (ne_eqb n m (λ same. other (sym same)))
      ∙ rest
      ∙ ap (λ t. the_item (cond t (Some k) (find (has_number m) ks))) (sym (ne_eqb k.number m (λ same. other (sym same ∙ eqb-true k.number n e))))
  other_put_step n m x k ks false e other rest = both_items m k (map (put_at n x) ks) ks (k.number == m) rest

  pub other_put : (n m : ℕ) (x : T) (ks : List (Numbered T)) → m ≢ n → item_at m (map (put_at n x) ks) ≡ item_at m ks
  other_put n m x [] other = refl
  other_put n m x (k ∷ ks) other = other_put_step n m x k ks (k.number == n) refl other (other_put n m x ks other)

  -- One less.
  own_left_step : (n : ℕ) (k : Numbered T) (ks : List (Numbered T)) (t : Bool) → (k.number == n) ≡ t → find (has_number n) ks ≡ None → find (has_number n) (cond (not t) (k ∷ ks) ks) ≡ None
  own_left_step n k ks true e rest = rest
  own_left_step n k ks false e rest = ap (λ t. cond t (Some k) (find (has_number n) ks)) e ∙ rest

  pub none_left : (n : ℕ) (ks : List (Numbered T)) → find (has_number n) (without_number n ks) ≡ None
  none_left n [] = refl
  none_left n (k ∷ ks) = own_left_step n k (without_number n ks) (k.number == n) refl (none_left n ks)

  pub own_left : (n : ℕ) (ks : List (Numbered T)) → item_at n (without_number n ks) ≡ None
  own_left n ks = ap the_item (none_left n ks)

  other_left_step : (n m : ℕ) (k : Numbered T) (ks ls : List (Numbered T)) (t : Bool) → (k.number == n) ≡ t → m ≢ n → item_at m ks ≡ item_at m ls → item_at m (cond (not t) (k ∷ ks) ks) ≡ item_at m (k ∷ ls)
  other_left_step n m k ks ls true e other rest =
      rest ∙ ap (λ t. the_item (cond t (Some k) (find (has_number m) ls))) (sym (ne_eqb k.number m (λ same. other (sym same ∙ eqb-true k.number n e))))
  other_left_step n m k ks ls false e other rest = both_items m k ks ls (k.number == m) rest

  pub other_left : (n m : ℕ) (ks : List (Numbered T)) → m ≢ n → item_at m (without_number n ks) ≡ item_at m ks
  other_left n m [] other = refl
  other_left n m (k ∷ ks) other = other_left_step n m k (without_number n ks) ks (k.number == n) refl other (other_left n m ks other)

  most_step : (k : Numbered T) (ks : List (Numbered T)) (t : Bool) → length (cond t (k ∷ ks) ks) ≤ length ks + 1
  most_step k ks true = omega arith
  most_step k ks false = omega arith

  most_left : (n : ℕ) (ks : List (Numbered T)) → length (without_number n ks) ≤ length ks
  most_left n [] = omega arith
  most_left n (k ∷ ks) = omega (arith, most_step k (without_number n ks) (not (k.number == n)), most_left n ks)

  fewer_step : (n : ℕ) (k : Numbered T) (ks ls : List (Numbered T)) (t : Bool) → is_some (the_item (cond t (Some k) (find (has_number n) ks))) ≡ true → length ls ≤ length ks → (is_some (item_at n ks) ≡ true → length ls < length ks) → length (cond (not t) (k ∷ ls) ls) < length (k ∷ ks)
  fewer_step n k ks ls true there most rest = omega (arith, most)
  fewer_step n k ks ls false there most rest = omega (arith, rest there)

  pub fewer_at : (n : ℕ) (ks : List (Numbered T)) → is_some (item_at n ks) ≡ true → length (without_number n ks) < length ks
  fewer_at n [] there = absurd cc
  fewer_at n (k ∷ ks) there = fewer_step n k ks (without_number n ks) (k.number == n) there (most_left n ks) (fewer_at n ks)

  -- The first that passes.
  abbrev the_number : Option (Numbered T) → Option ℕ
  the_number o = option_map (λ (k : Numbered T). k.number) o

  such_more_step : (q : T → Bool) (k l : Numbered T) (ks : List (Numbered T)) (t : Bool) → the_number (cond t (Some k) (find (λ k. q k.item) ks)) ≡ None → (first_such q ks ≡ None → first_such q (ks ++ l ∷ []) ≡ Some l.number) →
      the_number (cond t (Some k) (find (λ k. q k.item) (ks ++ l ∷ []))) ≡ Some l.number
  such_more_step q k l ks true none rest = cc
  such_more_step q k l ks false none rest = rest none

  -- the one that comes is the first
  pub such_more : (q : T → Bool) (l : Numbered T) (ks : List (Numbered T)) → first_such q ks ≡ None → q l.item ≡ true → first_such q (ks ++ l ∷ []) ≡ Some l.number
  such_more q l [] none passes = ap (λ t. the_number (cond t (Some l) None)) passes
  such_more q l (k ∷ ks) none passes = such_more_step q k l ks (q k.item) none (λ n. such_more q l ks n passes)

  such_same_step : (q : T → Bool) (k : Numbered T) (ks ls : List (Numbered T)) (t : Bool) → first_such q ls ≡ first_such q ks → the_number (cond t (Some k) (find (λ k. q k.item) ls)) ≡ the_number (cond t (Some k) (find (λ k. q k.item) ks))
  such_same_step q k ks ls true rest = refl
  such_same_step q k ks ls false rest = rest

  -- one that fails says nothing
  pub such_stays : (q : T → Bool) (l : Numbered T) (ks : List (Numbered T)) → q l.item ≡ false → first_such q (ks ++ l ∷ []) ≡ first_such q ks
  such_stays q l [] fails = ap (λ t. the_number (cond t (Some l) None)) fails
  such_stays q l (k ∷ ks) fails = such_same_step q k ks (ks ++ l ∷ []) (q k.item) (such_stays q l ks fails)

  fails_step : (q : T → Bool) (n : ℕ) (x : T) (k : Numbered T) (ks ls : List (Numbered T)) (t : Bool) → the_item (cond t (Some k) (find (has_number n) ks)) ≡ Some x → q x ≡ false → find (has_number k.number) ks ≡ None → (k.number == n) ≡ t →
      (item_at n ks ≡ Some x → first_such q ls ≡ first_such q ks) → (find (has_number n) ks ≡ None → ls ≡ ks) → first_such q (cond (not t) (k ∷ ls) ls) ≡ first_such q (k ∷ ks)
  fails_step q n x k ks ls true there fails apart e rest lacks =
      let same : k.item ≡ x = cc in
      ap (first_such q) (lacks (ap (λ m. find (has_number m) ks) (sym (eqb-true k.number n e)) ∙ apart))
      ∙ ap (λ t. the_number (cond t (Some k) (find (λ k. q k.item) ks))) (sym (ap q same ∙ fails))
  fails_step q n x k ks ls false there fails apart e rest lacks = such_same_step q k ks ls (q k.item) (rest there)

  keep_step : (n : ℕ) (k : Numbered T) (ks ls : List (Numbered T)) (t : Bool) → cond t (Some k) (find (has_number n) ks) ≡ None → (find (has_number n) ks ≡ None → ls ≡ ks) → cond (not t) (k ∷ ls) ls ≡ k ∷ ks
  keep_step n k ks ls true none rest = cc
  keep_step n k ks ls false none rest = ap (λ ms. k ∷ ms) (rest none)

  pub keep_lacking : (n : ℕ) (ks : List (Numbered T)) → find (has_number n) ks ≡ None → without_number n ks ≡ ks
  keep_lacking n [] none = refl
  keep_lacking n (k ∷ ks) none = keep_step n k ks (without_number n ks) (k.number == n) none (keep_lacking n ks)

  -- nor one that goes
  pub such_left : (q : T → Bool) (n : ℕ) (x : T) (ks : List (Numbered T)) → AreApart ks → item_at n ks ≡ Some x → q x ≡ false → first_such q (without_number n ks) ≡ first_such q ks
  such_left q n x [] apart there fails = refl
  such_left q n x (k ∷ ks) apart there fails =
      fails_step q n x k ks (without_number n ks) (k.number == n) there fails apart.0 refl (λ h. such_left q n x ks apart.1 h fails) (keep_lacking n ks)

  -- The first item, and one behind it.
  pub here_at : (k : Numbered T) (ks : List (Numbered T)) → item_at k.number (k ∷ ks) ≡ Some k.item
  here_at k ks = ap (λ t. the_item (cond t (Some k) (find (has_number k.number) ks))) (eq-eqb k.number k.number refl)

  later_step : (m : ℕ) (x : T) (k : Numbered T) (ks : List (Numbered T)) (t : Bool) → (k.number == m) ≡ t → find (has_number k.number) ks ≡ None → item_at m ks ≡ Some x → the_item (cond t (Some k) (find (has_number m) ks)) ≡ Some x
  later_step m x k ks true e lacks there =
      let none : item_at m ks ≡ None = ap (λ i. item_at i ks) (sym (eqb-true k.number m e)) ∙ ap the_item lacks in
      let both : ◌≡◌ {A = Option T} None (Some x) = sym none ∙ there in
      absurd cc
  later_step m x k ks false e lacks there = there

  pub later_at : (m : ℕ) (x : T) (k : Numbered T) (ks : List (Numbered T)) → find (has_number k.number) ks ≡ None → item_at m ks ≡ Some x → item_at m (k ∷ ks) ≡ Some x
  later_at m x k ks lacks there = later_step m x k ks (k.number == m) refl lacks there

  -- Where none passes, the item of a number doesn't.
  none_step : (q : T → Bool) (n : ℕ) (y : T) (k : Numbered T) (ks : List (Numbered T)) (t : Bool) → q k.item ≡ false → the_item (cond t (Some k) (find (has_number n) ks)) ≡ Some y → (item_at n ks ≡ Some y → q y ≡ false) → q y ≡ false
  none_step q n y k ks true fails there rest =
      let same : k.item ≡ y = cc in
      ap q (sym same) ∙ fails
  none_step q n y k ks false fails there rest = rest there

  pub none_at : (q : T → Bool) (n : ℕ) (y : T) (ks : List (Numbered T)) → NonePass q (values_of ks) → item_at n ks ≡ Some y → q y ≡ false
  none_at q n y [] none there = absurd cc
  none_at q n y (k ∷ ks) none there = none_step q n y k ks (k.number == n) none.0 there (none_at q n y ks none.1)

  find_step : (q : T → Bool) (t : T) (ts : List T) (b : Bool) → q t ≡ b → cond b (Some t) (find q ts) ≡ None → (find q ts ≡ None → NonePass q ts) → NonePass q (t ∷ ts)
  find_step q t ts true e h rest = absurd cc
  find_step q t ts false e h rest = (e, rest h)

  pub none_pass : (q : T → Bool) (ts : List T) → find q ts ≡ None → NonePass q ts
  none_pass q [] h = tt
  none_pass q (t ∷ ts) h = find_step q t ts (q t) refl h (none_pass q ts)
