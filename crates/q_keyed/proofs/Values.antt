-- For callers: what a call makes of the items without their numbers, where one at most passes a test.
use Rattle.std.proofs.Common.{◌≡◌, ◌∙◌, ◌∷◌, ◌++◌, ◌+◌, [], ap, arith, Bool, cond, false, length, List, map, None, Option, option_map, refl, Some, sym, true, ℕ}
use Rattle.std.proofs.lemmas.Bool.{eq-eqb}
use Rattle.std.proofs.lemmas.List.{map-append}
use Rattle.std.specs.Prelude.{◌==◌, filter, find, not, option_and_then, slice_get}
use Rattle.q_chains.proofs.Numbers.{flipped, own_test}
use Rattle.q_keyed.specs.Numbered.{AreApart, AreKeysApart, first_number, first_such, has_number, inserted_at, item_at, moved_last, next_number, Numbered, put_at, values_of, without_number}

module _ {T : Type 0} where
  -- none of these passes
  abbrev pub NonePass : (T → Bool) → List T → Type 0
  NonePass p [] = Unit {0}
  NonePass p (t ∷ ts) = (p t ≡ false) × NonePass p ts

  -- one of these at most passes
  abbrev pub OnePasses : (T → Bool) → List T → Type 0
  OnePasses p [] = Unit {0}
  OnePasses p (t ∷ ts) = (p t ≡ true → NonePass p ts) × OnePasses p ts

  -- another item in the place of one that passes
  abbrev pub changed_where : (T → Bool) → (T → T) → T → T
  changed_where p f t = cond (p t) (f t) t

  -- one before the first that passes
  abbrev pub inserted_where : (T → Bool) → T → List T → List T
  inserted_where p new [] = []
  inserted_where p new (t ∷ ts) = cond (p t) (new ∷ t ∷ ts) (t ∷ inserted_where p new ts)

  -- those behind the first that passes
  abbrev pub behind_where : (T → Bool) → List T → List T
  behind_where p [] = []
  behind_where p (t ∷ ts) = cond (p t) ts (behind_where p ts)

  pub keep_none : (p : T → Bool) (ts : List T) → NonePass p ts → filter (λ t. not (p t)) ts ≡ ts
  keep_none p [] h = refl
  keep_none p (t ∷ ts) h =
      ap (λ b. cond (not b) (t ∷ filter (λ t. not (p t)) ts) (filter (λ t. not (p t)) ts)) h.0 ∙ ap (λ us. t ∷ us) (keep_none p ts h.1)

  pub change_none : (p : T → Bool) (f : T → T) (ts : List T) → NonePass p ts → map (changed_where p f) ts ≡ ts
  change_none p f [] h = refl
  change_none p f (t ∷ ts) h = ap (λ b. cond b (f t) t ∷ map (changed_where p f) ts) h.0 ∙ ap (λ us. t ∷ us) (change_none p f ts h.1)

  -- none is found among those that don't pass
  pub find_none : (p : T → Bool) (ts : List T) → NonePass p ts → find p ts ≡ None
  find_none p [] h = refl
  find_none p (t ∷ ts) h = ap (λ b. cond b (Some t) (find p ts)) h.0 ∙ find_none p ts h.1

  left_none_step : (p : T → Bool) (t : T) (ts : List T) (b : Bool) → p t ≡ b → NonePass p (filter (λ t. not (p t)) ts) → NonePass p (cond (not b) (t ∷ filter (λ t. not (p t)) ts) (filter (λ t. not (p t)) ts))
  left_none_step p t ts true e rest = rest
  left_none_step p t ts false e rest = (e, rest)

  -- none passes of those that are left
  pub left_none : (p : T → Bool) (ts : List T) → NonePass p (filter (λ t. not (p t)) ts)
  left_none p [] = tt
  left_none p (t ∷ ts) = left_none_step p t ts (p t) refl (left_none p ts)

  pick_none : (p : T → Bool) (ts : List T) → NonePass p ts → filter p ts ≡ []
  pick_none p [] h = refl
  pick_none p (t ∷ ts) h = ap (λ b. cond b (t ∷ filter p ts) (filter p ts)) h.0 ∙ pick_none p ts h.1

  -- What none of these numbers has.
  lacks_parts : (k m : Numbered T) (ms : List (Numbered T)) (n : ℕ) (t : Bool) → (m.number == n) ≡ t → cond t (Some m) (find (has_number n) ms) ≡ None → (t ≡ false) × (find (has_number n) ms ≡ None)
  lacks_parts k m ms n true e h = cc
  lacks_parts k m ms n false e h = (refl, h)

  lacks_head : (n : ℕ) (m : Numbered T) (ms : List (Numbered T)) → find (has_number n) (m ∷ ms) ≡ None → ((m.number == n) ≡ false) × (find (has_number n) ms ≡ None)
  lacks_head n m ms h = lacks_parts m m ms n (m.number == n) refl h

  keep_lacking : (n : ℕ) (ks : List (Numbered T)) → find (has_number n) ks ≡ None → without_number n ks ≡ ks
  keep_lacking n [] h = refl
  keep_lacking n (m ∷ ms) h =
      let parts = lacks_head n m ms h in
      ap (λ t. cond (not t) (m ∷ without_number n ms) (without_number n ms)) parts.0 ∙ ap (λ ls. m ∷ ls) (keep_lacking n ms parts.1)

  put_lacking : (n : ℕ) (x : T) (ks : List (Numbered T)) → find (has_number n) ks ≡ None → map (put_at n x) ks ≡ ks
  put_lacking n x [] h = refl
  put_lacking n x (m ∷ ms) h =
      let parts = lacks_head n m ms h in
      ap (λ t. cond t (record { number = n; item = x }) m ∷ map (put_at n x) ms) parts.0 ∙ ap (λ ls. m ∷ ls) (put_lacking n x ms parts.1)

  pick_lacking : (n : ℕ) (ks : List (Numbered T)) → find (has_number n) ks ≡ None → filter (has_number n) ks ≡ []
  pick_lacking n [] h = refl
  pick_lacking n (m ∷ ms) h =
      let parts = lacks_head n m ms h in
      ap (λ t. cond t (m ∷ filter (has_number n) ms) (filter (has_number n) ms)) parts.0 ∙ pick_lacking n ms parts.1

  -- what a test finds first, in two cases

  found_here : (p : T → Bool) (n : ℕ) (k : Numbered T) (ks : List (Numbered T)) → p k.item ≡ true → first_such p (k ∷ ks) ≡ Some n → k.number ≡ n
  found_here p n k ks e h =
      let same : Some k.number ≡ Some n = sym (ap (λ t. option_map (λ (k : Numbered T). k.number) (cond t (Some k) (find (λ k. p k.item) ks))) e) ∙ h in
      cc

  found_behind : (p : T → Bool) (k : Numbered T) (ks : List (Numbered T)) → p k.item ≡ false → first_such p (k ∷ ks) ≡ first_such p ks
  found_behind p k ks e = ap (λ t. option_map (λ (k : Numbered T). k.number) (cond t (Some k) (find (λ k. p k.item) ks))) e

  other_step : (p : T → Bool) (n j : ℕ) (m : Numbered T) (ms : List (Numbered T)) (t : Bool) → p m.item ≡ t → find (has_number j) (m ∷ ms) ≡ None → first_such p (m ∷ ms) ≡ Some n →
      (find (has_number j) ms ≡ None → first_such p ms ≡ Some n → (j == n) ≡ false) → (j == n) ≡ false
  other_step p n j m ms true e lacks h rest =
      let parts = lacks_head j m ms lacks in
      ap (λ i. j == i) (sym (found_here p n m ms e h)) ∙ flipped j m.number ∙ parts.0
  other_step p n j m ms false e lacks h rest =
      let parts = lacks_head j m ms lacks in
      rest parts.1 (sym (found_behind p m ms e) ∙ h)

  -- a number that none has isn't that of what was found
  other_number : (p : T → Bool) (n j : ℕ) (ks : List (Numbered T)) → find (has_number j) ks ≡ None → first_such p ks ≡ Some n → (j == n) ≡ false
  other_number p n j [] lacks h = cc
  other_number p n j (m ∷ ms) lacks h = other_step p n j m ms (p m.item) refl lacks h (other_number p n j ms)

  none_step : (p : T → Bool) (k : Numbered T) (ks : List (Numbered T)) (t : Bool) → p k.item ≡ t → first_such p (k ∷ ks) ≡ None → (t ≡ false) × (first_such p ks ≡ None)
  none_step p k ks true e h =
      let found : Some k.number ≡ None = sym (ap (λ t. option_map (λ (k : Numbered T). k.number) (cond t (Some k) (find (λ k. p k.item) ks))) e) ∙ h in
      cc
  none_step p k ks false e h = (refl, sym (found_behind p k ks e) ∙ h)

  -- nothing was found
  pub none_passes : (p : T → Bool) (ks : List (Numbered T)) → first_such p ks ≡ None → NonePass p (values_of ks)
  none_passes p [] h = tt
  none_passes p (k ∷ ks) h =
      let parts = none_step p k ks (p k.item) refl h in
      (parts.0, none_passes p ks parts.1)

  sought_step : (p : T → Bool) (k : Numbered T) (ks : List (Numbered T)) (t : Bool) → p k.item ≡ t → cond t (Some k.item) (find p (values_of ks)) ≡ None → (find p (values_of ks) ≡ None → first_such p ks ≡ None) → first_such p (k ∷ ks) ≡ None
  sought_step p k ks true e h rest = cc
  sought_step p k ks false e h rest = found_behind p k ks e ∙ rest h

  -- none has a number where none is found
  pub none_sought : (p : T → Bool) (ks : List (Numbered T)) → find p (values_of ks) ≡ None → first_such p ks ≡ None
  none_sought p [] h = refl
  none_sought p (k ∷ ks) h = sought_step p k ks (p k.item) refl h (none_sought p ks)

  held_step : (p : T → Bool) (n : ℕ) (k : Numbered T) (ks : List (Numbered T)) (t : Bool) → p k.item ≡ t → find (has_number k.number) ks ≡ None → first_such p (k ∷ ks) ≡ Some n →
      (first_such p ks ≡ Some n → ((y : T) × (item_at n ks ≡ Some y) × (p y ≡ true))) → ((y : T) × (item_at n (k ∷ ks) ≡ Some y) × (p y ≡ true))
  held_step p n k ks true e apart h rest =
      (k.item, ap (λ t. option_map (λ (k : Numbered T). k.item) (cond t (Some k) (find (has_number n) ks))) (eq-eqb k.number n (found_here p n k ks e h)), e)
  held_step p n k ks false e apart h rest =
      let there = sym (found_behind p k ks e) ∙ h in
      let it = rest there in
      (it.0, ap (λ t. option_map (λ (k : Numbered T). k.item) (cond t (Some k) (find (has_number n) ks))) (other_number p n k.number ks apart there) ∙ it.1, it.2)

  -- the item of a number that was found
  pub held_item : (p : T → Bool) (n : ℕ) (ks : List (Numbered T)) → AreApart ks → first_such p ks ≡ Some n → ((y : T) × (item_at n ks ≡ Some y) × (p y ≡ true))
  held_item p n [] apart h = cc
  held_item p n (k ∷ ks) apart h = held_step p n k ks (p k.item) refl apart.0 h (held_item p n ks apart.1)

  fewer_step : (p : T → Bool) (n : ℕ) (k : Numbered T) (ks : List (Numbered T)) (t : Bool) → p k.item ≡ t → find (has_number k.number) ks ≡ None → first_such p (k ∷ ks) ≡ Some n →
      (first_such p ks ≡ Some n → length (without_number n ks) + 1 ≡ length ks) → length (without_number n (k ∷ ks)) + 1 ≡ length (k ∷ ks)
  fewer_step p n k ks true e apart h rest =
      let same = found_here p n k ks e h in
      let left : without_number n (k ∷ ks) ≡ ks =
      ap (λ t. cond (not t) (k ∷ without_number n ks) (without_number n ks)) (eq-eqb k.number n same)
      ∙ ap (λ j. without_number j ks) (sym same) ∙ keep_lacking k.number ks apart in
      let len : length (without_number n (k ∷ ks)) ≡ length ks = ap length left in
      omega (arith, len)
  fewer_step p n k ks false e apart h rest =
      let there = sym (found_behind p k ks e) ∙ h in
      let left : without_number n (k ∷ ks) ≡ k ∷ without_number n ks =
      ap (λ t. cond (not t) (k ∷ without_number n ks) (without_number n ks)) (other_number p n k.number ks apart there) in
      let len : length (without_number n (k ∷ ks)) ≡ length (k ∷ without_number n ks) = ap length left in
      let more = rest there in
      omega (arith, len, more)

  -- one is fewer
  pub fewer : (p : T → Bool) (n : ℕ) (ks : List (Numbered T)) → AreApart ks → first_such p ks ≡ Some n → length (without_number n ks) + 1 ≡ length ks
  fewer p n [] apart h = cc
  fewer p n (k ∷ ks) apart h = fewer_step p n k ks (p k.item) refl apart.0 h (fewer p n ks apart.1)

  -- The first item, and the one behind another.
  pub first_held : (ks : List (Numbered T)) → option_and_then (λ m. item_at m ks) (first_number ks) ≡ slice_get (values_of ks) 0
  first_held [] = refl
  first_held (k ∷ ks) = ap (λ t. option_map (λ (k : Numbered T). k.item) (cond t (Some k) (find (has_number k.number) ks))) (own_test k.number)

  next_of_own : (k : Numbered T) (ks : List (Numbered T)) → find (has_number k.number) ks ≡ None → option_and_then (λ m. item_at m (k ∷ ks)) (first_number ks) ≡ slice_get (values_of ks) 0
  next_of_own k [] apart = refl
  next_of_own k (m ∷ ms) apart =
      let parts = lacks_head k.number m ms apart in
      ap (λ t. option_map (λ (k : Numbered T). k.item) (cond t (Some k) (find (has_number m.number) (m ∷ ms)))) (flipped k.number m.number ∙ parts.0)
      ∙ ap (λ t. option_map (λ (k : Numbered T). k.item) (cond t (Some m) (find (has_number m.number) ms))) (own_test m.number)

  first_there : (j i : ℕ) (ms : List (Numbered T)) → find (has_number j) ms ≡ None → first_number ms ≡ Some i → (j == i) ≡ false
  first_there j i [] lacks h = cc
  first_there j i (m ∷ ms) lacks h =
      let same : m.number ≡ i = cc in
      ap (λ n. j == n) (sym same) ∙ flipped j m.number ∙ (lacks_head j m ms lacks).0

  next_there_step : (n j i : ℕ) (m : Numbered T) (ms : List (Numbered T)) (t : Bool) → find (has_number j) ms ≡ None → cond t (first_number ms) (next_number n ms) ≡ Some i → (next_number n ms ≡ Some i → (j == i) ≡ false) → (j == i) ≡ false
  next_there_step n j i m ms true lacks h rest = first_there j i ms lacks h
  next_there_step n j i m ms false lacks h rest = rest h

  next_there : (n j i : ℕ) (ms : List (Numbered T)) → find (has_number j) ms ≡ None → next_number n ms ≡ Some i → (j == i) ≡ false
  next_there n j i [] lacks h = cc
  next_there n j i (m ∷ ms) lacks h =
      let parts = lacks_head j m ms lacks in
      next_there_step n j i m ms (m.number == n) parts.1 h (next_there n j i ms parts.1)

  behind_more : (n : ℕ) (k : Numbered T) (ks : List (Numbered T)) (o : Option ℕ) → next_number n ks ≡ o → find (has_number k.number) ks ≡ None → option_and_then (λ m. item_at m (k ∷ ks)) o ≡ option_and_then (λ m. item_at m ks) o
  behind_more n k ks None e apart = refl
  behind_more n k ks (Some i) e apart =
      ap (λ t. option_map (λ (k : Numbered T). k.item) (cond t (Some k) (find (has_number i) ks))) (next_there n k.number i ks apart e)

  behind_step : (p : T → Bool) (n : ℕ) (k : Numbered T) (ks : List (Numbered T)) (t : Bool) → p k.item ≡ t → find (has_number k.number) ks ≡ None → first_such p (k ∷ ks) ≡ Some n →
      (first_such p ks ≡ Some n → option_and_then (λ m. item_at m ks) (next_number n ks) ≡ slice_get (behind_where p (values_of ks)) 0) →
      option_and_then (λ m. item_at m (k ∷ ks)) (next_number n (k ∷ ks)) ≡ slice_get (cond t (values_of ks) (behind_where p (values_of ks))) 0
  behind_step p n k ks true e apart h rest =
      ap (λ t. option_and_then (λ m. item_at m (k ∷ ks)) (cond t (first_number ks) (next_number n ks))) (eq-eqb k.number n (found_here p n k ks e h))
      ∙ next_of_own k ks apart
  behind_step p n k ks false e apart h rest =
      let there = sym (found_behind p k ks e) ∙ h in
      ap (λ t. option_and_then (λ m. item_at m (k ∷ ks)) (cond t (first_number ks) (next_number n ks))) (other_number p n k.number ks apart there)
      ∙ behind_more n k ks (next_number n ks) refl apart ∙ rest there

  -- the item right behind the one that was found
  pub behind_held : (p : T → Bool) (n : ℕ) (ks : List (Numbered T)) → AreApart ks → first_such p ks ≡ Some n →
      option_and_then (λ m. item_at m ks) (next_number n ks) ≡ slice_get (behind_where p (values_of ks)) 0
  behind_held p n [] apart h = cc
  behind_held p n (k ∷ ks) apart h = behind_step p n k ks (p k.item) refl apart.0 h (behind_held p n ks apart.1)

  item_step : (p : T → Bool) (n : ℕ) (k : Numbered T) (ks : List (Numbered T)) (t : Bool) → p k.item ≡ t → find (has_number k.number) ks ≡ None → first_such p (k ∷ ks) ≡ Some n →
      (first_such p ks ≡ Some n → item_at n ks ≡ find p (values_of ks)) → item_at n (k ∷ ks) ≡ cond t (Some k.item) (find p (values_of ks))
  item_step p n k ks true e apart h rest =
      ap (λ t. option_map (λ (k : Numbered T). k.item) (cond t (Some k) (find (has_number n) ks))) (eq-eqb k.number n (found_here p n k ks e h))
  item_step p n k ks false e apart h rest =
      let there = sym (found_behind p k ks e) ∙ h in
      ap (λ t. option_map (λ (k : Numbered T). k.item) (cond t (Some k) (find (has_number n) ks))) (other_number p n k.number ks apart there) ∙ rest there

  -- the item that was found
  pub item_found : (p : T → Bool) (n : ℕ) (ks : List (Numbered T)) → AreApart ks → first_such p ks ≡ Some n → item_at n ks ≡ find p (values_of ks)
  item_found p n [] apart h = cc
  item_found p n (k ∷ ks) apart h = item_step p n k ks (p k.item) refl apart.0 h (item_found p n ks apart.1)

  left_step : (p : T → Bool) (n : ℕ) (k : Numbered T) (ks : List (Numbered T)) (t : Bool) → p k.item ≡ t → find (has_number k.number) ks ≡ None → (p k.item ≡ true → NonePass p (values_of ks)) → first_such p (k ∷ ks) ≡ Some n →
      (first_such p ks ≡ Some n → values_of (without_number n ks) ≡ filter (λ t. not (p t)) (values_of ks)) →
      values_of (without_number n (k ∷ ks)) ≡ cond (not t) (k.item ∷ filter (λ t. not (p t)) (values_of ks)) (filter (λ t. not (p t)) (values_of ks))
  left_step p n k ks true e apart alone h rest =
      let same = found_here p n k ks e h in
      ap (λ t. values_of (cond (not t) (k ∷ without_number n ks) (without_number n ks))) (eq-eqb k.number n same)
      ∙ ap values_of (ap (λ j. without_number j ks) (sym same) ∙ keep_lacking k.number ks apart)
      ∙ sym (keep_none p (values_of ks) (alone e))
  left_step p n k ks false e apart alone h rest =
      let there = sym (found_behind p k ks e) ∙ h in
      ap (λ t. values_of (cond (not t) (k ∷ without_number n ks) (without_number n ks))) (other_number p n k.number ks apart there)
      ∙ ap (λ ts. k.item ∷ ts) (rest there)

  -- it goes
  pub left_values : (p : T → Bool) (n : ℕ) (ks : List (Numbered T)) → AreApart ks → OnePasses p (values_of ks) → first_such p ks ≡ Some n →
      values_of (without_number n ks) ≡ filter (λ t. not (p t)) (values_of ks)
  left_values p n [] apart one h = cc
  left_values p n (k ∷ ks) apart one h = left_step p n k ks (p k.item) refl apart.0 one.0 h (left_values p n ks apart.1 one.1)

  pick_step : (p : T → Bool) (n : ℕ) (k : Numbered T) (ks : List (Numbered T)) (t : Bool) → p k.item ≡ t → find (has_number k.number) ks ≡ None → (p k.item ≡ true → NonePass p (values_of ks)) → first_such p (k ∷ ks) ≡ Some n →
      (first_such p ks ≡ Some n → values_of (filter (has_number n) ks) ≡ filter p (values_of ks)) →
      values_of (filter (has_number n) (k ∷ ks)) ≡ cond t (k.item ∷ filter p (values_of ks)) (filter p (values_of ks))
  pick_step p n k ks true e apart alone h rest =
      let same = found_here p n k ks e h in
      ap (λ t. values_of (cond t (k ∷ filter (has_number n) ks) (filter (has_number n) ks))) (eq-eqb k.number n same)
      ∙ ap (λ ls. k.item ∷ values_of ls) (ap (λ j. filter (has_number j) ks) (sym same) ∙ pick_lacking k.number ks apart)
      ∙ ap (λ ts. k.item ∷ ts) (sym (pick_none p (values_of ks) (alone e)))
  pick_step p n k ks false e apart alone h rest =
      let there = sym (found_behind p k ks e) ∙ h in
      ap (λ t. values_of (cond t (k ∷ filter (has_number n) ks) (filter (has_number n) ks))) (other_number p n k.number ks apart there)
      ∙ rest there

  picked_values : (p : T → Bool) (n : ℕ) (ks : List (Numbered T)) → AreApart ks → OnePasses p (values_of ks) → first_such p ks ≡ Some n →
      values_of (filter (has_number n) ks) ≡ filter p (values_of ks)
  picked_values p n [] apart one h = cc
  picked_values p n (k ∷ ks) apart one h = pick_step p n k ks (p k.item) refl apart.0 one.0 h (picked_values p n ks apart.1 one.1)

  -- it moves behind all others
  pub last_values : (p : T → Bool) (n : ℕ) (ks : List (Numbered T)) → AreApart ks → OnePasses p (values_of ks) → first_such p ks ≡ Some n →
      values_of (moved_last n ks) ≡ filter (λ t. not (p t)) (values_of ks) ++ filter p (values_of ks)
  last_values p n ks apart one h =
      map-append (λ (k : Numbered T). k.item) (without_number n ks) (filter (has_number n) ks)
      ∙ ap (λ ts. ts ++ values_of (filter (has_number n) ks)) (left_values p n ks apart one h)
      ∙ ap (λ ts. filter (λ t. not (p t)) (values_of ks) ++ ts) (picked_values p n ks apart one h)

  put_step : (p : T → Bool) (f : T → T) (n : ℕ) (y x : T) (k : Numbered T) (ks : List (Numbered T)) (t : Bool) → p k.item ≡ t → find (has_number k.number) ks ≡ None → (p k.item ≡ true → NonePass p (values_of ks)) → first_such p (k ∷ ks) ≡ Some n →
      item_at n (k ∷ ks) ≡ Some y → x ≡ f y → (first_such p ks ≡ Some n → item_at n ks ≡ Some y → values_of (map (put_at n x) ks) ≡ map (changed_where p f) (values_of ks)) →
      values_of (map (put_at n x) (k ∷ ks)) ≡ cond t (f k.item) k.item ∷ map (changed_where p f) (values_of ks)
  put_step p f n y x k ks true e apart alone h there is rest =
      let same = found_here p n k ks e h in
      let own : Some k.item ≡ Some y =
      sym (ap (λ t. option_map (λ (k : Numbered T). k.item) (cond t (Some k) (find (has_number n) ks))) (eq-eqb k.number n same)) ∙ there in
      let it : k.item ≡ y = cc in
      ap (λ (t : Bool). (cond t (record { number = n; item = x }) k).item ∷ values_of (map (put_at n x) ks)) (eq-eqb k.number n same)
      ∙ ap (λ ls. x ∷ values_of ls) (ap (λ j. map (put_at j x) ks) (sym same) ∙ put_lacking k.number x ks apart)
      ∙ ap (λ z. z ∷ values_of ks) (is ∙ ap f (sym it))
      ∙ ap (λ ts. f k.item ∷ ts) (sym (change_none p f (values_of ks) (alone e)))
  put_step p f n y x k ks false e apart alone h there is rest =
      let behind = sym (found_behind p k ks e) ∙ h in
      let other = other_number p n k.number ks apart behind in
      ap (λ (t : Bool). (cond t (record { number = n; item = x }) k).item ∷ values_of (map (put_at n x) ks)) other
      ∙ ap (λ ts. k.item ∷ ts) (rest behind (sym (ap (λ t. option_map (λ (k : Numbered T). k.item) (cond t (Some k) (find (has_number n) ks))) other) ∙ there))

  -- another takes its place
  pub put_values : (p : T → Bool) (f : T → T) (n : ℕ) (y x : T) (ks : List (Numbered T)) → AreApart ks → OnePasses p (values_of ks) → first_such p ks ≡ Some n → item_at n ks ≡ Some y → x ≡ f y →
      values_of (map (put_at n x) ks) ≡ map (changed_where p f) (values_of ks)
  put_values p f n y x [] apart one h there is = cc
  put_values p f n y x (k ∷ ks) apart one h there is =
      put_step p f n y x k ks (p k.item) refl apart.0 one.0 h there is (λ e g. put_values p f n y x ks apart.1 one.1 e g is)

  insert_step : (p : T → Bool) (n : ℕ) (new k : Numbered T) (ks : List (Numbered T)) (t : Bool) → p k.item ≡ t → find (has_number k.number) ks ≡ None → first_such p (k ∷ ks) ≡ Some n →
      (first_such p ks ≡ Some n → values_of (inserted_at n new ks) ≡ inserted_where p new.item (values_of ks)) →
      values_of (inserted_at n new (k ∷ ks)) ≡ cond t (new.item ∷ k.item ∷ values_of ks) (k.item ∷ inserted_where p new.item (values_of ks))
  insert_step p n new k ks true e apart h rest =
      ap (λ t. values_of (cond t (new ∷ k ∷ ks) (k ∷ inserted_at n new ks))) (eq-eqb k.number n (found_here p n k ks e h))
  insert_step p n new k ks false e apart h rest =
      let behind = sym (found_behind p k ks e) ∙ h in
      ap (λ t. values_of (cond t (new ∷ k ∷ ks) (k ∷ inserted_at n new ks))) (other_number p n k.number ks apart behind)
      ∙ ap (λ ts. k.item ∷ ts) (rest behind)

  -- another comes before it
  pub inserted_values : (p : T → Bool) (n : ℕ) (new : Numbered T) (ks : List (Numbered T)) → AreApart ks → first_such p ks ≡ Some n →
      values_of (inserted_at n new ks) ≡ inserted_where p new.item (values_of ks)
  inserted_values p n new [] apart h = cc
  inserted_values p n new (k ∷ ks) apart h = insert_step p n new k ks (p k.item) refl apart.0 h (inserted_values p n new ks apart.1)

-- Keys that are equal are one and the same.
module _ {K T : Type 0} (eq : K → K → Bool) (key : T → K) (is_same : (a b : K) → eq a b ≡ true → a ≡ b) where
  -- one item at most has a key
  pub one_under : (k : K) (ks : List (Numbered T)) → AreKeysApart eq key ks → OnePasses (λ t. eq (key t) k) (values_of ks)
  one_under k [] h = tt
  one_under k (m ∷ ms) h =
      (λ e. none_passes (λ t. eq (key t) k) ms (ap (λ j. first_such (λ t. eq (key t) j) ms) (sym (is_same (key m.item) k e)) ∙ h.0), one_under k ms h.1)
