-- A walk along the rows that wait, and the first of a message's rows for a site.
use Rattle.std.proofs.Common.{◌≡◌, ◌<◌, ◌∙◌, ◌∷◌, ◌+◌, [], ap, arith, Bool, cond, false, inl, inr, length, List, None, Option, refl, Some, suc, sym, true, zero, ℕ}
use Rattle.std.proofs.lemmas.Bool.{ltb-false, ltb-true}
use Rattle.std.proofs.lemmas.Grind.{common_steps}
use Rattle.std.specs.List.{list_any, position_or_len}
use Rattle.std.specs.Prelude.{◌||◌, filter, find, nat_lt, not, position, slice_get}
use Rattle.q_model.specs.declared.id.Id.{Id}
use Rattle.q_model.specs.declared.rows.Row.{Row}
use Rattle.q_model.specs.Lists.{drop_first, least}
use Rattle.q_peers.proofs.Rests.{absent_rest, first_rest, next_rest, rest}
use Rattle.q_peers.specs.Numbered.{any_row, AreApart, first_such, next_such, Numbered, row_at, rows_of}
use Rattle.q_core.proofs.ListLaws.{IsFoundAt, position-find}
use Rattle.q_core.specs.Lists.{better_of, sooner_of}
use Rattle.q_core.specs.Starting.{last_start_in, next_row_of, rows_for, sent_before, sooner_row}
use Rattle.q_core.specs.declared.state.Core.{Core}

-- no row is left from a number on that none has
pub left_none : (p : Row → Bool) (ks : List Numbered) (at : Option ℕ) (n : ℕ) → at ≡ Some n → row_at n ks ≡ None → rest p at ks ≡ []
left_none p ks at n here there = ap (λ o. rest p o ks) here ∙ absent_rest p n ks there

-- of what was found before, and the best of the rest
abbrev pub merged : {A : Type 0} → (A → A → Bool) → Option A → Option A → Option A
merged before o None = o
merged before o (Some m) = Some (sooner_of before o m)

merged_cases : {A : Type 0} (f : A → ℕ) (b r m : A) (t1 t2 t3 : Bool) → nat_lt (f r) (f b) ≡ t1 → nat_lt (f m) (f r) ≡ t2 → nat_lt (f m) (f b) ≡ t3 →
    Some (sooner_of (λ x y. nat_lt (f x) (f y)) (Some (cond t1 r b)) m) ≡ Some (sooner_of (λ x y. nat_lt (f x) (f y)) (Some b) (cond t2 m r))
merged_cases f b r m true true true e1 e2 e3 = ap (λ t. Some (cond t m r)) e2 ∙ sym (ap (λ t. Some (cond t m b)) e3)
merged_cases f b r m true true false e1 e2 e3 =
    let x = ltb-true (f r) (f b) e1 in let y = ltb-true (f m) (f r) e2 in let z = ltb-false (f m) (f b) e3 in absurd (omega (arith, x, y, z))
merged_cases f b r m true false t3 e1 e2 e3 = ap (λ t. Some (cond t m r)) e2 ∙ sym (ap (λ t. Some (cond t r b)) e1)
merged_cases f b r m false true t3 e1 e2 e3 = refl
merged_cases f b r m false false true e1 e2 e3 =
    let x = ltb-false (f r) (f b) e1 in let y = ltb-false (f m) (f r) e2 in let z = ltb-true (f m) (f b) e3 in absurd (omega (arith, x, y, z))
merged_cases f b r m false false false e1 e2 e3 = ap (λ t. Some (cond t m b)) e3 ∙ sym (ap (λ t. Some (cond t r b)) e1)

-- one more is found, and then the best of those behind it
merged_on : {A : Type 0} (f : A → ℕ) (best o : Option A) (r : A) →
    merged (λ x y. nat_lt (f x) (f y)) (Some (sooner_of (λ x y. nat_lt (f x) (f y)) best r)) o
    ≡ merged (λ x y. nat_lt (f x) (f y)) best (Some (better_of (λ x y. nat_lt (f x) (f y)) r o))
merged_on f None None r = refl
merged_on f None (Some m) r = refl
merged_on f (Some b) None r = refl
merged_on f (Some b) (Some m) r = merged_cases f b r m (nat_lt (f r) (f b)) (nat_lt (f m) (f r)) (nat_lt (f m) (f b)) refl refl refl

sooner_case : {A : Type 0} (f : A → ℕ) (q : A → Bool) (best : Option A) (r : A) (left : List A) (b : Bool) →
    merged (λ x y. nat_lt (f x) (f y)) (cond b (Some (sooner_of (λ x y. nat_lt (f x) (f y)) best r)) best) (least (λ x y. nat_lt (f x) (f y)) (filter q left))
    ≡ merged (λ x y. nat_lt (f x) (f y)) best (least (λ x y. nat_lt (f x) (f y)) (cond b (r ∷ filter q left) (filter q left)))
sooner_case f q best r left true = merged_on f best (least (λ x y. nat_lt (f x) (f y)) (filter q left)) r
sooner_case f q best r left false = refl

merged_none : {A : Type 0} (before : A → A → Bool) (o : Option A) → merged before None o ≡ o
merged_none before None = refl
merged_none before (Some m) = refl

filter_any : (rows : List Row) → filter any_row rows ≡ rows
filter_any [] = refl
filter_any (r ∷ rows) = ap (λ l. r ∷ l) (filter_any rows)

-- all rows are before a walk along all
pub rest_of_all : (ks : List Numbered) → AreApart ks → rest any_row (first_such any_row ks) ks ≡ rows_of ks
rest_of_all ks apart = first_rest any_row ks apart ∙ filter_any (rows_of ks)

pub step_along : (ks : List Numbered) (at : Option ℕ) (n : ℕ) (r : Row) → AreApart ks → at ≡ Some n → row_at n ks ≡ Some r →
    rest any_row at ks ≡ r ∷ rest any_row (next_such (λ x. any_row) n ks) ks
step_along ks at n r apart here there = ap (λ o. rest any_row o ks) here ∙ next_rest any_row (λ x. any_row) n r ks apart refl refl there

-- before the first row was looked at
pub sooner_first : (c : Core) (t : ℕ) (id : Id) (ks : List Numbered) (at : Option ℕ) → AreApart ks → at ≡ first_such any_row ks →
    merged (sent_before c) None (next_row_of c t id (rest any_row at ks)) ≡ next_row_of c t id (rows_of ks)
sooner_first c t id ks at apart is =
    merged_none (sent_before c) (next_row_of c t id (rest any_row at ks))
    ∙ ap (λ o. next_row_of c t id (rest any_row o ks)) is ∙ ap (next_row_of c t id) (rest_of_all ks apart)

-- the row at hand is looked at
pub sooner_on : (c : Core) (t : ℕ) (id : Id) (ks : List Numbered) (at : Option ℕ) (n : ℕ) (r : Row) (best result total : Option Row) → AreApart ks → at ≡ Some n → row_at n ks ≡ Some r →
    result ≡ sooner_row c t id best r → merged (sent_before c) best (next_row_of c t id (rest any_row at ks)) ≡ total →
    merged (sent_before c) result (next_row_of c t id (rest any_row (next_such (λ x. any_row) n ks) ks)) ≡ total
sooner_on c t id ks at n r best result total apart here there is h =
    let left = rest any_row (next_such (λ x. any_row) n ks) ks in
    ap (λ o. merged (sent_before c) o (next_row_of c t id left)) is
    ∙ sooner_case (last_start_in c) (rows_for c id t) best r left (rows_for c id t r)
    ∙ sym (ap (λ rows. merged (sent_before c) best (next_row_of c t id rows)) (step_along ks at n r apart here there)) ∙ h

dropped_step : {X : Type 0} (p : X → Bool) (x : X) (xs : List X) (b : Bool) → cond b (Some x) (find p xs) ≡ None → (find p xs ≡ None → drop_first p xs ≡ xs) → cond b xs (x ∷ drop_first p xs) ≡ x ∷ xs
dropped_step p x xs true h more = cc
dropped_step p x xs false h more = ap (λ l. x ∷ l) (more h)

-- where none passes nothing is dropped
pub dropped_none : {X : Type 0} (p : X → Bool) (xs : List X) → find p xs ≡ None → drop_first p xs ≡ xs
dropped_none p [] h = refl
dropped_none p (x ∷ xs) h = dropped_step p x xs (p x) h (dropped_none p xs)

any_step : {X : Type 0} (p : X → Bool) (x : X) (xs : List X) (b : Bool) → cond b (Some x) (find p xs) ≡ None → p x ≡ b → (find p xs ≡ None → list_any p xs ≡ false) → list_any p (x ∷ xs) ≡ false
any_step p x xs true h e more = cc
any_step p x xs false h e more = ap (λ t. t || list_any p xs) e ∙ more h

pub none_any : {X : Type 0} (p : X → Bool) (xs : List X) → find p xs ≡ None → list_any p xs ≡ false
none_any p [] h = refl
none_any p (x ∷ xs) h = any_step p x xs (p x) h refl (none_any p xs)

-- where one passes the first is found, and stands at a place
pub any_place : {X : Type 0} (p : X → Bool) (xs : List X) → list_any p xs ≡ true → (i : ℕ) × (x : X) × IsFoundAt p xs i x
any_place p xs h = elim (position-find p xs) [
  | inl none ↦ let bad : true ≡ false = sym h ∙ none_any p xs none.1 in cc
  | inr some ↦ some
]

found_step : {X : Type 0} (p : X → Bool) (x y : X) (xs : List X) (b : Bool) → p x ≡ b → cond b (Some x) (find p xs) ≡ Some y → (find p xs ≡ Some y → list_any p xs ≡ true) → list_any p (x ∷ xs) ≡ true
found_step p x y xs true e h more = ap (λ t. t || list_any p xs) e
found_step p x y xs false e h more = ap (λ t. t || list_any p xs) e ∙ more h

pub found_any : {X : Type 0} (p : X → Bool) (xs : List X) (y : X) → find p xs ≡ Some y → list_any p xs ≡ true
found_any p [] y h = cc
found_any p (x ∷ xs) y h = found_step p x y xs (p x) refl h (found_any p xs y)

-- where none passes there is no place
pub none_place : {X : Type 0} (p : X → Bool) (xs : List X) → list_any p xs ≡ false → position p xs ≡ None
none_place p xs h = elim (position-find p xs) [
  | inl none ↦ none.0
  | inr some ↦ let bad : true ≡ false = sym (found_any p xs some.1 some.2.found) ∙ h in cc
]

-- the place of the first is that of the row found
pub same_place : {X : Type 0} (p : X → Bool) (xs : List X) (i j : ℕ) → position p xs ≡ Some i → position p xs ≡ Some j → i ≡ j
same_place p xs i j h k = let both : Some i ≡ Some j = sym h ∙ k in cc

some_within : {A : Type 0} (xs : List A) (n : ℕ) (x : A) → slice_get xs n ≡ Some x → n < length xs
some_within [] n x e = cc
some_within (y ∷ ys) zero x e = omega arith
some_within (y ∷ ys) (suc n) x e = let rest = some_within ys n x e in omega (arith, rest)

-- where there is a place one passes
pub placed_any : {X : Type 0} (p : X → Bool) (xs : List X) (i : ℕ) → position p xs ≡ Some i → list_any p xs ≡ true
placed_any p xs i h = elim (position-find p xs) [
  | inl none ↦ let bad : None ≡ Some i = sym none.0 ∙ h in cc
  | inr some ↦ found_any p xs some.1 some.2.found
]

narrow_step : {X : Type 0} (p q : X → Bool) (x : X) (xs : List X) (y : X) (b : Bool) → p x ≡ b → (q x ≡ true → p x ≡ true) → q y ≡ true → slice_get (x ∷ xs) (cond (not b) (1 + position_or_len p xs) 0) ≡ Some y →
    (slice_get xs (position_or_len p xs) ≡ Some y → position_or_len q xs ≡ position_or_len p xs) → position_or_len q (x ∷ xs) ≡ cond (not b) (1 + position_or_len p xs) 0
narrow_step p q x xs y true e of here at more = let same : x ≡ y = cc in ap {B = ℕ} (λ t. cond (not t) (1 + position_or_len q xs) 0) (ap q same ∙ here)
narrow_step p q x xs y false e of here at more =
    let n : 1 + position_or_len p xs ≡ suc (position_or_len p xs) = omega arith in
    ap {B = ℕ} (λ t. cond (not t) (1 + position_or_len q xs) 0) (other (q x) refl) ∙ ap (λ n. 1 + n) (more (sym (ap (slice_get (x ∷ xs)) n) ∙ at))
  where
    other : (b : Bool) → q x ≡ b → q x ≡ false
    other true h = let bad : true ≡ false = sym (of h) ∙ e in cc
    other false h = h

-- the first that passes is the first that passes another test too, where that is narrower
narrow : {X : Type 0} (p q : X → Bool) (xs : List X) (y : X) → ((x : X) → q x ≡ true → p x ≡ true) → q y ≡ true → slice_get xs (position_or_len p xs) ≡ Some y → position_or_len q xs ≡ position_or_len p xs
narrow p q [] y of here at = refl
narrow p q (x ∷ xs) y of here at = narrow_step p q x xs y (p x) refl (of x) here at (narrow p q xs y of here)

pub narrow_place : {X : Type 0} (p q : X → Bool) (xs : List X) (i : ℕ) (y : X) → ((x : X) → q x ≡ true → p x ≡ true) → position p xs ≡ Some i → slice_get xs i ≡ Some y → q y ≡ true → position q xs ≡ Some i
narrow_place p q xs i y of place at here =
    let e : i ≡ position_or_len p xs = grind (arith, common_steps, place) in
    let n = narrow p q xs y of here (ap (slice_get xs) (sym e) ∙ at) in
    let within = some_within xs i y at in
    grind (arith, common_steps, e, n, within)
