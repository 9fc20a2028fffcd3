-- Of lists whose items have keys: one in which no key stands twice is no longer than another that
-- has all its keys.
use Rattle.std.proofs.Common.{◌≡◌, ◌∙◌, ◌∷◌, ◌<◌, ◌≤◌, [], ap, arith, Bool, cond, false, length, List, None, refl, sym, true}
use Rattle.std.proofs.lemmas.Bool.{both_ways, or_right}
use Rattle.std.specs.List.{list_any}
use Rattle.std.specs.Option.{is_some}
use Rattle.std.specs.Prelude.{filter, find, not, ◌||◌}
use Rattle.q_model.proofs.EachLaws.{find-any}

module _ {B : Type 0} (p : B → Bool) where
  most_step : (y : B) (ys zs : List B) (t : Bool) → length zs ≤ length ys → length (cond t (y ∷ zs) zs) ≤ length (y ∷ ys)
  most_step y ys zs true most = omega (arith, most)
  most_step y ys zs false most = omega (arith, most)

  most_left : (ys : List B) → length (filter (λ y. not (p y)) ys) ≤ length ys
  most_left [] = omega arith
  most_left (y ∷ ys) = most_step y ys (filter (λ y. not (p y)) ys) (not (p y)) (most_left ys)

  fewer_step : (y : B) (ys : List B) (t : Bool) → (t || list_any p ys) ≡ true → (list_any p ys ≡ true → length (filter (λ y. not (p y)) ys) < length ys) → length (cond (not t) (y ∷ filter (λ y. not (p y)) ys) (filter (λ y. not (p y)) ys)) < length (y ∷ ys)
  fewer_step y ys true h rest = omega (arith, most_left ys)
  fewer_step y ys false h rest = omega (arith, rest h)

  -- fewer are left where one passes
  pub fewer_left : (ys : List B) → list_any p ys ≡ true → length (filter (λ y. not (p y)) ys) < length ys
  fewer_left [] h = absurd cc
  fewer_left (y ∷ ys) h = fewer_step y ys (p y) h (fewer_left ys)

module _ {A B K : Type 0} (eq : K → K → Bool) (is_same : (a b : K) → eq a b ≡ true → a ≡ b) (is_own : (a : K) → eq a a ≡ true) (key : A → K) (other : B → K) where
  -- no key stands twice
  abbrev pub HaveOwnKeys : List A → Type 0
  HaveOwnKeys [] = Unit {0}
  HaveOwnKeys (x ∷ xs) = (find (λ y. eq (key y) (key x)) xs ≡ None) × HaveOwnKeys xs

  -- each key stands among the others
  abbrev pub AreAmong : List A → List B → Type 0
  AreAmong xs ys = (k : K) → list_any (λ x. eq (key x) k) xs ≡ true → list_any (λ y. eq (other y) k) ys ≡ true

  still_step : (k l : K) (y : B) (ys : List B) (t u : Bool) → eq (other y) k ≡ t → eq (other y) l ≡ u → (k ≡ l → ⊥) → (t || list_any (λ y. eq (other y) k) ys) ≡ true →
      (list_any (λ y. eq (other y) k) ys ≡ true → list_any (λ y. eq (other y) k) (filter (λ y. not (eq (other y) l)) ys) ≡ true) →
      list_any (λ y. eq (other y) k) (cond (not u) (y ∷ filter (λ y. not (eq (other y) l)) ys) (filter (λ y. not (eq (other y) l)) ys)) ≡ true
  still_step k l y ys true true a b differ h rest = absurd (differ (sym (is_same (other y) k a) ∙ is_same (other y) l b))
  still_step k l y ys true false a b differ h rest = ap (λ t. t || list_any (λ y. eq (other y) k) (filter (λ y. not (eq (other y) l)) ys)) a
  still_step k l y ys false true a b differ h rest = rest h
  still_step k l y ys false false a b differ h rest = or_right (eq (other y) k) (list_any (λ y. eq (other y) k) (filter (λ y. not (eq (other y) l)) ys)) (rest h)

  -- a key still stands there where those of another are gone
  still_there : (k l : K) (ys : List B) → (k ≡ l → ⊥) → list_any (λ y. eq (other y) k) ys ≡ true → list_any (λ y. eq (other y) k) (filter (λ y. not (eq (other y) l)) ys) ≡ true
  still_there k l [] differ h = h
  still_there k l (y ∷ ys) differ h = still_step k l y ys (eq (other y) k) (eq (other y) l) refl refl differ h (still_there k l ys differ)

  absent : (k : K) (xs : List A) → find (λ x. eq (key x) k) xs ≡ None → list_any (λ x. eq (key x) k) xs ≡ false
  absent k xs none = sym (find-any (λ x. eq (key x) k) xs) ∙ ap is_some none

  -- another key than one that doesn't stand there
  another : (k l : K) (xs : List A) → find (λ x. eq (key x) l) xs ≡ None → list_any (λ x. eq (key x) k) xs ≡ true → k ≡ l → ⊥
  another k l xs none there same = both_ways (list_any (λ x. eq (key x) k) xs) (ap (λ j. list_any (λ x. eq (key x) j) xs) same ∙ absent l xs none) there

  pub no_more : (xs : List A) (ys : List B) → HaveOwnKeys xs → AreAmong xs ys → length xs ≤ length ys
  no_more [] ys own among = omega arith
  no_more (x ∷ xs) ys own among =
      let here = among (key x) (ap (λ t. t || list_any (λ z. eq (key z) (key x)) xs) (is_own (key x))) in
      let fewer = fewer_left (λ y. eq (other y) (key x)) ys here in
      let rest = no_more xs (filter (λ y. not (eq (other y) (key x))) ys) own.1 (λ k there.
      still_there k (key x) ys (another k (key x) xs own.0 there) (among k (or_right (eq (key x) k) (list_any (λ z. eq (key z) k) xs) there))) in
      omega (arith, fewer, rest)

  -- and it is shorter where it lacks one of them
  pub fewer : (l : K) (xs : List A) (ys : List B) → HaveOwnKeys xs → AreAmong xs ys → find (λ x. eq (key x) l) xs ≡ None → list_any (λ y. eq (other y) l) ys ≡ true → length xs < length ys
  fewer l xs ys own among none there =
      let left = fewer_left (λ y. eq (other y) l) ys there in
      let most = no_more xs (filter (λ y. not (eq (other y) l)) ys) own (λ k h. still_there k l ys (another k l xs none h) (among k h)) in
      omega (arith, left, most)
