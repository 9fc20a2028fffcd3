-- Positions of recipients: which of them are pending, logged without a mark, or marked for now.
use Rattle.std.proofs.Common.{◌≡◌, ℕ, zero, suc, ◌+◌, ◌&&◌, filter, Bool, true, false, List, [], ◌∷◌, map, Some, inl, inr, refl, sym, ap, ◌∙◌, subst, if◌then◌else◌, arith, ◌<◌, ◌≤◌, option_map, length}
use Rattle.std.specs.List.{enumerate_from}
use Rattle.std.specs.Prelude.{slice_get}
use Rattle.q_laws.proofs.Members.{IsIn}
use Rattle.q_model.specs.Lists.{has_none, places_from}

-- ---- elements and their places

pub got_in : {A : Type 0} (x : A) (xs : List A) (i : ℕ) → slice_get xs i ≡ Some x → IsIn x xs
got_in x [] i h = absurd cc
got_in x (y ∷ ys) zero h = inl cc
got_in x (y ∷ ys) (suc i) h = inr (got_in x ys i h)

pub in_got : {A : Type 0} (x : A) (xs : List A) → IsIn x xs → (i : ℕ) × (slice_get xs i ≡ Some x)
in_got x [] h = absurd h
in_got x (y ∷ ys) (inl e) = (0, ap Some e)
in_got x (y ∷ ys) (inr h) = let rest = in_got x ys h in (suc rest.0, rest.1)

pub got_below : {A : Type 0} (x : A) (xs : List A) (i : ℕ) → slice_get xs i ≡ Some x → i < length xs
got_below x [] i h = absurd cc
got_below x (y ∷ ys) zero h = omega arith
got_below x (y ∷ ys) (suc i) h = let rest : i < length ys = got_below x ys i h in omega arith

-- the list has no element
pub nothing_in : {A : Type 0} (xs : List A) → ((x : A) → IsIn x xs → ⊥) → xs ≡ []
nothing_in [] h = refl
nothing_in (x ∷ xs) h = absurd (h x (inl refl))

pub none_of : {A : Type 0} (xs : List A) → has_none xs ≡ true → xs ≡ []
none_of [] h = refl
none_of (x ∷ xs) h = absurd cc

pub none_in : {A : Type 0} (x : A) (xs : List A) → has_none xs ≡ true → IsIn x xs → ⊥
none_in x xs h k = subst (λ ys. IsIn x ys) (none_of xs h) k

-- ---- the places at which a test passes

-- a place, and what stands there
pub record IsPlaceOf {A : Type 0} (n : ℕ) (test : ℕ → A → Bool) (xs : List A) (p : ℕ) : Type 0 where
  pub index : ℕ
  pub is : p ≡ n + index
  pub item : A
  pub there : slice_get xs index ≡ Some item
  pub passes : test p item ≡ true

place_later : {A : Type 0} (n : ℕ) (test : ℕ → A → Bool) (x : A) (xs : List A) (p : ℕ) → IsPlaceOf (n + 1) test xs p → IsPlaceOf n test (x ∷ xs) p
place_later n test x xs p h = record { index = suc h.index; is = omega (arith, h.is); item = h.item; there = h.there; passes = h.passes }

place_one : {A : Type 0} (n : ℕ) (test : ℕ → A → Bool) (x : A) (xs : List A) (p : ℕ) (b : Bool) → test n x ≡ b → (IsIn p (places_from (n + 1) test xs) → IsPlaceOf (n + 1) test xs p) →
    IsIn p (if b then n ∷ places_from (n + 1) test xs else places_from (n + 1) test xs) → IsPlaceOf n test (x ∷ xs) p
place_one n test x xs p true e rest (inl same) = record { index = 0; is = omega (arith, same); item = x; there = refl; passes = ap (λ k. test k x) (sym same) ∙ e }
place_one n test x xs p true e rest (inr h) = place_later n test x xs p (rest h)
place_one n test x xs p false e rest h = place_later n test x xs p (rest h)

pub place_is : {A : Type 0} (n : ℕ) (test : ℕ → A → Bool) (xs : List A) (p : ℕ) → IsIn p (places_from n test xs) → IsPlaceOf n test xs p
place_is n test [] p h = absurd h
place_is n test (x ∷ xs) p h = place_one n test x xs p (test n x) refl (place_is (n + 1) test xs p) h

place_here : (n p : ℕ) (rest : List ℕ) (b : Bool) → b ≡ true → n ≡ p → IsIn p (if b then n ∷ rest else rest)
place_here n p rest true e same = inl same
place_here n p rest false e same = absurd cc

place_after : (n p : ℕ) (rest : List ℕ) (b : Bool) → IsIn p rest → IsIn p (if b then n ∷ rest else rest)
place_after n p rest true h = inr h
place_after n p rest false h = h

pub is_place : {A : Type 0} (n : ℕ) (test : ℕ → A → Bool) (xs : List A) (i p : ℕ) (x : A) → p ≡ n + i → slice_get xs i ≡ Some x → test p x ≡ true → IsIn p (places_from n test xs)
is_place n test [] i p x e h k = absurd cc
is_place n test (y ∷ ys) zero p x e h k =
    let same : n ≡ p = omega (arith, e) in
    let first : y ≡ x = cc in
    place_here n p (places_from (n + 1) test ys) (test n y) (ap (λ j. test j y) same ∙ ap (test p) first ∙ k) same
is_place n test (y ∷ ys) (suc i) p x e h k = place_after n p (places_from (n + 1) test ys) (test n y) (is_place (n + 1) test ys i p x (omega (arith, e)) h k)

-- tests that answer alike pass at the same places
place_same : (n : ℕ) (a b : Bool) (xs ys : List ℕ) → a ≡ b → xs ≡ ys → (if a then n ∷ xs else xs) ≡ (if b then n ∷ ys else ys)
place_same n a b xs ys e h = ap (λ c. if c then n ∷ xs else xs) e ∙ ap (λ zs. if b then n ∷ zs else zs) h

pub places_same : {A : Type 0} (p q : ℕ → A → Bool) → ((i : ℕ) (x : A) → p i x ≡ q i x) → (n : ℕ) (xs : List A) → places_from n p xs ≡ places_from n q xs
places_same p q h n [] = refl
places_same p q h n (x ∷ xs) = place_same n (p n x) (q n x) (places_from (n + 1) p xs) (places_from (n + 1) q xs) (h n x) (places_same p q h (n + 1) xs)

-- where the elements are mapped, the test is of what they are mapped to
pub places_mapped : {A B : Type 0} (p : ℕ → B → Bool) (f : A → B) (n : ℕ) (xs : List A) → places_from n p (map f xs) ≡ places_from n (λ i x. p i (f x)) xs
places_mapped p f n [] = refl
places_mapped p f n (x ∷ xs) = ap (λ ys. if p n (f x) then n ∷ ys else ys) (places_mapped p f (n + 1) xs)

pub got_mapped : {A B : Type 0} (f : A → B) (xs : List A) (i : ℕ) → slice_get (map f xs) i ≡ option_map f (slice_get xs i)
got_mapped f [] i = refl
got_mapped f (x ∷ xs) zero = refl
got_mapped f (x ∷ xs) (suc i) = got_mapped f xs i

pub got_numbered : {A B : Type 0} (f : (ℕ × A) → B) (n i j : ℕ) (xs : List A) → j ≡ n + i → slice_get (map f (enumerate_from n xs)) i ≡ option_map (λ x. f (j, x)) (slice_get xs i)
got_numbered f n i j [] e = refl
got_numbered f n zero j (x ∷ xs) e = let same : n ≡ j = omega (arith, e) in ap (λ k. Some (f (k, x))) same
got_numbered f n (suc i) j (x ∷ xs) e = got_numbered f (n + 1) i j xs (omega (arith, e))

place_from : {A : Type 0} (n : ℕ) (test : ℕ → A → Bool) (xs : List A) (p : ℕ) → IsIn p (places_from n test xs) → n ≤ p
place_from n test xs p h = let one = place_is n test xs p h in omega (arith, one.is)

one_place : {A : Type 0} (n p : ℕ) (test : ℕ → A → Bool) (xs : List A) (b : Bool) → IsIn p (if b then n ∷ places_from (n + 1) test xs else places_from (n + 1) test xs) →
    ((q : ℕ) → IsIn q (if b then n ∷ places_from (n + 1) test xs else places_from (n + 1) test xs) → q ≡ p) →
    (IsIn p (places_from (n + 1) test xs) → ((q : ℕ) → IsIn q (places_from (n + 1) test xs) → q ≡ p) → places_from (n + 1) test xs ≡ p ∷ []) →
    (if b then n ∷ places_from (n + 1) test xs else places_from (n + 1) test xs) ≡ p ∷ []
one_place n p test xs false there only rest = rest there only
one_place n p test xs true there only rest =
    let first : n ≡ p = only n (inl refl) in
    let none : places_from (n + 1) test xs ≡ [] = nothing_in (places_from (n + 1) test xs) (λ q k.
    let same : q ≡ p = only q (inr k) in
    let past : n + 1 ≤ q = place_from (n + 1) test xs q k in
    absurd (omega (arith, first, same, past))) in
    ap (λ (ps : List ℕ). n ∷ ps) none ∙ ap (λ k. k ∷ []) first

-- the only place is the whole list of places
pub only_place : {A : Type 0} (n p : ℕ) (test : ℕ → A → Bool) (xs : List A) → IsIn p (places_from n test xs) → ((q : ℕ) → IsIn q (places_from n test xs) → q ≡ p) → places_from n test xs ≡ p ∷ []
only_place n p test [] there only = absurd there
only_place n p test (x ∷ xs) there only = one_place n p test xs (test n x) there only (only_place (n + 1) p test xs)

pub length-numbered : {A B : Type 0} (f : (ℕ × A) → B) (n : ℕ) (xs : List A) → length (map f (enumerate_from n xs)) ≡ length xs
length-numbered f n [] = refl
length-numbered f n (x ∷ xs) = ap suc (length-numbered f (n + 1) xs)

-- ---- places that pass another test too

filter_by : (q : ℕ → Bool) (n : ℕ) (ps rest : List ℕ) → filter q ps ≡ rest → (s t : Bool) → q n ≡ t → filter q (if s then n ∷ ps else ps) ≡ (if s && t then n ∷ rest else rest)
filter_by q n ps rest same true true e = rw e (ap (λ (xs : List ℕ). n ∷ xs) same)
filter_by q n ps rest same true false e = rw e same
filter_by q n ps rest same false t e = same

pub filter_places : {A : Type 0} (p : ℕ → A → Bool) (q : ℕ → Bool) (n : ℕ) (xs : List A) → filter q (places_from n p xs) ≡ places_from n (λ i x. p i x && q i) xs
filter_places p q n [] = refl
filter_places p q n (x ∷ xs) = filter_by q n (places_from (n + 1) p xs) (places_from (n + 1) (λ i y. p i y && q i) xs) (filter_places p q (n + 1) xs) (p n x) (q n) refl

pub places_within : {A : Type 0} (p q : ℕ → A → Bool) (n : ℕ) (xs : List A) → ((i : ℕ) (x : A) → i < n + length xs → p i x ≡ q i x) → places_from n p xs ≡ places_from n q xs
places_within p q n [] same = refl
places_within {A = A} p q n (x ∷ xs) same =
    let here : p n x ≡ q n x = same n x (omega arith) in
    let rest : places_from (n + 1) p xs ≡ places_from (n + 1) q xs = places_within p q (n + 1) xs (λ i y h. same i y (omega (arith, h))) in
    ap (λ (t : Bool). if t then n ∷ places_from (n + 1) p xs else places_from (n + 1) p xs) here
    ∙ ap (λ (ps : List ℕ). if q n x then n ∷ ps else ps) rest
