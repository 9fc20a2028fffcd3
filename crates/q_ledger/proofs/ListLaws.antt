-- Searches of lists.
use Rattle.std.proofs.Common.{◌≡◌, ℕ, ◌<◌, ◌≤◌, Bool, true, false, cond, List, [], ◌∷◌, length, map, refl, sym, ap, ◌∙◌, arith, Option, Some, None, option_map, ◌⊎◌, inl, inr, subst, suc, ◌+◌, not, take_all, zero, set, get_or}
use Rattle.std.specs.Prelude.{find, filter, position, slice_get, ◌||◌, ◌&&◌}
use Rattle.std.specs.List.{list_any, remove, position_or_len}
use Rattle.std.proofs.lemmas.Grind.{common_steps}
use Rattle.std.proofs.lemmas.Option.{get_or_from_slice_get, slice_get_cases}
use Rattle.std.proofs.lemmas.List.Folds.{find_at}
use Rattle.std.proofs.lemmas.List.{drop_all}
use Rattle.std.specs.List.{enumerate_from}
use Rattle.q_model.specs.Lists.{drop_first}

find_step : {X Y : Type 0} (f : X → Y) (b : Bool) (x : X) (o : Option X) → cond b (Some (f x)) (option_map f o) ≡ option_map f (cond b (Some x) o)
find_step f true x o = refl
find_step f false x o = refl

-- a search of mapped elements
pub find-map : {X Y : Type 0} (p : Y → Bool) (f : X → Y) (xs : List X) → find p (map f xs) ≡ option_map f (find (λ x. p (f x)) xs)
find-map p f [] = refl
find-map p f (x ∷ xs) = ap (cond (p (f x)) (Some (f x))) (find-map p f xs) ∙ find_step f (p (f x)) x (find (λ y. p (f y)) xs)

-- tests that answer alike find the same
pub find-same : {X : Type 0} (p q : X → Bool) → ((x : X) → p x ≡ q x) → (xs : List X) → find p xs ≡ find q xs
find-same p q h [] = refl
find-same p q h (x ∷ xs) = ap (λ b. cond b (Some x) (find p xs)) (h x) ∙ ap (cond (q x) (Some x)) (find-same p q h xs)

-- what is found, and where it stands
pub record IsFoundAt {X : Type 0} (p : X → Bool) (xs : List X) (i : ℕ) (x : X) : Type 0 where
  pub place : position p xs ≡ Some i
  pub there : slice_get xs i ≡ Some x
  pub found : find p xs ≡ Some x

pub position-find : {X : Type 0} (p : X → Bool) (xs : List X) → ((position p xs ≡ None) × (find p xs ≡ None)) ⊎ ((i : ℕ) × (x : X) × IsFoundAt p xs i x)
position-find p xs = elim ((slice_get_cases xs (position_or_len p xs)).1) [
  | inl h ↦ inr (position_or_len p xs, h.0, record { place = grind (arith, common_steps, h.1); there = h.2; found = find_at p xs ∙ h.2 })
  | inr h ↦ inl (grind (arith, common_steps, h.0), find_at p xs ∙ h.1)
]

found_first : {X : Type 0} (p : X → Bool) (x : X) (o : Option X) (y : X) → (o ≡ Some y → p y ≡ true) → (b : Bool) → p x ≡ b → cond b (Some x) o ≡ Some y → p y ≡ true
found_first p x o y rest true e h = let same : x ≡ y = cc in subst (λ z. p z ≡ true) same e
found_first p x o y rest false e h = rest h

-- what is found passes
pub find-passes : {X : Type 0} (p : X → Bool) (xs : List X) (y : X) → find p xs ≡ Some y → p y ≡ true
find-passes p [] y h = cc
find-passes p (x ∷ xs) y h = found_first p x (find p xs) y (find-passes p xs y) (p x) refl h

removed_first : {X : Type 0} (x : X) (xs rest : List X) (n : ℕ) (b : Bool) → remove xs n ≡ rest → remove (x ∷ xs) (cond (not b) (1 + n) 0) ≡ cond b xs (x ∷ rest)
removed_first x xs rest n true h = refl
removed_first x xs rest n false h = let e : 1 + n ≡ suc n = omega arith in rw e (ap (λ ys. x ∷ ys) h)

-- the first that passes is the one at the first place that passes
pub drop_first-remove : {X : Type 0} (p : X → Bool) (xs : List X) → remove xs (position_or_len p xs) ≡ drop_first p xs
drop_first-remove p [] = refl
drop_first-remove p (x ∷ xs) = removed_first x xs (drop_first p xs) (position_or_len p xs) (p x) (drop_first-remove p xs)

pub drop_first-Some : {X : Type 0} (p : X → Bool) (xs : List X) (i : ℕ) → position p xs ≡ Some i → remove xs i ≡ drop_first p xs
drop_first-Some p xs i h = let e : i ≡ position_or_len p xs = grind (arith, common_steps, h) in ap (remove xs) e ∙ drop_first-remove p xs

pub drop_first-None : {X : Type 0} (p : X → Bool) (xs : List X) → position p xs ≡ None → xs ≡ drop_first p xs
drop_first-None p xs h =
    let past : length xs ≤ position_or_len p xs = grind (arith, common_steps, h) in
    sym (grind (arith, common_steps, take_all (position_or_len p xs) xs past, drop_all (suc (position_or_len p xs)) xs (omega arith))) ∙ drop_first-remove p xs

-- the first i elements, numbered from n on, are mapped
abbrev pub numbered_front : {X : Type 0} → ((ℕ × X) → X) → ℕ → ℕ → List X → List X
numbered_front f n zero xs = xs
numbered_front f n (suc i) [] = []
numbered_front f n (suc i) (x ∷ xs) = f (n, x) ∷ numbered_front f (n + 1) i xs

pub numbered_more : {X : Type 0} (f : (ℕ × X) → X) (n i j : ℕ) (xs : List X) (x : X) → j ≡ n + i → i < length xs → x ≡ get_or (numbered_front f n i xs) i x → set (numbered_front f n i xs) i (f (j, x)) ≡ numbered_front f n (suc i) xs
numbered_more f n i j [] x e h r = absurd (omega arith)
numbered_more f n zero j (y ∷ ys) x e h r = let same : j ≡ n = omega arith in ap (λ k. f (k, x) ∷ ys) same ∙ ap (λ z. f (n, z) ∷ ys) r
numbered_more f n (suc i) j (y ∷ ys) x e h r =
    let next : j ≡ n + 1 + i = omega arith in
    let within : i < length ys = omega arith in
    ap (λ zs. f (n, y) ∷ zs) (numbered_more f (n + 1) i j ys x next within r)

pub numbered_all : {X : Type 0} (f : (ℕ × X) → X) (n i : ℕ) (xs : List X) → length xs ≤ i → numbered_front f n i xs ≡ map f (enumerate_from n xs)
numbered_all f n zero [] h = refl
numbered_all f n (suc i) [] h = refl
numbered_all f n zero (x ∷ xs) h = absurd (omega arith)
numbered_all f n (suc i) (x ∷ xs) h = let rest : length xs ≤ i = omega arith in ap (λ ys. f (n, x) ∷ ys) (numbered_all f (n + 1) i xs rest)

pub filter-same : {X : Type 0} (p q : X → Bool) → ((x : X) → p x ≡ q x) → (xs : List X) → filter p xs ≡ filter q xs
filter-same p q h [] = refl
filter-same p q h (x ∷ xs) = ap (λ b. cond b (x ∷ filter p xs) (filter p xs)) (h x) ∙ ap (λ ys. cond (q x) (x ∷ ys) ys) (filter-same p q h xs)

kept_mapped : {X Y : Type 0} (f : X → Y) (b : Bool) (x : X) (xs : List X) → cond b (f x ∷ map f xs) (map f xs) ≡ map f (cond b (x ∷ xs) xs)
kept_mapped f true x xs = refl
kept_mapped f false x xs = refl

pub filter-map : {X Y : Type 0} (p : Y → Bool) (f : X → Y) (xs : List X) → filter p (map f xs) ≡ map f (filter (λ x. p (f x)) xs)
filter-map p f [] = refl
filter-map p f (x ∷ xs) = ap (λ ys. cond (p (f x)) (f x ∷ ys) ys) (filter-map p f xs) ∙ kept_mapped f (p (f x)) x (filter (λ y. p (f y)) xs)

pub filter_none : {X : Type 0} (p : X → Bool) → ((x : X) → p x ≡ false) → (xs : List X) → filter p xs ≡ []
filter_none p h [] = refl
filter_none p h (x ∷ xs) = ap (λ b. cond b (x ∷ filter p xs) (filter p xs)) (h x) ∙ filter_none p h xs

pub filter_each : {X : Type 0} (p : X → Bool) → ((x : X) → p x ≡ true) → (xs : List X) → filter p xs ≡ xs
filter_each p h [] = refl
filter_each p h (x ∷ xs) = ap (λ b. cond b (x ∷ filter p xs) (filter p xs)) (h x) ∙ ap (λ ys. x ∷ ys) (filter_each p h xs)

pub length-numbered : {X Y : Type 0} (f : (ℕ × X) → Y) (n : ℕ) (xs : List X) → length (map f (enumerate_from n xs)) ≡ length xs
length-numbered f n [] = refl
length-numbered f n (x ∷ xs) = ap suc (length-numbered f (n + 1) xs)

none_first : {X : Type 0} (b : Bool) (x : X) (o : Option X) (rest : Bool) → (o ≡ None → rest ≡ false) → cond b (Some x) o ≡ None → (b || rest) ≡ false
none_first true x o rest h e = cc
none_first false x o rest h e = h e

-- where nothing is found, nothing passes
pub find-none : {X : Type 0} (p : X → Bool) (xs : List X) → find p xs ≡ None → list_any p xs ≡ false
find-none p [] e = refl
find-none p (x ∷ xs) e = none_first (p x) x (find p xs) (list_any p xs) (find-none p xs) e

-- what is found by its place
pub found_at : {X : Type 0} (p : X → Bool) (xs : List X) (i : ℕ) (y : X) → position p xs ≡ Some i → y ≡ get_or xs i y → Some y ≡ find p xs
found_at p xs i y h at = elim (position-find p xs) [
  | inl n ↦ let bad : None ≡ Some i = sym n.0 ∙ h in cc
  | inr f ↦
      let same : Some f.0 ≡ Some i = sym f.2.place ∙ h in
      let here : f.0 ≡ i = cc in
      ap Some (at ∙ get_or_from_slice_get xs i f.1 y (subst (λ n. slice_get xs n ≡ Some f.1) here f.2.there)) ∙ sym f.2.found
]

pub not_found : {X : Type 0} (p : X → Bool) (xs : List X) → position p xs ≡ None → None ≡ find p xs
not_found p xs h = elim (position-find p xs) [
  | inl n ↦ sym n.1
  | inr f ↦ let bad : None ≡ Some f.0 = sym h ∙ f.2.place in cc
]
