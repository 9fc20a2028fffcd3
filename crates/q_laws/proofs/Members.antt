-- Members of lists: what each has, which pass a test, and which is found.
use Rattle.std.proofs.Common.{◌≡◌, Bool, true, false, cond, List, [], ◌∷◌, ◌++◌, map, filter, find, Option, Some, None, ◌⊎◌, inl, inr, refl, sym, ap, ◌∙◌, if◌then◌else◌}
use Rattle.std.proofs.lemmas.Bool.{and_from, and_parts, or_cases, or_from, or_left, or_parts, or_right}
use Rattle.std.specs.List.{list_all, list_any}
use Rattle.std.specs.Option.{option_map_or}
use Rattle.q_model.specs.Lists.{drop_first, least}

-- the list has the element
abbrev pub IsIn : {A : Type 0} → A → List A → Type 0
IsIn x [] = ⊥
IsIn x (y ∷ ys) = (y ≡ x) ⊎ IsIn x ys

pub in_map : {A B : Type 0} (f : A → B) (x : A) (xs : List A) → IsIn x xs → IsIn (f x) (map f xs)
in_map f x [] h = absurd h
in_map f x (y ∷ ys) (inl e) = inl (ap f e)
in_map f x (y ∷ ys) (inr h) = inr (in_map f x ys h)

pub in_unmap : {A B : Type 0} (f : A → B) (y : B) (xs : List A) → IsIn y (map f xs) → (x : A) × IsIn x xs × (f x ≡ y)
in_unmap f y [] h = absurd h
in_unmap f y (x ∷ xs) (inl e) = (x, inl refl, e)
in_unmap f y (x ∷ xs) (inr h) = let rest = in_unmap f y xs h in (rest.0, inr rest.1, rest.2)

pub in_left : {A : Type 0} (x : A) (xs ys : List A) → IsIn x xs → IsIn x (xs ++ ys)
in_left x [] ys h = absurd h
in_left x (y ∷ xs) ys (inl e) = inl e
in_left x (y ∷ xs) ys (inr h) = inr (in_left x xs ys h)

pub in_right : {A : Type 0} (x : A) (xs ys : List A) → IsIn x ys → IsIn x (xs ++ ys)
in_right x [] ys h = h
in_right x (y ∷ xs) ys h = inr (in_right x xs ys h)

pub in_either : {A : Type 0} (x : A) (xs ys : List A) → IsIn x (xs ++ ys) → IsIn x xs ⊎ IsIn x ys
in_either x [] ys h = inr h
in_either x (y ∷ xs) ys (inl e) = inl (inl e)
in_either x (y ∷ xs) ys (inr h) = elim (in_either x xs ys h) [ inl k ↦ inl (inr k) | inr k ↦ inr k ]

kept_one : {A : Type 0} (p : A → Bool) (x y : A) (few all : List A) (b : Bool) → p y ≡ b → (IsIn x few → IsIn x all × (p x ≡ true)) → IsIn x (cond b (y ∷ few) few) → IsIn x (y ∷ all) × (p x ≡ true)
kept_one p x y few all true e rest (inl same) = (inl same, ap p (sym same) ∙ e)
kept_one p x y few all true e rest (inr h) = let k = rest h in (inr k.0, k.1)
kept_one p x y few all false e rest h = let k = rest h in (inr k.0, k.1)

pub in_filtered : {A : Type 0} (p : A → Bool) (x : A) (xs : List A) → IsIn x (filter p xs) → IsIn x xs × (p x ≡ true)
in_filtered p x [] h = absurd h
in_filtered p x (y ∷ ys) h = kept_one p x y (filter p ys) ys (p y) refl (in_filtered p x ys) h

first_kept : {A : Type 0} (p : A → Bool) (x y : A) (few : List A) (b : Bool) → p y ≡ b → y ≡ x → p x ≡ true → IsIn x (cond b (y ∷ few) few)
first_kept p x y few true e same h = inl same
first_kept p x y few false e same h = let bad : false ≡ true = sym e ∙ ap p same ∙ h in cc

later_kept : {A : Type 0} (x y : A) (few : List A) (b : Bool) → IsIn x few → IsIn x (cond b (y ∷ few) few)
later_kept x y few true h = inr h
later_kept x y few false h = h

pub in_filter : {A : Type 0} (p : A → Bool) (x : A) (xs : List A) → IsIn x xs → p x ≡ true → IsIn x (filter p xs)
in_filter p x [] h e = absurd h
in_filter p x (y ∷ ys) (inl same) e = first_kept p x y (filter p ys) (p y) refl same e
in_filter p x (y ∷ ys) (inr h) e = later_kept x y (filter p ys) (p y) (in_filter p x ys h e)

-- ---- all of them

pub all_at : {A : Type 0} (p : A → Bool) (x : A) (xs : List A) → list_all p xs ≡ true → IsIn x xs → p x ≡ true
all_at p x [] all h = absurd h
all_at p x (y ∷ ys) all (inl e) = ap p (sym e) ∙ (and_parts (p y) (list_all p ys) all).0
all_at p x (y ∷ ys) all (inr h) = all_at p x ys (and_parts (p y) (list_all p ys) all).1 h

pub all_from : {A : Type 0} (p : A → Bool) (xs : List A) → ((x : A) → IsIn x xs → p x ≡ true) → list_all p xs ≡ true
all_from p [] h = refl
all_from p (x ∷ xs) h = and_from (p x) (list_all p xs) (h x (inl refl)) (all_from p xs (λ y k. h y (inr k)))

-- what all have gives them something else
pub all_weaker : {A : Type 0} (p q : A → Bool) (xs : List A) → ((x : A) → IsIn x xs → p x ≡ true → q x ≡ true) → list_all p xs ≡ true → list_all q xs ≡ true
all_weaker p q xs h all = all_from q xs (λ x k. h x k (all_at p x xs all k))

pub all_append : {A : Type 0} (p : A → Bool) (xs ys : List A) → list_all p xs ≡ true → list_all p ys ≡ true → list_all p (xs ++ ys) ≡ true
all_append p [] ys h k = k
all_append p (x ∷ xs) ys h k = let two = and_parts (p x) (list_all p xs) h in and_from (p x) (list_all p (xs ++ ys)) two.0 (all_append p xs ys two.1 k)

pub all_filtered : {A : Type 0} (p q : A → Bool) (xs : List A) → list_all p xs ≡ true → list_all p (filter q xs) ≡ true
all_filtered p q xs h = all_from p (filter q xs) (λ x k. all_at p x xs h (in_filtered q x xs k).0)

-- ---- one of them

pub any_in : {A : Type 0} (p : A → Bool) (xs : List A) → list_any p xs ≡ true → (x : A) × IsIn x xs × (p x ≡ true)
any_in p [] h = absurd cc
any_in p (x ∷ xs) h = elim (or_cases (p x) (list_any p xs) h) [
  | inl e ↦ (x, inl refl, e)
  | inr k ↦ let rest = any_in p xs k in (rest.0, inr rest.1, rest.2)
]

pub any_from : {A : Type 0} (p : A → Bool) (x : A) (xs : List A) → IsIn x xs → p x ≡ true → list_any p xs ≡ true
any_from p x [] h e = absurd h
any_from p x (y ∷ ys) (inl same) e = or_left (p y) (list_any p ys) (ap p same ∙ e)
any_from p x (y ∷ ys) (inr h) e = or_right (p y) (list_any p ys) (any_from p x ys h e)

pub none_at : {A : Type 0} (p : A → Bool) (x : A) (xs : List A) → list_any p xs ≡ false → IsIn x xs → p x ≡ false
none_at p x [] none h = absurd h
none_at p x (y ∷ ys) none (inl e) = ap p (sym e) ∙ (or_parts (p y) (list_any p ys) none).0
none_at p x (y ∷ ys) none (inr h) = none_at p x ys (or_parts (p y) (list_any p ys) none).1 h

pub none_from : {A : Type 0} (p : A → Bool) (xs : List A) → ((x : A) → IsIn x xs → p x ≡ false) → list_any p xs ≡ false
none_from p [] h = refl
none_from p (x ∷ xs) h = or_from (p x) (list_any p xs) (h x (inl refl)) (none_from p xs (λ y k. h y (inr k)))

-- ---- the first of them

found_here : {A : Type 0} (p : A → Bool) (x y : A) (o : Option A) (xs : List A) (b : Bool) → p y ≡ b → (o ≡ Some x → IsIn x xs × (p x ≡ true)) → cond b (Some y) o ≡ Some x → IsIn x (y ∷ xs) × (p x ≡ true)
found_here p x y o xs true e rest h = let same : y ≡ x = cc in (inl same, ap p (sym same) ∙ e)
found_here p x y o xs false e rest h = let k = rest h in (inr k.0, k.1)

pub find_in : {A : Type 0} (p : A → Bool) (x : A) (xs : List A) → find p xs ≡ Some x → IsIn x xs × (p x ≡ true)
find_in p x [] h = absurd cc
find_in p x (y ∷ ys) h = found_here p x y (find p ys) ys (p y) refl (find_in p x ys) h

one_first : {A : Type 0} (p : A → Bool) (x y : A) (o : Option A) (b : Bool) → p y ≡ b → (p y ≡ true → y ≡ x) → (b ≡ false → o ≡ Some x) → cond b (Some y) o ≡ Some x
one_first p x y o true e same rest = ap Some (same e)
one_first p x y o false e same rest = rest refl

-- the only one that passes is found
pub find_one : {A : Type 0} (p : A → Bool) (x : A) (xs : List A) → IsIn x xs → p x ≡ true → ((y : A) → IsIn y xs → p y ≡ true → y ≡ x) → find p xs ≡ Some x
find_one p x [] h e only = absurd h
find_one p x (y ∷ ys) (inl same) e only = one_first p x y (find p ys) (p y) refl (λ k. same) (λ k. let bad : false ≡ true = sym k ∙ ap p same ∙ e in absurd cc)
find_one p x (y ∷ ys) (inr h) e only = one_first p x y (find p ys) (p y) refl (only y (inl refl)) (λ k. find_one p x ys h e (λ z g. only z (inr g)))

none_here : {A : Type 0} (b : Bool) (y : A) (o : Option A) → cond b (Some y) o ≡ None → (b ≡ false) × (o ≡ None)
none_here true y o h = absurd cc
none_here false y o h = (refl, h)

pub find_none : {A : Type 0} (p : A → Bool) (x : A) (xs : List A) → find p xs ≡ None → IsIn x xs → p x ≡ false
find_none p x [] h k = absurd k
find_none p x (y ∷ ys) h (inl e) = ap p (sym e) ∙ (none_here (p y) y (find p ys) h).0
find_none p x (y ∷ ys) h (inr k) = find_none p x ys (none_here (p y) y (find p ys) h).1 k

pub find_none_from : {A : Type 0} (p : A → Bool) (xs : List A) → ((x : A) → IsIn x xs → p x ≡ false) → find p xs ≡ None
find_none_from p [] h = refl
find_none_from p (x ∷ xs) h = ap (λ b. cond b (Some x) (find p xs)) (h x (inl refl)) ∙ find_none_from p xs (λ y k. h y (inr k))

-- ---- the least, and all but the first

least_one : {A : Type 0} (before : A → A → Bool) (x y z : A) (ys : List A) (o : Option A) → (o ≡ Some x → IsIn x ys) → Some (option_map_or (λ v. if before v y then v else y) o y) ≡ Some x → IsIn x (y ∷ ys)
least_one before x y z ys None rest h = inl cc
least_one before x y z ys (Some v) rest h = pick (before v y) h
  where
    pick : (b : Bool) → Some (if b then v else y) ≡ Some x → IsIn x (y ∷ ys)
    pick true e = inr (rest e)
    pick false e = inl cc

pub least_in : {A : Type 0} (before : A → A → Bool) (x : A) (xs : List A) → least before xs ≡ Some x → IsIn x xs
least_in before x [] h = absurd cc
least_in before x (y ∷ ys) h = least_one before x y y ys (least before ys) (least_in before x ys) h

dropped_one : {A : Type 0} (x y : A) (few ys : List A) (b : Bool) → (IsIn x few → IsIn x ys) → IsIn x (if b then ys else y ∷ few) → IsIn x (y ∷ ys)
dropped_one x y few ys true rest h = inr h
dropped_one x y few ys false rest (inl e) = inl e
dropped_one x y few ys false rest (inr h) = inr (rest h)

pub in_dropped : {A : Type 0} (p : A → Bool) (x : A) (xs : List A) → IsIn x (drop_first p xs) → IsIn x xs
in_dropped p x [] h = h
in_dropped p x (y ∷ ys) h = dropped_one x y (drop_first p ys) ys (p y) (in_dropped p x ys) h

-- tests that answer alike keep the same
pub filter_same : {A : Type 0} (p q : A → Bool) → ((x : A) → p x ≡ q x) → (xs : List A) → filter p xs ≡ filter q xs
filter_same p q h [] = refl
filter_same p q h (x ∷ xs) = ap (λ b. cond b (x ∷ filter p xs) (filter p xs)) (h x) ∙ ap (λ ys. cond (q x) (x ∷ ys) ys) (filter_same p q h xs)
