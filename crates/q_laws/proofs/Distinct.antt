-- Lists of ids without any id twice.
use Rattle.std.proofs.Common.{◌≡◌, Bool, true, false, not, List, [], ◌∷◌, ◌++◌, map, filter, find, Some, ◌⊎◌, inl, inr, refl, sym, ap, ◌∙◌, subst, cond}
use Rattle.std.proofs.lemmas.Bool.{and_from, and_parts, not-true, not_from_false}
use Rattle.std.specs.List.{list_any}
use Rattle.q_laws.proofs.Members.{IsIn, any_from, any_in, find_one, in_either, in_filtered, in_left, in_map, in_right, in_unmap, none_at, none_from}
use Rattle.q_model.proofs.IdLaws.{id_eq-refl, id_eq-true}
use Rattle.q_model.specs.Ids.{are_distinct, id_eq}
use Rattle.q_model.specs.declared.id.Id.{Id}

pub id_same : (a b : Id) → a ≡ b → id_eq a b ≡ true
id_same a b e = subst (λ x. id_eq a x ≡ true) e (id_eq-refl a)

pub id_other : (a b : Id) → id_eq a b ≡ false → a ≡ b → ⊥
id_other a b h e = let bad : false ≡ true = sym h ∙ id_same a b e in absurd cc

-- an id is another or the same
pub id_cases : (a b : Id) → ((a ≡ b) × (id_eq a b ≡ true)) ⊎ (id_eq a b ≡ false)
id_cases a b = which (id_eq a b) refl
  where
    which : (t : Bool) → id_eq a b ≡ t → ((a ≡ b) × (id_eq a b ≡ true)) ⊎ (id_eq a b ≡ false)
    which true e = inl (id_eq-true a b e, e)
    which false e = inr e

pub id_eq-sym : (a b : Id) → id_eq a b ≡ false → id_eq b a ≡ false
id_eq-sym a b h = elim (id_cases b a) [
  | inl same ↦ absurd (id_other a b h (sym same.0))
  | inr other ↦ other
]

-- where an id stands in a list, and where it doesn't
pub listed_in : (id : Id) (ids : List Id) → list_any (id_eq id) ids ≡ true → IsIn id ids
listed_in id ids h = let one = any_in (id_eq id) ids h in subst (λ x. IsIn x ids) (sym (id_eq-true id one.0 one.2)) one.1

pub in_listed : (id : Id) (ids : List Id) → IsIn id ids → list_any (id_eq id) ids ≡ true
in_listed id ids h = any_from (id_eq id) id ids h (id_eq-refl id)

pub gone_listed : (id : Id) (ids : List Id) → list_any (id_eq id) ids ≡ false → IsIn id ids → ⊥
gone_listed id ids h k = let bad : true ≡ false = sym (in_listed id ids k) ∙ h in absurd cc

pub distinct_tail : (id : Id) (ids : List Id) → are_distinct (id ∷ ids) ≡ true → (IsIn id ids → ⊥) × (are_distinct ids ≡ true)
distinct_tail id ids h =
    let two = and_parts (not (list_any (λ i. id_eq i id) ids)) (are_distinct ids) h in
    (λ k. id_other id id (none_at (λ i. id_eq i id) id ids (not-true (list_any (λ i. id_eq i id) ids) two.0) k) refl, two.1)

pub distinct_cons : (id : Id) (ids : List Id) → (IsIn id ids → ⊥) → are_distinct ids ≡ true → are_distinct (id ∷ ids) ≡ true
distinct_cons id ids h k =
    and_from (not (list_any (λ i. id_eq i id) ids)) (are_distinct ids)
    (not_from_false (list_any (λ i. id_eq i id) ids) (none_from (λ i. id_eq i id) ids (λ x g. elim (id_cases x id) [
      | inl same ↦ absurd (h (subst (λ y. IsIn y ids) same.0 g))
      | inr other ↦ other
    ]))) k

pub distinct_parts : (xs ys : List Id) → are_distinct (xs ++ ys) ≡ true → (are_distinct xs ≡ true) × (are_distinct ys ≡ true) × ((id : Id) → IsIn id xs → IsIn id ys → ⊥)
distinct_parts [] ys h = (refl, h, λ id k g. absurd k)
distinct_parts (x ∷ xs) ys h =
    let two = distinct_tail x (xs ++ ys) h in
    let rest = distinct_parts xs ys two.1 in
    (distinct_cons x xs (λ k. two.0 (in_left x xs ys k)) rest.0, rest.1, apart two.0 rest.2)
  where
    apart : (IsIn x (xs ++ ys) → ⊥) → ((id : Id) → IsIn id xs → IsIn id ys → ⊥) → (id : Id) → IsIn id (x ∷ xs) → IsIn id ys → ⊥
    apart first rest id (inl e) g = first (in_right x xs ys (subst (λ y. IsIn y ys) (sym e) g))
    apart first rest id (inr k) g = rest id k g

pub distinct_join : (xs ys : List Id) → are_distinct xs ≡ true → are_distinct ys ≡ true → ((id : Id) → IsIn id xs → IsIn id ys → ⊥) → are_distinct (xs ++ ys) ≡ true
distinct_join [] ys h k apart = k
distinct_join (x ∷ xs) ys h k apart =
    let two = distinct_tail x xs h in
    distinct_cons x (xs ++ ys) (λ g. elim (in_either x xs ys g) [
      | inl here ↦ two.0 here
      | inr there ↦ apart x (inl refl) there
    ]) (distinct_join xs ys two.1 k (λ id g. apart id (inr g)))

filtered_one : (id : Id) (few : List Id) (b : Bool) → (IsIn id few → ⊥) → are_distinct few ≡ true → are_distinct (cond b (id ∷ few) few) ≡ true
filtered_one id few true h k = distinct_cons id few h k
filtered_one id few false h k = k

pub distinct_filter : (p : Id → Bool) (ids : List Id) → are_distinct ids ≡ true → are_distinct (filter p ids) ≡ true
distinct_filter p [] h = refl
distinct_filter p (x ∷ xs) h = let two = distinct_tail x xs h in filtered_one x (filter p xs) (p x) (λ k. two.0 (in_filtered p x xs k).0) (distinct_filter p xs two.1)

-- ---- ids that are the names of other things

named_one : {A : Type 0} (name : A → Id) (x : A) (few : List A) (b : Bool) → (IsIn (name x) (map name few) → ⊥) → are_distinct (map name few) ≡ true → are_distinct (map name (cond b (x ∷ few) few)) ≡ true
named_one name x few true h k = distinct_cons (name x) (map name few) h k
named_one name x few false h k = k

pub names_filtered : {A : Type 0} (name : A → Id) (p : A → Bool) (id : Id) (xs : List A) → IsIn id (map name (filter p xs)) → IsIn id (map name xs)
names_filtered name p id xs h = let one = in_unmap name id (filter p xs) h in subst (λ y. IsIn y (map name xs)) one.2 (in_map name one.0 xs (in_filtered p one.0 xs one.1).0)

pub distinct_named : {A : Type 0} (name : A → Id) (p : A → Bool) (xs : List A) → are_distinct (map name xs) ≡ true → are_distinct (map name (filter p xs)) ≡ true
distinct_named name p [] h = refl
distinct_named name p (x ∷ xs) h =
    let two = distinct_tail (name x) (map name xs) h in
    named_one name x (filter p xs) (p x) (λ k. two.0 (names_filtered name p (name x) xs k)) (distinct_named name p xs two.1)

-- of two of the same name there is only one
pub same_named : {A : Type 0} (name : A → Id) (x y : A) (xs : List A) → are_distinct (map name xs) ≡ true → IsIn x xs → IsIn y xs → name x ≡ name y → x ≡ y
same_named name x y [] h k g e = absurd k
same_named name x y (z ∷ zs) h (inl k) (inl g) e = sym k ∙ g
same_named name x y (z ∷ zs) h (inl k) (inr g) e =
    let two = distinct_tail (name z) (map name zs) h in
    absurd (two.0 (subst (λ i. IsIn i (map name zs)) (sym e ∙ ap name (sym k)) (in_map name y zs g)))
same_named name x y (z ∷ zs) h (inr k) (inl g) e =
    let two = distinct_tail (name z) (map name zs) h in
    absurd (two.0 (subst (λ i. IsIn i (map name zs)) (e ∙ ap name (sym g)) (in_map name x zs k)))
same_named name x y (z ∷ zs) h (inr k) (inr g) e = same_named name x y zs (distinct_tail (name z) (map name zs) h).1 k g e

-- the one of a name is found by it
pub find_named : {A : Type 0} (name : A → Id) (x : A) (xs : List A) → are_distinct (map name xs) ≡ true → IsIn x xs → find (λ y. id_eq (name y) (name x)) xs ≡ Some x
find_named name x xs h k = find_one (λ y. id_eq (name y) (name x)) x xs k (id_eq-refl (name x)) (λ y g e. same_named name y x xs h g k (id_eq-true (name y) (name x) e))
