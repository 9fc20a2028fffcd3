-- The one path through all lists: what changes in a list, and in the path by it.
use Rattle.std.proofs.Common.{◌≡◌, ◌∙◌, ◌⊎◌, ◌∷◌, ◌++◌, ◌+◌, ◌<◌, ◌≤◌, ◌||◌, [], ap, append_assoc, arith, Bool, false, inl, inr, length, List, map, refl, subst, suc, sym, true, zero, ℕ}
use Rattle.std.proofs.lemmas.List.Elements.{filter-append}
use Rattle.std.proofs.lemmas.List.Concat.{flat_map-append}
use Rattle.std.proofs.lemmas.List.Folds.{list_any-append}
use Rattle.std.specs.List.{AllByRecursion}
use Rattle.std.specs.Prelude.{◌==◌, if◌then◌else◌, nat_eq, not}
use Rattle.q_chains.specs.Laid.{AreApart, Lacks, strung}
use Rattle.q_chains.specs.Lists.{AllBelow, inserted, is_in, pushed, stands, without}
use Rattle.q_chains.proofs.Numbers.{other_test}
use Rattle.q_chains.proofs.Places.{among_from, HasNext, inserted_here, inserted_lacking, inserted_there, IsAmong, without_there}

pub below_lacks : (numbers p : ℕ) (xs : List ℕ) → AllByRecursion (λ x. x < numbers) xs → numbers ≤ p → Lacks p xs
below_lacks numbers p [] below h = tt
below_lacks numbers p (x ∷ xs) below h = (omega (arith, below.0), below_lacks numbers p xs below.1 h)

pub lacks_append : (p : ℕ) (xs ys : List ℕ) → Lacks p xs → Lacks p ys → Lacks p (xs ++ ys)
lacks_append p [] ys h k = k
lacks_append p (x ∷ xs) ys h k = (h.0, lacks_append p xs ys h.1 k)

pub lacks_front : (p : ℕ) (xs ys : List ℕ) → Lacks p (xs ++ ys) → Lacks p xs
lacks_front p [] ys h = tt
lacks_front p (x ∷ xs) ys h = (h.0, lacks_front p xs ys h.1)

pub lacks_back : (p : ℕ) (xs ys : List ℕ) → Lacks p (xs ++ ys) → Lacks p ys
lacks_back p [] ys h = h
lacks_back p (x ∷ xs) ys h = lacks_back p xs ys h.1

pub apart_front : (xs ys : List ℕ) → AreApart (xs ++ ys) → AreApart xs
apart_front [] ys h = tt
apart_front (x ∷ xs) ys h = (lacks_front x xs ys h.0, apart_front xs ys h.1)

pub apart_back : (xs ys : List ℕ) → AreApart (xs ++ ys) → AreApart ys
apart_back [] ys h = h
apart_back (x ∷ xs) ys h = apart_back xs ys h.1

pub among_append : (p : ℕ) (xs ys : List ℕ) → IsAmong p (xs ++ ys) → IsAmong p xs ⊎ IsAmong p ys
among_append p [] ys i = inr i
among_append p (x ∷ xs) ys (inl e) = inl (inl e)
among_append p (x ∷ xs) ys (inr i) = elim (among_append p xs ys i) [
  | inl h ↦ inl (inr h)
  | inr h ↦ inr h
]

pub among_back : (p : ℕ) (xs ys : List ℕ) → IsAmong p ys → IsAmong p (xs ++ ys)
among_back p [] ys i = i
among_back p (x ∷ xs) ys i = inr (among_back p xs ys i)

-- A border behind this one isn't in the path from a later one on.
pub strung_lacks : (numbers p border : ℕ) (xss : List (List ℕ)) → AllBelow numbers xss → numbers ≤ p → p ≤ border → Lacks p (strung border xss)
strung_lacks numbers p border [] below h k = tt
strung_lacks numbers p border (xs ∷ xss) below h k =
    lacks_append p xs ((border + 1) ∷ strung (border + 1) xss) (below_lacks numbers p xs below.0 h) (omega (arith, k), strung_lacks numbers p (border + 1) xss below.1 h (omega (arith, k)))

-- the border behind each list
pub strung_border : (list border : ℕ) (xss : List (List ℕ)) → list < length xss → IsAmong (border + list + 1) (strung border xss)
strung_border list border [] h = absurd (omega arith)
strung_border zero border (xs ∷ xss) h = among_back (border + zero + 1) xs ((border + 1) ∷ strung (border + 1) xss) (inl (omega arith))
strung_border (suc list) border (xs ∷ xss) h =
    let same : border + suc list + 1 ≡ (border + 1) + list + 1 = omega arith in
    among_back (border + suc list + 1) xs ((border + 1) ∷ strung (border + 1) xss) (inr (subst (λ (p : ℕ). IsAmong p (strung (border + 1) xss)) (sym same) (strung_border list (border + 1) xss (omega arith))))

next_front : (p t : ℕ) (xs ys : List ℕ) → IsAmong p xs → HasNext p (xs ++ t ∷ ys)
next_front p t [] ys i = absurd i
next_front p t (x ∷ []) ys (inl e) = inl e
next_front p t (x ∷ []) ys (inr i) = absurd i
next_front p t (x ∷ y ∷ xs) ys (inl e) = inl e
next_front p t (x ∷ y ∷ xs) ys (inr i) = inr (next_front p t (y ∷ xs) ys i)

next_more : (p x : ℕ) (ys : List ℕ) → HasNext p ys → HasNext p (x ∷ ys)
next_more p x [] i = absurd i
next_more p x (y ∷ ys) i = inr i

next_back : (p : ℕ) (xs ys : List ℕ) → HasNext p ys → HasNext p (xs ++ ys)
next_back p [] ys i = i
next_back p (x ∷ xs) ys i = next_more p x (xs ++ ys) (next_back p xs ys i)

-- the path ends in a border, so another place stands behind each number
pub strung_next : (p border : ℕ) (xss : List (List ℕ)) → p ≤ border → IsAmong p (strung border xss) → HasNext p (strung border xss)
strung_next p border [] h i = absurd i
strung_next p border (xs ∷ xss) h i = elim (among_append p xs ((border + 1) ∷ strung (border + 1) xss) i) [
  | inl k ↦ next_front p (border + 1) xs (strung (border + 1) xss) k
  | inr (inl e) ↦ absurd (omega (arith, e, h))
  | inr (inr k) ↦ next_back p xs ((border + 1) ∷ strung (border + 1) xss) (next_more p (border + 1) (strung (border + 1) xss) (strung_next p (border + 1) xss (omega (arith, h)) k))
]

-- a number goes
pub strung_without : (n border : ℕ) (xss : List (List ℕ)) → n ≤ border → strung border (map (without n) xss) ≡ without n (strung border xss)
strung_without n border [] h = refl
strung_without n border (xs ∷ xss) h =
    ap (λ ps. without n xs ++ (border + 1) ∷ ps) (strung_without n (border + 1) xss (omega (arith, h)))
    ∙ ap (λ ps. without n xs ++ ps) (sym (without_there n (border + 1) (strung (border + 1) xss) (omega (arith, h))))
    ∙ sym (filter-append (λ x. not (x == n)) xs ((border + 1) ∷ strung (border + 1) xss))

-- a number comes before another
pub strung_inserted : (n at border : ℕ) (xss : List (List ℕ)) → at ≤ border → strung border (map (inserted n at) xss) ≡ inserted n at (strung border xss)
strung_inserted n at border [] h = refl
strung_inserted n at border (xs ∷ xss) h =
    ap (λ ps. inserted n at xs ++ (border + 1) ∷ ps) (strung_inserted n at (border + 1) xss (omega (arith, h)))
    ∙ ap (λ ps. inserted n at xs ++ ps) (sym (inserted_there n at (border + 1) (strung (border + 1) xss) (omega (arith, h))))
    ∙ sym (flat_map-append (λ x. if x == at then n ∷ x ∷ [] else x ∷ []) xs ((border + 1) ∷ strung (border + 1) xss))

-- a number comes at the end of a list
pub strung_pushed : (numbers n list border : ℕ) (xss : List (List ℕ)) → AllBelow numbers xss → numbers ≤ border → list < length xss → strung border (pushed list n xss) ≡ inserted n (border + list + 1) (strung border xss)
strung_pushed numbers n list border [] below h k = absurd (omega arith)
strung_pushed numbers n zero border (xs ∷ xss) below h k =
    let at : border + zero + 1 ≡ border + 1 = omega arith in
    let rest = strung (border + 1) xss in
    append_assoc xs (n ∷ []) ((border + 1) ∷ rest)
    ∙ ap (λ ps. xs ++ n ∷ (border + 1) ∷ ps) (sym (inserted_lacking n (border + 1) rest (strung_lacks numbers (border + 1) (border + 1) xss below.1 (omega (arith, h)) (omega arith))))
    ∙ ap (λ ps. xs ++ ps) (sym (inserted_here n (border + 1) (border + 1) rest refl))
    ∙ ap (λ ps. ps ++ inserted n (border + 1) ((border + 1) ∷ rest)) (sym (inserted_lacking n (border + 1) xs (below_lacks numbers (border + 1) xs below.0 (omega (arith, h)))))
    ∙ sym (flat_map-append (λ x. if x == (border + 1) then n ∷ x ∷ [] else x ∷ []) xs ((border + 1) ∷ rest))
    ∙ ap (λ p. inserted n p (xs ++ (border + 1) ∷ rest)) (sym at)
strung_pushed numbers n (suc list) border (xs ∷ xss) below h k =
    let at : border + suc list + 1 ≡ (border + 1) + list + 1 = omega arith in
    let end = (border + 1) + list + 1 in
    let rest = strung (border + 1) xss in
    ap (λ ps. xs ++ (border + 1) ∷ ps) (strung_pushed numbers n list (border + 1) xss below.1 (omega (arith, h)) (omega (arith, k)))
    ∙ ap (λ ps. xs ++ ps) (sym (inserted_there n end (border + 1) rest (omega arith)))
    ∙ ap (λ ps. ps ++ inserted n end ((border + 1) ∷ rest)) (sym (inserted_lacking n end xs (below_lacks numbers end xs below.0 (omega (arith, h)))))
    ∙ sym (flat_map-append (λ x. if x == end then n ∷ x ∷ [] else x ∷ []) xs ((border + 1) ∷ rest))
    ∙ ap (λ p. inserted n p (xs ++ (border + 1) ∷ rest)) (sym at)

-- a number stands in a list where it stands in the path
pub stands_strung : (n border : ℕ) (xss : List (List ℕ)) → n ≤ border → is_in n (strung border xss) ≡ stands n xss
stands_strung n border [] h = refl
stands_strung n border (xs ∷ xss) h =
    list_any-append (nat_eq n) xs ((border + 1) ∷ strung (border + 1) xss)
    ∙ ap (λ t. is_in n xs || (t || is_in n (strung (border + 1) xss))) (other_test n (border + 1) (omega (arith, h)))
    ∙ ap (λ t. is_in n xs || t) (stands_strung n (border + 1) xss (omega (arith, h)))

-- each place of the path is a number or a border
among_below : (numbers p : ℕ) (xs : List ℕ) → AllByRecursion (λ x. x < numbers) xs → IsAmong p xs → p < numbers
among_below numbers p [] below i = absurd i
among_below numbers p (x ∷ xs) below (inl e) = omega (arith, e, below.0)
among_below numbers p (x ∷ xs) below (inr i) = among_below numbers p xs below.1 i

pub strung_within : (numbers border p : ℕ) (xss : List (List ℕ)) → AllBelow numbers xss → numbers ≤ border → IsAmong p (strung border xss) → p < border + length xss + 1
strung_within numbers border p [] below h i = absurd i
strung_within numbers border p (xs ∷ xss) below h i = elim (among_append p xs ((border + 1) ∷ strung (border + 1) xss) i) [
  | inl k ↦ let few = among_below numbers p xs below.0 k in omega (arith, few, h)
  | inr (inl e) ↦ omega (arith, e)
  | inr (inr k) ↦ let few = strung_within numbers (border + 1) p xss below.1 (omega (arith, h)) k in omega (arith, few)
]

stands_step : (numbers n : ℕ) (xs : List ℕ) (xss : List (List ℕ)) (t : Bool) → is_in n xs ≡ t → (t || stands n xss) ≡ true → AllByRecursion (λ x. x < numbers) xs → (stands n xss ≡ true → n < numbers) → n < numbers
stands_step numbers n xs xss true e h below rest = among_below numbers n xs below (among_from n xs e)
stands_step numbers n xs xss false e h below rest = rest h

-- what stands in a list is a number
pub stands_below : (numbers n : ℕ) (xss : List (List ℕ)) → AllBelow numbers xss → stands n xss ≡ true → n < numbers
stands_below numbers n [] below h = cc
stands_below numbers n (xs ∷ xss) below h = stands_step numbers n xs xss (is_in n xs) refl h below.0 (stands_below numbers n xss below.1)
