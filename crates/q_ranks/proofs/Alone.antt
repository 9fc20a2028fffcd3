-- Chains of one list.
use Rattle.std.proofs.Common.{◌≡◌, ◌||◌, ◌∷◌, ◌++◌, ◌<◌, [], ap, arith, Bool, cond, false, get_or, length, List, map, refl, Some, suc, true, ℕ}
use Rattle.std.proofs.lemmas.Bool.{eqb-false}
use Rattle.std.proofs.lemmas.Map.Keys.{IsDistinct-head, IsDistinct-tail}
use Rattle.std.specs.List.{AllByRecursion, concat, IsDistinct}
use Rattle.std.specs.Option.{unwrap_or}
use Rattle.std.specs.Prelude.{find, nat_eq}
use Rattle.q_chains.specs.Laid.{AreApart, Lacks}
use Rattle.q_chains.specs.Lists.{AllBelow, is_in, list_with, pushed, stands}
use Rattle.q_chains.proofs.Borders.{apart_front}

or_false : (t : Bool) → (t || false) ≡ t
or_false true = refl
or_false false = refl

pub stands_alone : (n : ℕ) (xss : List (List ℕ)) → length xss ≡ 1 → stands n xss ≡ is_in n (get_or xss 0 [])
stands_alone n [] one = absurd (omega (arith, one))
stands_alone n (xs ∷ []) one = or_false (is_in n xs)
stands_alone n (xs ∷ ys ∷ xss) one = absurd (omega (arith, one))

pub list_alone : (n : ℕ) (xss : List (List ℕ)) → length xss ≡ 1 → is_in n (get_or xss 0 []) ≡ true → list_with n xss ≡ get_or xss 0 []
list_alone n [] one h = absurd (omega (arith, one))
list_alone n (xs ∷ xss) one h = ap (λ t. unwrap_or (cond t (Some xs) (find (is_in n) xss)) []) h

pub pushed_alone : (n : ℕ) (xss : List (List ℕ)) → length xss ≡ 1 → get_or (pushed 0 n xss) 0 [] ≡ get_or xss 0 [] ++ n ∷ []
pushed_alone n [] one = absurd (omega (arith, one))
pushed_alone n (xs ∷ xss) one = refl

pub mapped_alone : (f : List ℕ → List ℕ) (xss : List (List ℕ)) → length xss ≡ 1 → get_or (map f xss) 0 [] ≡ f (get_or xss 0 [])
mapped_alone f [] one = absurd (omega (arith, one))
mapped_alone f (xs ∷ xss) one = refl

pub length_mapped : (f : List ℕ → List ℕ) (xss : List (List ℕ)) → length (map f xss) ≡ length xss
length_mapped f [] = refl
length_mapped f (xs ∷ xss) = ap suc (length_mapped f xss)

lacks_from_head : (x : ℕ) (xs : List ℕ) → AllByRecursion (λ y. nat_eq x y ≡ false) xs → Lacks x xs
lacks_from_head x [] h = tt
lacks_from_head x (y ∷ xs) h = (eqb-false x y h.0, lacks_from_head x xs h.1)

apart_from : (xs : List ℕ) → IsDistinct nat_eq xs → AreApart xs
apart_from [] h = tt
apart_from (x ∷ xs) h = (lacks_from_head x xs (IsDistinct-head nat_eq x xs h), apart_from xs (IsDistinct-tail nat_eq x xs h))

pub apart_alone : (xss : List (List ℕ)) → IsDistinct nat_eq (concat xss) → AreApart (get_or xss 0 [])
apart_alone [] h = tt
apart_alone (xs ∷ xss) h = apart_front xs (concat xss) (apart_from (xs ++ concat xss) h)

pub below_alone : (numbers : ℕ) (xss : List (List ℕ)) → AllBelow numbers xss → AllByRecursion (λ x. x < numbers) (get_or xss 0 [])
below_alone numbers [] h = tt
below_alone numbers (xs ∷ xss) h = h.0
