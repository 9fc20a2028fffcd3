-- The lists that lie in the array are those that a walk finds.
use Rattle.std.proofs.Common.{◌≡◌, ◌∙◌, ◌∷◌, ◌++◌, ◌+◌, ◌<◌, ◌≤◌, [], ap, arith, Bool, cond, false, get_or, length, List, refl, suc, true, zero, ℕ}
use Rattle.std.proofs.lemmas.Grind.{common_steps}
use Rattle.std.proofs.lemmas.Map.Steps.{length-le_from_distinct_below}
use Rattle.std.proofs.lemmas.Map.Keys.{IsDistinct-cons}
use Rattle.std.specs.List.{AllByRecursion, IsDistinct, list_any}
use Rattle.std.specs.Prelude.{◌||◌, eqb, nat_lt}
use Rattle.q_chains.specs.Lists.{AllBelow}
use Rattle.q_chains.specs.Laid.{AreApart, IsPath, Lacks, lists_from, strung, walked}
use Rattle.q_chains.proofs.Borders.{apart_back, apart_front}
use Rattle.q_chains.proofs.Numbers.{other_test}

pub below_test : (p numbers : ℕ) → p < numbers → nat_lt p numbers ≡ true
below_test p numbers h = grind (arith, common_steps, h)

pub past_test : (p numbers : ℕ) → numbers ≤ p → nat_lt p numbers ≡ false
past_test p numbers h = grind (arith, common_steps, h)

pub walked_is : (nx bf : List ℕ) (numbers steps a t : ℕ) (xs ps : List ℕ) → IsPath nx bf a (xs ++ t ∷ ps) → AllByRecursion (λ x. x < numbers) xs → numbers ≤ t → length xs ≤ steps → walked nx numbers steps (get_or nx a 0) ≡ xs
walked_is nx bf numbers zero a t [] ps h below k few = refl
walked_is nx bf numbers zero a t (x ∷ xs) ps h below k few = absurd (omega arith)
walked_is nx bf numbers (suc steps) a t [] ps h below k few =
    ap (λ p. walked nx numbers (suc steps) p) h.0 ∙ ap (λ b. cond b (t ∷ walked nx numbers steps (get_or nx t 0)) []) (past_test t numbers k)
walked_is nx bf numbers (suc steps) a t (x ∷ xs) ps h below k few =
    ap (λ p. walked nx numbers (suc steps) p) h.0 ∙ ap (λ b. cond b (x ∷ walked nx numbers steps (get_or nx x 0)) []) (below_test x numbers below.0)
    ∙ ap (λ ys. x ∷ ys) (walked_is nx bf numbers steps x t xs ps h.2 below.1 k (omega (arith, few)))

pub path_back : (nx bf : List ℕ) (a t : ℕ) (xs ps : List ℕ) → IsPath nx bf a (xs ++ t ∷ ps) → IsPath nx bf t ps
path_back nx bf a t [] ps h = h.2
path_back nx bf a t (x ∷ xs) ps h = path_back nx bf x t xs ps h.2

distinct_rest : (n : ℕ) (xs : List ℕ) → Lacks n xs → AllByRecursion (λ x. eqb n x ≡ false) xs
distinct_rest n [] h = tt
distinct_rest n (x ∷ xs) h = (other_test n x h.0, distinct_rest n xs h.1)

pub distinct : (xs : List ℕ) → AreApart xs → IsDistinct eqb xs
unfolding IsDistinct
distinct [] h = tt
distinct (x ∷ xs) h = IsDistinct-cons eqb x xs (distinct_rest x xs h.0) (distinct xs h.1)

below_step : (numbers q x : ℕ) (xs : List ℕ) (t : Bool) → eqb q x ≡ t → x < numbers → (t || list_any (eqb q) xs) ≡ true → (list_any (eqb q) xs ≡ true → q < numbers) → q < numbers
below_step numbers q x xs true e h i rest = grind (arith, common_steps, e, h)
below_step numbers q x xs false e h i rest = rest i

each_below : (numbers q : ℕ) (xs : List ℕ) → AllByRecursion (λ x. x < numbers) xs → list_any (eqb q) xs ≡ true → q < numbers
each_below numbers q [] h i = cc
each_below numbers q (x ∷ xs) h i = below_step numbers q x xs (eqb q x) refl h.0 i (each_below numbers q xs h.1)

-- different numbers below a limit are no more than that
few_below : (numbers : ℕ) (xs : List ℕ) → AreApart xs → AllByRecursion (λ x. x < numbers) xs → length xs ≤ numbers
few_below numbers xs apart below = length-le_from_distinct_below xs numbers (distinct xs apart) (λ q i. each_below numbers q xs below i)

pub lists_are : (nx bf : List ℕ) (numbers border : ℕ) (xss : List (List ℕ)) → IsPath nx bf border (strung border xss) → AllBelow numbers xss → AreApart (strung border xss) → numbers ≤ border → lists_from nx numbers border (length xss) ≡ xss
lists_are nx bf numbers border [] h below apart k = refl
lists_are nx bf numbers border (xs ∷ xss) h below apart k =
    let rest = strung (border + 1) xss in
    let next : numbers ≤ border + 1 = omega (arith, k) in
    let few = few_below numbers xs (apart_front xs ((border + 1) ∷ rest) apart) below.0 in
    ap (λ ys. ys ∷ lists_from nx numbers (border + 1) (length xss)) (walked_is nx bf numbers numbers border (border + 1) xs rest h below.0 next few)
    ∙ ap (λ yss. xs ∷ yss) (lists_are nx bf numbers (border + 1) xss (path_back nx bf border (border + 1) xs rest h) below.1 (apart_back xs ((border + 1) ∷ rest) apart).1 next)
