-- What the arrays say of the ends of a list, and of the neighbours of a number in it.
use Rattle.std.proofs.Common.{◌≡◌, ◌∙◌, ◌≢◌, ◌∷◌, ◌++◌, ◌+◌, ◌-◌, ◌<◌, ◌≤◌, ◌||◌, [], ap, arith, Bool, cond, false, get_or, inl, inr, length, List, None, refl, Some, subst, suc, sym, true, zero, ℕ}
use Rattle.std.proofs.lemmas.Bool.{eq-eqb}
use Rattle.std.specs.List.{AllByRecursion, find}
use Rattle.std.specs.Option.{unwrap_or}
use Rattle.std.specs.Prelude.{nat_eq, not, slice_get}
use Rattle.q_chains.specs.Laid.{AreApart, IsLaid, IsPath, number_at, strung}
use Rattle.q_chains.specs.Lists.{AllBelow, ahead_from, ahead_of, behind, first_of, is_in, last_of, list_with, stands}
use Rattle.q_chains.proofs.Borders.{apart_back, apart_front, stands_strung}
use Rattle.q_chains.proofs.Numbers.{other_test}
use Rattle.q_chains.proofs.Places.{among_from, IsAmong, lacks_from, lacks_other}
use Rattle.q_chains.proofs.Walks.{below_test, past_test, path_back}

pub number_there : (numbers p : ℕ) → p < numbers → number_at numbers p ≡ Some p
number_there numbers p h = ap (λ t. cond t (Some p) None) (below_test p numbers h)

pub border_there : (numbers p : ℕ) → numbers ≤ p → number_at numbers p ≡ None
border_there numbers p h = ap (λ t. cond t (Some p) None) (past_test p numbers h)

-- a list between two borders
pub record IsBetween (nx bf : List ℕ) (numbers from to : ℕ) (xs : List ℕ) : Type 0 where
  pub rest : List ℕ
  pub path : IsPath nx bf from (xs ++ to ∷ rest)
  pub below : AllByRecursion (λ x. x < numbers) xs
  pub apart : AreApart xs
  pub from_border : numbers ≤ from
  pub to_border : numbers ≤ to

between_here : (nx bf : List ℕ) (numbers border : ℕ) (xs : List ℕ) (xss : List (List ℕ)) → IsPath nx bf border (strung border (xs ∷ xss)) → AllBelow numbers (xs ∷ xss) → AreApart (strung border (xs ∷ xss)) → numbers ≤ border → IsBetween nx bf numbers border (border + 1) xs
between_here nx bf numbers border xs xss h below apart k = record {
  rest = strung (border + 1) xss;
  path = h;
  below = below.0;
  apart = apart_front xs ((border + 1) ∷ strung (border + 1) xss) apart;
  from_border = k;
  to_border = omega (arith, k);
}

-- each list lies so
pub between : (nx bf : List ℕ) (numbers border list : ℕ) (xss : List (List ℕ)) → IsPath nx bf border (strung border xss) → AllBelow numbers xss → AreApart (strung border xss) → numbers ≤ border → list < length xss → IsBetween nx bf numbers (border + list) (border + list + 1) (get_or xss list [])
between nx bf numbers border list [] h below apart k l = absurd (omega arith)
between nx bf numbers border zero (xs ∷ xss) h below apart k l =
    let same : border ≡ border + zero = omega arith in
    subst (λ (p : ℕ). IsBetween nx bf numbers p (p + 1) xs) same (between_here nx bf numbers border xs xss h below apart k)
between nx bf numbers border (suc list) (xs ∷ xss) h below apart k l =
    let same : (border + 1) + list ≡ border + suc list = omega arith in
    let rest = strung (border + 1) xss in
    subst (λ (p : ℕ). IsBetween nx bf numbers p (p + 1) (get_or xss list [])) same
    (between nx bf numbers (border + 1) list xss (path_back nx bf border (border + 1) xs rest h) below.1 (apart_back xs ((border + 1) ∷ rest) apart).1 (omega (arith, k)) (omega arith))

-- and so does the one in which a number stands
pub record IsWhere (nx bf : List ℕ) (numbers n : ℕ) (xs : List ℕ) : Type 0 where
  pub from : ℕ
  pub to : ℕ
  pub lies : IsBetween nx bf numbers from to xs
  pub stands : IsAmong n xs

where_step : (nx bf : List ℕ) (numbers n border : ℕ) (xs : List ℕ) (xss : List (List ℕ)) (t : Bool) → is_in n xs ≡ t → (t || stands n xss) ≡ true → IsBetween nx bf numbers border (border + 1) xs → (stands n xss ≡ true → IsWhere nx bf numbers n (list_with n xss)) → IsWhere nx bf numbers n (unwrap_or (cond t (Some xs) (find (is_in n) xss)) [])
where_step nx bf numbers n border xs xss true e h here rest = record { from = border; to = border + 1; lies = here; stands = among_from n xs e }
where_step nx bf numbers n border xs xss false e h here rest = rest h

pub list_where : (nx bf : List ℕ) (numbers n border : ℕ) (xss : List (List ℕ)) → IsPath nx bf border (strung border xss) → AllBelow numbers xss → AreApart (strung border xss) → numbers ≤ border → stands n xss ≡ true → IsWhere nx bf numbers n (list_with n xss)
list_where nx bf numbers n border [] h below apart k i = cc
list_where nx bf numbers n border (xs ∷ xss) h below apart k i =
    let rest = strung (border + 1) xss in
    where_step nx bf numbers n border xs xss (is_in n xs) refl i (between_here nx bf numbers border xs xss h below apart k)
    (λ j. list_where nx bf numbers n (border + 1) xss (path_back nx bf border (border + 1) xs rest h) below.1 (apart_back xs ((border + 1) ∷ rest) apart).1 (omega (arith, k)) j)

-- The first of a list, behind a border or a number.
first_at : (nx bf : List ℕ) (numbers a t : ℕ) (xs ps : List ℕ) → IsPath nx bf a (xs ++ t ∷ ps) → AllByRecursion (λ x. x < numbers) xs → numbers ≤ t → number_at numbers (get_or nx a 0) ≡ first_of xs
first_at nx bf numbers a t [] ps h below k = ap (number_at numbers) h.0 ∙ border_there numbers t k
first_at nx bf numbers a t (x ∷ xs) ps h below k = ap (number_at numbers) h.0 ∙ number_there numbers x below.0

-- the last one, before a border
last_more : (nx bf : List ℕ) (numbers a t x : ℕ) (xs ps : List ℕ) → IsPath nx bf a (x ∷ (xs ++ t ∷ ps)) → AllByRecursion (λ x. x < numbers) (x ∷ xs) → number_at numbers (get_or bf t 0) ≡ last_of (x ∷ xs)
last_more nx bf numbers a t x [] ps h below = ap (number_at numbers) h.2.1 ∙ number_there numbers x below.0
last_more nx bf numbers a t x (y ∷ xs) ps h below =
    let one : (suc (suc (length xs)) - 1) ≡ suc (length xs) = omega arith in
    let two : (suc (length xs) - 1) ≡ length xs = omega arith in
    last_more nx bf numbers x t y xs ps h.2 below.1 ∙ ap (slice_get (y ∷ xs)) two ∙ ap (slice_get (x ∷ y ∷ xs)) (sym one)

last_at : (nx bf : List ℕ) (numbers a t : ℕ) (xs ps : List ℕ) → IsPath nx bf a (xs ++ t ∷ ps) → AllByRecursion (λ x. x < numbers) xs → numbers ≤ a → number_at numbers (get_or bf t 0) ≡ last_of xs
last_at nx bf numbers a t [] ps h below k = ap (number_at numbers) h.1 ∙ border_there numbers a k
last_at nx bf numbers a t (x ∷ xs) ps h below k = last_more nx bf numbers a t x xs ps h below

-- the one behind a number
behind_at : (nx bf : List ℕ) (numbers n a t : ℕ) (xs ps : List ℕ) → IsPath nx bf a (xs ++ t ∷ ps) → AllByRecursion (λ x. x < numbers) xs → AreApart xs → numbers ≤ t → IsAmong n xs → number_at numbers (get_or nx n 0) ≡ behind n xs
behind_at nx bf numbers n a t [] ps h below apart k i = absurd i
behind_at nx bf numbers n a t (x ∷ xs) ps h below apart k (inl e) =
    ap (λ p. number_at numbers (get_or nx p 0)) e ∙ first_at nx bf numbers x t xs ps h.2 below.1 k
    ∙ ap (λ b. cond b (first_of xs) (behind n xs)) (sym (eq-eqb x n (sym e)))
behind_at nx bf numbers n a t (x ∷ xs) ps h below apart k (inr i) =
    behind_at nx bf numbers n x t xs ps h.2 below.1 apart.1 k i
    ∙ ap (λ b. cond b (first_of xs) (behind n xs)) (sym (other_test x n (lacks_other x n xs apart.0 i)))

-- the one before it
ahead_at : (nx bf : List ℕ) (numbers n a t : ℕ) (xs ps : List ℕ) → IsPath nx bf a (xs ++ t ∷ ps) → AllByRecursion (λ x. x < numbers) xs → AreApart xs → IsAmong n xs → number_at numbers (get_or bf n 0) ≡ ahead_from (number_at numbers a) n xs
ahead_at nx bf numbers n a t [] ps h below apart i = absurd i
ahead_at nx bf numbers n a t (x ∷ xs) ps h below apart (inl e) =
    ap (λ p. number_at numbers (get_or bf p 0)) e ∙ ap (number_at numbers) h.1
    ∙ ap (λ b. cond b (number_at numbers a) (ahead_from (Some x) n xs)) (sym (eq-eqb x n (sym e)))
ahead_at nx bf numbers n a t (x ∷ xs) ps h below apart (inr i) =
    ahead_at nx bf numbers n x t xs ps h.2 below.1 apart.1 i ∙ ap (λ o. ahead_from o n xs) (number_there numbers x below.0)
    ∙ ap (λ b. cond b (number_at numbers a) (ahead_from (Some x) n xs)) (sym (other_test x n (lacks_other x n xs apart.0 i)))

module _ (nx bf : List ℕ) (numbers : ℕ) (xss : List (List ℕ)) (h : IsLaid nx bf numbers xss) where
  pub laid_first : (list : ℕ) → list < length xss → number_at numbers (get_or nx (numbers + list) 0) ≡ first_of (get_or xss list [])
  laid_first list k =
      let lies = between nx bf numbers numbers list xss h.path h.below h.apart.1 (omega arith) k in
      first_at nx bf numbers (numbers + list) (numbers + list + 1) (get_or xss list []) lies.rest lies.path lies.below lies.to_border

  pub laid_last : (list : ℕ) → list < length xss → number_at numbers (get_or bf (numbers + list + 1) 0) ≡ last_of (get_or xss list [])
  laid_last list k =
      let lies = between nx bf numbers numbers list xss h.path h.below h.apart.1 (omega arith) k in
      last_at nx bf numbers (numbers + list) (numbers + list + 1) (get_or xss list []) lies.rest lies.path lies.below lies.from_border

  pub laid_behind : (n : ℕ) → stands n xss ≡ true → number_at numbers (get_or nx n 0) ≡ behind n (list_with n xss)
  laid_behind n k =
      let there = list_where nx bf numbers n numbers xss h.path h.below h.apart.1 (omega arith) k in
      let lies = there.lies in
      behind_at nx bf numbers n there.from there.to (list_with n xss) lies.rest lies.path lies.below lies.apart lies.to_border there.stands

  pub laid_ahead : (n : ℕ) → stands n xss ≡ true → number_at numbers (get_or bf n 0) ≡ ahead_of n (list_with n xss)
  laid_ahead n k =
      let there = list_where nx bf numbers n numbers xss h.path h.below h.apart.1 (omega arith) k in
      let lies = there.lies in
      ahead_at nx bf numbers n there.from there.to (list_with n xss) lies.rest lies.path lies.below lies.apart there.stands
      ∙ ap (λ o. ahead_from o n (list_with n xss)) (border_there numbers there.from lies.from_border)

-- What stands in a list leads back to another place.
before_other : (nx bf : List ℕ) (a n : ℕ) (ps : List ℕ) → IsPath nx bf a ps → AreApart (a ∷ ps) → IsAmong n ps → get_or bf n 0 ≢ n
before_other nx bf a n [] h apart i = absurd i
before_other nx bf a n (b ∷ ps) h apart (inl e) = λ k. apart.0.0 (sym h.1 ∙ ap (λ p. get_or bf p 0) (sym e) ∙ k ∙ e)
before_other nx bf a n (b ∷ ps) h apart (inr i) = before_other nx bf b n ps h.2 apart.1 i

module _ (nx bf : List ℕ) (numbers n : ℕ) (xss : List (List ℕ)) (h : IsLaid nx bf numbers xss) (known : n < numbers) where
  stands_step : (t : Bool) → is_in n (strung numbers xss) ≡ t → not (nat_eq (get_or bf n 0) n) ≡ t
  stands_step true e = ap not (other_test (get_or bf n 0) n (before_other nx bf numbers n (strung numbers xss) h.path h.apart (among_from n (strung numbers xss) e)))
  stands_step false e = ap not (eq-eqb (get_or bf n 0) n (h.alone n known (lacks_from n (strung numbers xss) e)).1)

  pub laid_stands : not (nat_eq (get_or bf n 0) n) ≡ stands n xss
  laid_stands = stands_step (is_in n (strung numbers xss)) refl ∙ stands_strung n numbers xss (omega (arith, known))
