-- Numbers in lists, each in one list at most, and once.
use Rattle.std.proofs.Common.{◌≡◌, ◌∙◌, ◌∷◌, ◌++◌, ◌<◌, [], ap, arith, Bool, cond, false, get_or, length, List, None, refl, Some, subst, suc, sym, true, zero, ℕ}
use Rattle.std.proofs.lemmas.Bool.{eq-eqb, eqb-false, eqb-true}
use Rattle.std.proofs.lemmas.List.Folds.{list_any-append}
use Rattle.std.proofs.lemmas.Map.Keys.{IsDistinct-head, IsDistinct-tail}
use Rattle.std.specs.List.{AllByRecursion, concat, IsDistinct}
use Rattle.std.specs.Option.{unwrap_or}
use Rattle.std.specs.Prelude.{◌&&◌, ◌==◌, ◌||◌, filter, find, IfSome, nat_eq, Option}
use Rattle.q_chains.specs.Lists.{behind, first_of, is_in, list_with, stands}
use Rattle.q_chains.specs.Onward.{after, from_on}

-- no number stands twice
abbrev pub AreOnce : List ℕ → Type 0
AreOnce [] = Unit {0}
AreOnce (x ∷ xs) = (is_in x xs ≡ false) × AreOnce xs

other_step : (a b : ℕ) (t : Bool) → (a == b) ≡ t → (a ≡ b → ⊥) → (a == b) ≡ false
other_step a b true e h = absurd (h (eqb-true a b e))
other_step a b false e h = e

pub other_test : (a b : ℕ) → (a ≡ b → ⊥) → (a == b) ≡ false
other_test a b h = other_step a b (a == b) refl h

pub own_test : (a : ℕ) → (a == a) ≡ true
own_test a = eq-eqb a a refl

flipped_step : (a b : ℕ) (t u : Bool) → (a == b) ≡ t → (b == a) ≡ u → t ≡ u
flipped_step a b true true e f = refl
flipped_step a b false false e f = refl
flipped_step a b true false e f = absurd (eqb-false b a f (sym (eqb-true a b e)))
flipped_step a b false true e f = absurd (eqb-false a b e (sym (eqb-true b a f)))

pub flipped : (a b : ℕ) → (a == b) ≡ (b == a)
flipped a b = flipped_step a b (a == b) (b == a) refl refl

pub or_parts : (a b : Bool) → (a || b) ≡ false → (a ≡ false) × (b ≡ false)
or_parts true b h = cc
or_parts false b h = (refl, h)

pub or_right : (a b : Bool) → b ≡ true → (a || b) ≡ true
or_right true b h = refl
or_right false b h = h

pub or_true : (a : Bool) → (a || true) ≡ true
or_true true = refl
or_true false = refl

pub and_true : (a : Bool) → (a && true) ≡ a
and_true true = refl
and_true false = refl

pub and_false : (a : Bool) → (a && false) ≡ false
and_false true = refl
and_false false = refl

none_is : (n : ℕ) (xs : List ℕ) → AllByRecursion (λ y. nat_eq n y ≡ false) xs → is_in n xs ≡ false
none_is n [] h = refl
none_is n (x ∷ xs) h = ap (λ t. t || is_in n xs) h.0 ∙ none_is n xs h.1

pub once_from : (xs : List ℕ) → IsDistinct nat_eq xs → AreOnce xs
once_from [] h = tt
once_from (x ∷ xs) h = (none_is x xs (IsDistinct-head nat_eq x xs h), once_from xs (IsDistinct-tail nat_eq x xs h))

pub once_front : (xs ys : List ℕ) → AreOnce (xs ++ ys) → AreOnce xs
once_front [] ys h = tt
once_front (x ∷ xs) ys h =
    ((or_parts (is_in x xs) (is_in x ys) (sym (list_any-append (nat_eq x) xs ys) ∙ h.0)).0, once_front xs ys h.1)

pub once_back : (xs ys : List ℕ) → AreOnce (xs ++ ys) → AreOnce ys
once_back [] ys h = h
once_back (x ∷ xs) ys h = once_back xs ys h.1

apart_step : (n x : ℕ) (xs ys : List ℕ) (t : Bool) → nat_eq n x ≡ t → is_in x (xs ++ ys) ≡ false → is_in n ys ≡ true → is_in n xs ≡ false → (t || is_in n xs) ≡ false
apart_step n x xs ys true e none there rest =
    let both = or_parts (is_in x xs) (is_in x ys) (sym (list_any-append (nat_eq x) xs ys) ∙ none) in
    let here : is_in x ys ≡ true = ap (λ m. is_in m ys) (sym (eqb-true n x e)) ∙ there in
    let gone : is_in x ys ≡ false = both.1 in
    cc
apart_step n x xs ys false e none there rest = rest

-- a number in the second isn't in the first
pub once_apart : (n : ℕ) (xs ys : List ℕ) → AreOnce (xs ++ ys) → is_in n ys ≡ true → is_in n xs ≡ false
once_apart n [] ys h there = refl
once_apart n (x ∷ xs) ys h there = apart_step n x xs ys (nat_eq n x) refl h.0 there (once_apart n xs ys h.1 there)

pub in_all : (n b : ℕ) (xss : List (List ℕ)) → is_in n (get_or xss b []) ≡ true → is_in n (concat xss) ≡ true
in_all n b [] h = cc
in_all n zero (xs ∷ xss) h = list_any-append (nat_eq n) xs (concat xss) ∙ ap (λ t. t || is_in n (concat xss)) h
in_all n (suc b) (xs ∷ xss) h = list_any-append (nat_eq n) xs (concat xss) ∙ or_right (is_in n xs) (is_in n (concat xss)) (in_all n b xss h)

pub stands_in : (n b : ℕ) (xss : List (List ℕ)) → is_in n (get_or xss b []) ≡ true → stands n xss ≡ true
stands_in n b [] h = cc
stands_in n zero (xs ∷ xss) h = ap (λ t. t || stands n xss) h
stands_in n (suc b) (xs ∷ xss) h = or_right (is_in n xs) (stands n xss) (stands_in n b xss h)

-- a number in no list
pub stands_not : (n : ℕ) (xss : List (List ℕ)) → ((b : ℕ) → b < length xss → is_in n (get_or xss b []) ≡ false) → stands n xss ≡ false
stands_not n [] h = refl
stands_not n (xs ∷ xss) h =
    ap (λ t. t || stands n xss) (h zero (omega arith)) ∙ stands_not n xss (λ b k. h (suc b) (omega (arith, k)))

-- the list of a number
pub list_is : (n b : ℕ) (xss : List (List ℕ)) → AreOnce (concat xss) → is_in n (get_or xss b []) ≡ true → list_with n xss ≡ get_or xss b []
list_is n b [] once h = refl
list_is n zero (xs ∷ xss) once h = ap (λ t. unwrap_or (cond t (Some xs) (find (is_in n) xss)) []) h
list_is n (suc b) (xs ∷ xss) once h =
    ap (λ t. unwrap_or (cond t (Some xs) (find (is_in n) xss)) []) (once_apart n xs (concat xss) once (in_all n b xss h))
    ∙ list_is n b xss (once_back xs (concat xss) once) h

with_step : (m n : ℕ) (xs : List ℕ) (xss : List (List ℕ)) (t : Bool) → is_in n xs ≡ t → is_in m (unwrap_or (cond t (Some xs) (find (is_in n) xss)) []) ≡ true →
    (is_in m (list_with n xss) ≡ true → is_in m (concat xss) ≡ true) → (is_in m xs || is_in m (concat xss)) ≡ true
with_step m n xs xss true e h rest = ap (λ t. t || is_in m (concat xss)) h
with_step m n xs xss false e h rest = or_right (is_in m xs) (is_in m (concat xss)) (rest h)

in_all_with : (m n : ℕ) (xss : List (List ℕ)) → is_in m (list_with n xss) ≡ true → is_in m (concat xss) ≡ true
in_all_with m n [] h = cc
in_all_with m n (xs ∷ xss) h = list_any-append (nat_eq m) xs (concat xss) ∙ with_step m n xs xss (is_in n xs) refl h (in_all_with m n xss)

stands_step : (m n : ℕ) (xs : List ℕ) (xss : List (List ℕ)) (t : Bool) → is_in m (unwrap_or (cond t (Some xs) (find (is_in n) xss)) []) ≡ true →
    (is_in m (list_with n xss) ≡ true → stands m xss ≡ true) → (is_in m xs || stands m xss) ≡ true
stands_step m n xs xss true h rest = ap (λ t. t || stands m xss) h
stands_step m n xs xss false h rest = or_right (is_in m xs) (stands m xss) (rest h)

-- what stands in the list of another stands
pub stands_with : (m n : ℕ) (xss : List (List ℕ)) → is_in m (list_with n xss) ≡ true → stands m xss ≡ true
stands_with m n [] h = cc
stands_with m n (xs ∷ xss) h = stands_step m n xs xss (is_in n xs) h (stands_with m n xss)

same_step : (m n : ℕ) (xs : List ℕ) (xss : List (List ℕ)) (t : Bool) → AreOnce (xs ++ concat xss) → is_in m (unwrap_or (cond t (Some xs) (find (is_in n) xss)) []) ≡ true →
    (is_in m (list_with n xss) ≡ true → list_with m xss ≡ list_with n xss) → unwrap_or (cond (is_in m xs) (Some xs) (find (is_in m) xss)) [] ≡ unwrap_or (cond t (Some xs) (find (is_in n) xss)) []
same_step m n xs xss true once h rest = ap (λ t. unwrap_or (cond t (Some xs) (find (is_in m) xss)) []) h
same_step m n xs xss false once h rest =
    ap (λ t. unwrap_or (cond t (Some xs) (find (is_in m) xss)) []) (once_apart m xs (concat xss) once (in_all_with m n xss h)) ∙ rest h

-- two numbers of one list
pub list_same : (m n : ℕ) (xss : List (List ℕ)) → AreOnce (concat xss) → is_in m (list_with n xss) ≡ true → list_with m xss ≡ list_with n xss
list_same m n [] once h = refl
list_same m n (xs ∷ xss) once h = same_step m n xs xss (is_in n xs) once h (list_same m n xss (once_back xs (concat xss) once))

once_step : (n : ℕ) (xs : List ℕ) (xss : List (List ℕ)) (t : Bool) → AreOnce xs → AreOnce (list_with n xss) → AreOnce (unwrap_or (cond t (Some xs) (find (is_in n) xss)) [])
once_step n xs xss true h rest = h
once_step n xs xss false h rest = rest

pub once_with : (n : ℕ) (xss : List (List ℕ)) → AreOnce (concat xss) → AreOnce (list_with n xss)
once_with n [] h = tt
once_with n (xs ∷ xss) h = once_step n xs xss (is_in n xs) (once_front xs (concat xss) h) (once_with n xss (once_back xs (concat xss) h))

pub once_at : (b : ℕ) (xss : List (List ℕ)) → AreOnce (concat xss) → AreOnce (get_or xss b [])
once_at b [] h = tt
once_at zero (xs ∷ xss) h = once_front xs (concat xss) h
once_at (suc b) (xs ∷ xss) h = once_at b xss (once_back xs (concat xss) h)

-- What stands behind a number.
behind_step : (n : ℕ) (xs : List ℕ) (t : Bool) → behind n xs ≡ first_of (after n xs) → cond t (first_of xs) (behind n xs) ≡ first_of (cond t xs (after n xs))
behind_step n xs true h = refl
behind_step n xs false h = h

pub behind_is : (n : ℕ) (xs : List ℕ) → behind n xs ≡ first_of (after n xs)
behind_is n [] = refl
behind_is n (x ∷ xs) = behind_step n xs (x == n) (behind_is n xs)

in_after_step : (m n x : ℕ) (xs : List ℕ) (t : Bool) → is_in m (cond t xs (after n xs)) ≡ true → (is_in m (after n xs) ≡ true → is_in m xs ≡ true) → is_in m xs ≡ true
in_after_step m n x xs true h rest = h
in_after_step m n x xs false h rest = rest h

pub in_after : (m n : ℕ) (xs : List ℕ) → is_in m (after n xs) ≡ true → is_in m xs ≡ true
in_after m n [] h = h
in_after m n (x ∷ xs) h = or_right (nat_eq m x) (is_in m xs) (in_after_step m n x xs (x == n) h (in_after m n xs))

-- a number that another list has isn't this one
not_in : (m x : ℕ) (xs : List ℕ) → is_in x xs ≡ false → is_in m xs ≡ true → (x == m) ≡ false
not_in m x xs none h = other_test x m (λ e. let here : is_in x xs ≡ true = ap (λ k. is_in k xs) e ∙ h in let gone : is_in x xs ≡ false = none in cc)

pub head_in : (m : ℕ) (ms : List ℕ) → is_in m (m ∷ ms) ≡ true
head_in m ms = ap (λ t. t || is_in m ms) (own_test m)

after_own : (m : ℕ) (ms : List ℕ) → after m (m ∷ ms) ≡ ms
after_own m ms = ap (λ t. cond t ms (after m ms)) (own_test m)

after_there : (m x : ℕ) (xs : List ℕ) → is_in x xs ≡ false → is_in m xs ≡ true → after m (x ∷ xs) ≡ after m xs
after_there m x xs none h = ap (λ t. cond t xs (after m xs)) (not_in m x xs none h)

next_step : (n m x : ℕ) (xs ms : List ℕ) (t : Bool) → is_in x xs ≡ false → cond t xs (after n xs) ≡ m ∷ ms → (after n xs ≡ m ∷ ms → after m xs ≡ ms) → after m (x ∷ xs) ≡ ms
next_step n m x xs ms true none h rest =
    let there : is_in m xs ≡ true = ap (is_in m) h ∙ head_in m ms in
    after_there m x xs none there ∙ ap (after m) h ∙ after_own m ms
next_step n m x xs ms false none h rest =
    let there : is_in m xs ≡ true = in_after m n xs (ap (is_in m) h ∙ head_in m ms) in
    after_there m x xs none there ∙ rest h

after_next : (n m : ℕ) (xs ms : List ℕ) → AreOnce xs → after n xs ≡ m ∷ ms → after m xs ≡ ms
after_next n m [] ms once h = cc
after_next n m (x ∷ xs) ms once h = next_step n m x xs ms (x == n) once.0 h (after_next n m xs ms once.1)

from_step : (n : ℕ) (xss : List (List ℕ)) (ms : List ℕ) → AreOnce (concat xss) → after n (list_with n xss) ≡ ms → from_on (first_of ms) xss ≡ ms
from_step n xss [] once h = refl
from_step n xss (m ∷ ms) once h =
    let there : is_in m (list_with n xss) ≡ true = in_after m n (list_with n xss) (ap (is_in m) h ∙ head_in m ms) in
    ap (λ xs. m ∷ after m xs) (list_same m n xss once there) ∙ ap (λ xs. m ∷ xs) (after_next n m (list_with n xss) ms (once_with n xss once) h)

-- from the number right behind this one on
pub from_next : (n : ℕ) (xss : List (List ℕ)) → AreOnce (concat xss) → from_on (behind n (list_with n xss)) xss ≡ after n (list_with n xss)
from_next n xss once = ap (λ o. from_on o xss) (behind_is n (list_with n xss)) ∙ from_step n xss (after n (list_with n xss)) once refl

from_head : (b : ℕ) (xss : List (List ℕ)) (ms : List ℕ) → AreOnce (concat xss) → get_or xss b [] ≡ ms → from_on (first_of ms) xss ≡ ms
from_head b xss [] once h = refl
from_head b xss (m ∷ ms) once h =
    let there : is_in m (get_or xss b []) ≡ true = ap (is_in m) h ∙ head_in m ms in
    ap (λ xs. m ∷ after m xs) (list_is m b xss once there ∙ h) ∙ ap (λ xs. m ∷ xs) (after_own m ms)

-- from the first number of a list on
pub from_first : (b : ℕ) (xss : List (List ℕ)) → AreOnce (concat xss) → from_on (first_of (get_or xss b [])) xss ≡ get_or xss b []
from_first b xss once = from_head b xss (get_or xss b []) once refl

-- What a test finds and keeps.
find_step : (p q : ℕ → Bool) (x : ℕ) (xs : List ℕ) → ((n : ℕ) → p n ≡ true → q n ≡ true) → (t u : Bool) → p x ≡ t → q x ≡ u → find p (filter q xs) ≡ find p xs →
    find p (cond u (x ∷ filter q xs) (filter q xs)) ≡ cond t (Some x) (find p xs)
find_step p q x xs only true true e f h = ap (λ t. cond t (Some x) (find p (filter q xs))) e
find_step p q x xs only false true e f h = ap (λ t. cond t (Some x) (find p (filter q xs))) e ∙ h
find_step p q x xs only false false e f h = h
find_step p q x xs only true false e f h = let kept : q x ≡ true = only x e in cc

pub find_kept : (p q : ℕ → Bool) (xs : List ℕ) → ((n : ℕ) → p n ≡ true → q n ≡ true) → find p (filter q xs) ≡ find p xs
find_kept p q [] only = refl
find_kept p q (x ∷ xs) only = find_step p q x xs only (p x) (q x) refl refl (find_kept p q xs only)

kept_step : (q : ℕ → Bool) (n x : ℕ) (xs : List ℕ) (t u : Bool) → (x == n) ≡ t → q x ≡ u → q n ≡ true → after n (filter q xs) ≡ filter q (after n xs) →
    after n (cond u (x ∷ filter q xs) (filter q xs)) ≡ filter q (cond t xs (after n xs))
kept_step q n x xs true true e f h rest = ap (λ t. cond t (filter q xs) (after n (filter q xs))) e
kept_step q n x xs false true e f h rest = ap (λ t. cond t (filter q xs) (after n (filter q xs))) e ∙ rest
kept_step q n x xs false false e f h rest = rest
kept_step q n x xs true false e f h rest = let kept : q x ≡ true = ap q (eqb-true x n e) ∙ h in cc

pub after_kept : (q : ℕ → Bool) (n : ℕ) (xs : List ℕ) → q n ≡ true → after n (filter q xs) ≡ filter q (after n xs)
after_kept q n [] h = refl
after_kept q n (x ∷ xs) h = kept_step q n x xs (x == n) (q x) refl refl h (after_kept q n xs h)

in_kept_step : (q : ℕ → Bool) (n x : ℕ) (xs : List ℕ) (t u : Bool) → nat_eq n x ≡ t → q x ≡ u → is_in n (filter q xs) ≡ (is_in n xs && q n) →
    is_in n (cond u (x ∷ filter q xs) (filter q xs)) ≡ ((t || is_in n xs) && q n)
in_kept_step q n x xs true true e f rest = ap (λ t. t || is_in n (filter q xs)) e ∙ sym (ap q (eqb-true n x e) ∙ f)
in_kept_step q n x xs false true e f rest = ap (λ t. t || is_in n (filter q xs)) e ∙ rest
in_kept_step q n x xs false false e f rest = rest
in_kept_step q n x xs true false e f rest = rest ∙ ap (λ t. is_in n xs && t) (ap q (eqb-true n x e) ∙ f) ∙ and_false (is_in n xs) ∙ sym (ap q (eqb-true n x e) ∙ f)

pub in_kept : (q : ℕ → Bool) (n : ℕ) (xs : List ℕ) → is_in n (filter q xs) ≡ (is_in n xs && q n)
in_kept q n [] = refl
in_kept q n (x ∷ xs) = in_kept_step q n x xs (nat_eq n x) (q x) refl refl (in_kept q n xs)

alike_step : (p q : ℕ → Bool) (x : ℕ) (ys zs : List ℕ) (t u : Bool) → t ≡ u → ys ≡ zs → cond t (x ∷ ys) ys ≡ cond u (x ∷ zs) zs
alike_step p q x ys zs t u e h = ap (λ v. cond v (x ∷ ys) ys) e ∙ ap (λ l. cond u (x ∷ l) l) h

pub kept_alike : (p q : ℕ → Bool) (xs : List ℕ) → ((n : ℕ) → is_in n xs ≡ true → p n ≡ q n) → filter p xs ≡ filter q xs
kept_alike p q [] h = refl
kept_alike p q (x ∷ xs) h = alike_step p q x (filter p xs) (filter q xs) (p x) (q x) (h x (head_in x xs)) (kept_alike p q xs (λ n k. h n (or_right (nat_eq n x) (is_in n xs) k)))

first_stands_step : (b : ℕ) (xss : List (List ℕ)) (ms : List ℕ) → get_or xss b [] ≡ ms → IfSome (first_of ms) (λ n. stands n xss ≡ true)
first_stands_step b xss [] h = tt
first_stands_step b xss (m ∷ ms) h = stands_in m b xss (ap (is_in m) h ∙ head_in m ms)

-- the first number of a list stands
pub first_stands : (b : ℕ) (xss : List (List ℕ)) → IfSome (first_of (get_or xss b [])) (λ n. stands n xss ≡ true)
first_stands b xss = first_stands_step b xss (get_or xss b []) refl

next_stands_step : (n : ℕ) (xss : List (List ℕ)) (ms : List ℕ) → after n (list_with n xss) ≡ ms → IfSome (first_of ms) (λ n. stands n xss ≡ true)
next_stands_step n xss [] h = tt
next_stands_step n xss (m ∷ ms) h = stands_with m n xss (in_after m n (list_with n xss) (ap (is_in m) h ∙ head_in m ms))

-- so does the number right behind another
pub next_stands : (n : ℕ) (xss : List (List ℕ)) → IfSome (behind n (list_with n xss)) (λ n. stands n xss ≡ true)
next_stands n xss = subst (λ (o : Option ℕ). IfSome o (λ n. stands n xss ≡ true)) (sym (behind_is n (list_with n xss))) (next_stands_step n xss (after n (list_with n xss)) refl)

swap_step : (p q : ℕ → Bool) (x : ℕ) (xs : List ℕ) (t u : Bool) → p x ≡ t → q x ≡ u → filter p (filter q xs) ≡ filter q (filter p xs) →
    filter p (cond u (x ∷ filter q xs) (filter q xs)) ≡ filter q (cond t (x ∷ filter p xs) (filter p xs))
swap_step p q x xs true true e f h =
    ap (λ t. cond t (x ∷ filter p (filter q xs)) (filter p (filter q xs))) e ∙ ap (λ ys. x ∷ ys) h ∙ sym (ap (λ t. cond t (x ∷ filter q (filter p xs)) (filter q (filter p xs))) f)
swap_step p q x xs true false e f h = h ∙ sym (ap (λ t. cond t (x ∷ filter q (filter p xs)) (filter q (filter p xs))) f)
swap_step p q x xs false true e f h = ap (λ t. cond t (x ∷ filter p (filter q xs)) (filter p (filter q xs))) e ∙ h
swap_step p q x xs false false e f h = h

pub kept_swapped : (p q : ℕ → Bool) (xs : List ℕ) → filter p (filter q xs) ≡ filter q (filter p xs)
kept_swapped p q [] = refl
kept_swapped p q (x ∷ xs) = swap_step p q x xs (p x) (q x) refl refl (kept_swapped p q xs)

-- What stands in the second list doesn't in the first, nor the other way round.
pub not_first : (n : ℕ) (xss : List (List ℕ)) → AreOnce (concat xss) → is_in n (get_or xss 1 []) ≡ true → is_in n (get_or xss 0 []) ≡ false
not_first n [] once h = refl
not_first n (xs ∷ xss) once h = once_apart n xs (concat xss) once (in_all n 0 xss h)

not_second_step : (n : ℕ) (xss : List (List ℕ)) (t : Bool) → is_in n (get_or xss 1 []) ≡ t → AreOnce (concat xss) → is_in n (get_or xss 0 []) ≡ true → t ≡ false
not_second_step n xss true e once h = let gone : is_in n (get_or xss 0 []) ≡ false = not_first n xss once e in cc
not_second_step n xss false e once h = refl

pub not_second : (n : ℕ) (xss : List (List ℕ)) → AreOnce (concat xss) → is_in n (get_or xss 0 []) ≡ true → is_in n (get_or xss 1 []) ≡ false
not_second n xss once h = not_second_step n xss (is_in n (get_or xss 1 [])) refl once h

pub first_in : (n : ℕ) (xs : List ℕ) → first_of xs ≡ Some n → is_in n xs ≡ true
first_in n [] h = cc
first_in n (x ∷ xs) h = let same : x ≡ n = cc in ap (λ t. t || is_in n xs) (eq-eqb n x (sym same))

pub first_none : (xs : List ℕ) → first_of xs ≡ None → length xs ≡ 0
first_none [] h = refl
first_none (x ∷ xs) h = cc

-- a number that stands in a list isn't one that doesn't
pub other_there : (m n : ℕ) (ns : List ℕ) → is_in n ns ≡ false → is_in m ns ≡ true → m ≡ n → ⊥
other_there m n ns none h e =
    let here : is_in n ns ≡ true = ap (λ k. is_in k ns) (sym e) ∙ h in
    let gone : is_in n ns ≡ false = none in
    cc
