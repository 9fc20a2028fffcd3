-- What is made of lists of numbers as one comes and as one goes.
use Rattle.std.proofs.Common.{◌≡◌, ◌∙◌, ◌∷◌, ◌++◌, ◌+◌, ◌<◌, [], ap, arith, Bool, cond, false, get_or, length, List, map, refl, suc, sym, true, zero, ℕ}
use Rattle.std.proofs.lemmas.Bool.{eq-eqb, eqb-true}
use Rattle.std.specs.Prelude.{◌&&◌, ◌==◌, ◌||◌, nat_eq, not}
use Rattle.q_chains.specs.Lists.{is_in, Lists, pushed, stands, without}
use Rattle.q_chains.proofs.Numbers.{and_false, and_true, AreOnce, head_in, in_kept, or_parts, or_true, other_test, own_test}

-- the lists with the number at the end of this one, and in no other
abbrev pub moved : ℕ → ℕ → Lists → Lists
moved list n s = record s { lists = pushed list n (map (without n) s.lists) }

pub at_pushed_own : (b n : ℕ) (xss : List (List ℕ)) → b < length xss → get_or (pushed b n xss) b [] ≡ get_or xss b [] ++ n ∷ []
at_pushed_own b n [] h = absurd (omega arith)
at_pushed_own zero n (xs ∷ xss) h = refl
at_pushed_own (suc b) n (xs ∷ xss) h = at_pushed_own b n xss (omega (arith, h))

pub at_pushed_other : (b c n : ℕ) (xss : List (List ℕ)) → (b ≡ c → ⊥) → get_or (pushed b n xss) c [] ≡ get_or xss c []
at_pushed_other b c n [] h = refl
at_pushed_other zero zero n (xs ∷ xss) h = absurd (h refl)
at_pushed_other zero (suc c) n (xs ∷ xss) h = refl
at_pushed_other (suc b) zero n (xs ∷ xss) h = refl
at_pushed_other (suc b) (suc c) n (xs ∷ xss) h = at_pushed_other b c n xss (λ e. h (ap suc e))

pub length_pushed : (b n : ℕ) (xss : List (List ℕ)) → length (pushed b n xss) ≡ length xss
length_pushed b n [] = refl
length_pushed zero n (xs ∷ xss) = refl
length_pushed (suc b) n (xs ∷ xss) = ap suc (length_pushed b n xss)

pub in_more : (m n : ℕ) (xs : List ℕ) → (m ≡ n → ⊥) → is_in m (xs ++ n ∷ []) ≡ is_in m xs
in_more m n [] h = ap (λ t. t || false) (other_test m n h)
in_more m n (x ∷ xs) h = ap (λ t. nat_eq m x || t) (in_more m n xs h)

pub in_last : (n : ℕ) (xs : List ℕ) → is_in n (xs ++ n ∷ []) ≡ true
in_last n [] = head_in n []
in_last n (x ∷ xs) = ap (λ t. nat_eq n x || t) (in_last n xs) ∙ or_true (nat_eq n x)

-- another number than the one that comes
pub stands_pushed : (m b n : ℕ) (xss : List (List ℕ)) → (m ≡ n → ⊥) → stands m (pushed b n xss) ≡ stands m xss
stands_pushed m b n [] h = refl
stands_pushed m zero n (xs ∷ xss) h = ap (λ t. t || stands m xss) (in_more m n xs h)
stands_pushed m (suc b) n (xs ∷ xss) h = ap (λ t. is_in m xs || t) (stands_pushed m b n xss h)

pub at_without : (b n : ℕ) (xss : List (List ℕ)) → get_or (map (without n) xss) b [] ≡ without n (get_or xss b [])
at_without b n [] = refl
at_without zero n (xs ∷ xss) = refl
at_without (suc b) n (xs ∷ xss) = at_without b n xss

pub in_without : (m n : ℕ) (xs : List ℕ) → (m ≡ n → ⊥) → is_in m (without n xs) ≡ is_in m xs
in_without m n xs h =
    in_kept (λ x. not (x == n)) m xs ∙ ap (λ t. is_in m xs && not t) (other_test m n h) ∙ and_true (is_in m xs)

pub gone : (n : ℕ) (xs : List ℕ) → is_in n (without n xs) ≡ false
gone n xs = in_kept (λ x. not (x == n)) n xs ∙ ap (λ t. is_in n xs && not t) (own_test n) ∙ and_false (is_in n xs)

pub gone_from_all : (n : ℕ) (xss : List (List ℕ)) → stands n (map (without n) xss) ≡ false
gone_from_all n [] = refl
gone_from_all n (xs ∷ xss) = ap (λ t. t || stands n (map (without n) xss)) (gone n xs) ∙ gone_from_all n xss

lacking_step : (n x : ℕ) (xs : List ℕ) → (x ≡ n → ⊥) → without n xs ≡ xs → without n (x ∷ xs) ≡ x ∷ xs
lacking_step n x xs h rest = ap (λ t. cond (not t) (x ∷ without n xs) (without n xs)) (other_test x n h) ∙ ap (λ ys. x ∷ ys) rest

other_from : (n x : ℕ) → nat_eq n x ≡ false → x ≡ n → ⊥
other_from n x e k = let same : nat_eq n x ≡ true = eq-eqb n x (sym k) in cc

-- a number that isn't there
pub without_lacking : (n : ℕ) (xs : List ℕ) → is_in n xs ≡ false → without n xs ≡ xs
without_lacking n [] h = refl
without_lacking n (x ∷ xs) h =
    let parts = or_parts (nat_eq n x) (is_in n xs) h in
    lacking_step n x xs (other_from n x parts.0) (without_lacking n xs parts.1)

fewer_step : (n x : ℕ) (xs : List ℕ) (t : Bool) → nat_eq n x ≡ t → is_in x xs ≡ false → (t || is_in n xs) ≡ true → (is_in n xs ≡ true → length (without n xs) + 1 ≡ length xs) →
    length (without n (x ∷ xs)) + 1 ≡ length (x ∷ xs)
fewer_step n x xs true e none h rest =
    let same : n ≡ x = eqb-true n x e in
    let gone : without n (x ∷ xs) ≡ without n xs = ap (λ t. cond (not t) (x ∷ without n xs) (without n xs)) (eq-eqb x n (sym same)) in
    let left : without n xs ≡ xs = without_lacking n xs (ap (λ m. is_in m xs) same ∙ none) in
    let len : length (without n (x ∷ xs)) ≡ length xs = ap length (gone ∙ left) in
    omega (arith, len)
fewer_step n x xs false e none h rest =
    let kept : without n (x ∷ xs) ≡ x ∷ without n xs = ap (λ t. cond (not t) (x ∷ without n xs) (without n xs)) (other_test x n (other_from n x e)) in
    let len : length (without n (x ∷ xs)) ≡ length (x ∷ without n xs) = ap length kept in
    let more = rest h in
    omega (arith, len, more)

-- one goes
pub length_without : (n : ℕ) (xs : List ℕ) → AreOnce xs → is_in n xs ≡ true → length (without n xs) + 1 ≡ length xs
length_without n [] once h = cc
length_without n (x ∷ xs) once h = fewer_step n x xs (nat_eq n x) refl once.0 h (length_without n xs once.1)
