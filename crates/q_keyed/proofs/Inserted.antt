-- A number that is added before another.
use Rattle.std.proofs.Common.{◌≡◌, ◌∙◌, ◌∷◌, ◌++◌, ◌+◌, [], ap, arith, Bool, cond, false, get_or, length, List, map, refl, suc, true, zero, ℕ}
use Rattle.std.proofs.lemmas.Bool.{eqb-true}
use Rattle.std.specs.Prelude.{◌==◌, ◌||◌, nat_eq}
use Rattle.q_chains.specs.Lists.{inserted, is_in, stands}
use Rattle.q_chains.proofs.Numbers.{AreOnce, flipped, or_parts, or_right, other_test, own_test}

-- one step of the list
abbrev come : ℕ → ℕ → Bool → List ℕ → List ℕ
come n x t xs = cond t (n ∷ x ∷ []) (x ∷ []) ++ xs

-- the number before which it would come isn't there
pub inserted_lacking : (n at : ℕ) (xs : List ℕ) → is_in at xs ≡ false → inserted n at xs ≡ xs
inserted_lacking n at [] h = refl
inserted_lacking n at (x ∷ xs) h =
    let parts = or_parts (nat_eq at x) (is_in at xs) h in
    ap (λ t. come n x t (inserted n at xs)) (flipped x at ∙ parts.0) ∙ ap (λ ys. x ∷ ys) (inserted_lacking n at xs parts.1)

-- it comes at the head
pub inserted_head : (n at : ℕ) (xs : List ℕ) → is_in at xs ≡ false → inserted n at (at ∷ xs) ≡ n ∷ at ∷ xs
inserted_head n at xs h =
    ap (λ t. come n at t (inserted n at xs)) (own_test at) ∙ ap (λ ys. n ∷ at ∷ ys) (inserted_lacking n at xs h)

-- or behind it
pub inserted_tail : (n at x : ℕ) (xs : List ℕ) → (x == at) ≡ false → inserted n at (x ∷ xs) ≡ x ∷ inserted n at xs
inserted_tail n at x xs h = ap (λ t. come n x t (inserted n at xs)) h

pub at_inserted : (b n at : ℕ) (xss : List (List ℕ)) → get_or (map (inserted n at) xss) b [] ≡ inserted n at (get_or xss b [])
at_inserted b n at [] = refl
at_inserted zero n at (xs ∷ xss) = refl
at_inserted (suc b) n at (xs ∷ xss) = at_inserted b n at xss

in_step : (m n x : ℕ) (t : Bool) (ys : List ℕ) → (m ≡ n → ⊥) → is_in m (come n x t ys) ≡ (nat_eq m x || is_in m ys)
in_step m n x true ys h = ap (λ t. t || (nat_eq m x || is_in m ys)) (other_test m n h)
in_step m n x false ys h = refl

-- another number than the one that comes
pub in_inserted : (m n at : ℕ) (xs : List ℕ) → (m ≡ n → ⊥) → is_in m (inserted n at xs) ≡ is_in m xs
in_inserted m n at [] h = refl
in_inserted m n at (x ∷ xs) h =
    in_step m n x (x == at) (inserted n at xs) h ∙ ap (λ t. nat_eq m x || t) (in_inserted m n at xs h)

own_step : (n at x : ℕ) (xs : List ℕ) (t : Bool) → nat_eq at x ≡ t → (t || is_in at xs) ≡ true → (is_in at xs ≡ true → is_in n (inserted n at xs) ≡ true) →
    is_in n (inserted n at (x ∷ xs)) ≡ true
own_step n at x xs true e h rest =
    ap (λ t. is_in n (come n x t (inserted n at xs))) (flipped x at ∙ e) ∙ ap (λ t. t || is_in n (x ∷ inserted n at xs)) (own_test n)
own_step n at x xs false e h rest =
    ap (is_in n) (inserted_tail n at x xs (flipped x at ∙ e)) ∙ or_right (nat_eq n x) (is_in n (inserted n at xs)) (rest h)

pub in_own : (n at : ℕ) (xs : List ℕ) → is_in at xs ≡ true → is_in n (inserted n at xs) ≡ true
in_own n at [] h = cc
in_own n at (x ∷ xs) h = own_step n at x xs (nat_eq at x) refl h (in_own n at xs)

more_step : (n at x : ℕ) (xs : List ℕ) (t : Bool) → nat_eq at x ≡ t → is_in x xs ≡ false → (t || is_in at xs) ≡ true → (is_in at xs ≡ true → length (inserted n at xs) ≡ length xs + 1) →
    length (inserted n at (x ∷ xs)) ≡ length (x ∷ xs) + 1
more_step n at x xs true e none h rest =
    let same : at ≡ x = eqb-true at x e in
    let stays : inserted n at xs ≡ xs = inserted_lacking n at xs (ap (λ m. is_in m xs) same ∙ none) in
    let len : length (inserted n at (x ∷ xs)) ≡ suc (suc (length xs)) =
    ap (λ t. length (come n x t (inserted n at xs))) (flipped x at ∙ e) ∙ ap (λ (ys : List ℕ). suc (suc (length ys))) stays in
    omega (arith, len)
more_step n at x xs false e none h rest =
    let len : length (inserted n at (x ∷ xs)) ≡ suc (length (inserted n at xs)) = ap length (inserted_tail n at x xs (flipped x at ∙ e)) in
    let more = rest h in
    omega (arith, len, more)

-- one comes
pub length_inserted : (n at : ℕ) (xs : List ℕ) → AreOnce xs → is_in at xs ≡ true → length (inserted n at xs) ≡ length xs + 1
length_inserted n at [] once h = cc
length_inserted n at (x ∷ xs) once h = more_step n at x xs (nat_eq at x) refl once.0 h (length_inserted n at xs once.1)

-- where it stands in no list, none has it but that one
pub stands_inserted : (m n at : ℕ) (xss : List (List ℕ)) → (m ≡ n → ⊥) → stands m (map (inserted n at) xss) ≡ stands m xss
stands_inserted m n at [] h = refl
stands_inserted m n at (xs ∷ xss) h = ap (λ t. t || stands m (map (inserted n at) xss)) (in_inserted m n at xs h) ∙ ap (λ t. is_in m xs || t) (stands_inserted m n at xss h)
