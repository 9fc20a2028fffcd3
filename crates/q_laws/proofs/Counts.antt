-- How often a position stands in a list, and how often it is in memory.
use Rattle.std.proofs.Common.{◌≡◌, ℕ, zero, suc, ◌+◌, ◌≤◌, Bool, true, false, not, List, [], ◌∷◌, ◌++◌, inl, inr, refl, sym, ap, ◌∙◌, subst, arith, if◌then◌else◌, eq-eqb, eqb-true, le_trans}
use Rattle.std.proofs.lemmas.Bool.{and_from, and_parts, not-true, not_from_false}
use Rattle.std.specs.List.{list_all, list_any}
use Rattle.std.specs.Prelude.{◌==◌}
use Rattle.q_laws.proofs.Members.{IsIn, all_at, all_from, none_at, none_from}
use Rattle.q_laws.specs.Consistency.{are_once}

-- how often the number stands in the list
abbrev pub times : ℕ → List ℕ → ℕ
times p [] = 0
times p (n ∷ ns) = (if n == p then 1 else 0) + times p ns

pub times_append : (p : ℕ) (xs ys : List ℕ) → times p (xs ++ ys) ≡ times p xs + times p ys
times_append p [] ys = omega arith
times_append p (x ∷ xs) ys = let rest = times_append p xs ys in omega (arith, rest)

counted : (p n : ℕ) (rest : ℕ) (b : Bool) → b ≡ true → 1 ≤ (if b then 1 else 0) + rest
counted p n rest true e = omega arith
counted p n rest false e = absurd cc

pub in_times : (p : ℕ) (ns : List ℕ) → IsIn p ns → 1 ≤ times p ns
in_times p [] h = absurd h
in_times p (n ∷ ns) (inl e) = counted p n (times p ns) (n == p) (eq-eqb n p e)
in_times p (n ∷ ns) (inr h) = let rest : 1 ≤ times p ns = in_times p ns h in omega (arith, rest)

stands_first : (p n : ℕ) (ns : List ℕ) (b : Bool) → (n == p) ≡ b → 1 ≤ (if b then 1 else 0) + times p ns → (1 ≤ times p ns → IsIn p ns) → IsIn p (n ∷ ns)
stands_first p n ns true e h rest = inl (eqb-true n p e)
stands_first p n ns false e h rest = inr (rest (omega (arith, h)))

pub times_in : (p : ℕ) (ns : List ℕ) → 1 ≤ times p ns → IsIn p ns
times_in p [] h = absurd (omega (arith, h))
times_in p (n ∷ ns) h = stands_first p n ns (n == p) refl h (times_in p ns)

-- what isn't there stands there no time
pub times_none : (p : ℕ) (ns : List ℕ) → (IsIn p ns → ⊥) → times p ns ≡ 0
times_none p ns h = which (times p ns) refl
  where
    which : (k : ℕ) → times p ns ≡ k → times p ns ≡ 0
    which zero e = e
    which (suc k) e = absurd (h (times_in p ns (omega (arith, e))))

once_here : (p n : ℕ) (ns : List ℕ) (b : Bool) → (n == p) ≡ b → (b ≡ true → times p ns ≡ 0) → times p ns ≤ 1 → (if b then 1 else 0) + times p ns ≤ 1
once_here p n ns true e none rest = let k = none refl in omega (arith, k)
once_here p n ns false e none rest = omega (arith, rest)

pub once_times : (ns : List ℕ) → are_once ns ≡ true → (p : ℕ) → times p ns ≤ 1
once_times [] h p = omega arith
once_times (n ∷ ns) h p =
    let two = and_parts (not (list_any (λ m. m == n) ns)) (are_once ns) h in
    once_here p n ns (n == p) refl (λ e. times_none p ns (λ k. apart two.0 k e)) (once_times ns two.1 p)
  where
    apart : not (list_any (λ m. m == n) ns) ≡ true → IsIn p ns → (n == p) ≡ true → ⊥
    apart none k e =
        let bad : true ≡ false = sym (eq-eqb p n (sym (eqb-true n p e))) ∙ none_at (λ m. m == n) p ns (not-true (list_any (λ m. m == n) ns) none) k in
        cc

pub times_once : (ns : List ℕ) → ((p : ℕ) → times p ns ≤ 1) → are_once ns ≡ true
times_once [] h = refl
times_once (n ∷ ns) h =
    and_from (not (list_any (λ m. m == n) ns)) (are_once ns)
    (not_from_false (list_any (λ m. m == n) ns) (none_from (λ m. m == n) ns (λ x k. other x k (x == n) refl)))
    (times_once ns (λ p. let k : (if n == p then 1 else 0) + times p ns ≤ 1 = h p in omega (arith, k)))
  where
    other : (x : ℕ) → IsIn x ns → (b : Bool) → (x == n) ≡ b → (x == n) ≡ false
    other x k false e = e
    other x k true e =
        let same : x ≡ n = eqb-true x n e in
        let there : 1 ≤ times n ns = in_times n ns (subst (λ y. IsIn y ns) same k) in
        let all : (if n == n then 1 else 0) + times n ns ≤ 1 = h n in
        let one : ◌≡◌ {A = ℕ} (if n == n then 1 else 0) 1 = ap (λ b. if b then 1 else 0) (eq-eqb n n refl) in
        absurd (omega (arith, there, all, one))

-- numbers that stand nowhere more often have what the others have
pub once_fewer : (xs ys : List ℕ) → ((p : ℕ) → times p ys ≤ times p xs) → are_once xs ≡ true → are_once ys ≡ true
once_fewer xs ys h k = times_once ys (λ p. le_trans (h p) (once_times xs k p))

pub in_fewer : (xs ys : List ℕ) → ((p : ℕ) → times p ys ≤ times p xs) → (p : ℕ) → IsIn p ys → IsIn p xs
in_fewer xs ys h p k = times_in p xs (le_trans (in_times p ys k) (h p))

pub all_fewer : (q : ℕ → Bool) (xs ys : List ℕ) → ((p : ℕ) → times p ys ≤ times p xs) → list_all q xs ≡ true → list_all q ys ≡ true
all_fewer q xs ys h k = all_from q ys (λ p there. all_at q p xs k (in_fewer xs ys h p there))
