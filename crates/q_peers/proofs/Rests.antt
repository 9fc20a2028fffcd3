-- What a walk along some of the rows has before it, and what is left where one leaves.
use Rattle.std.proofs.Common.{◌≡◌, ◌∙◌, ◌∷◌, [], ap, Bool, cond, false, List, None, Option, option_map, refl, Some, subst, sym, true, ℕ}
use Rattle.std.proofs.lemmas.Bool.{eq-eqb}
use Rattle.std.specs.Prelude.{◌==◌, filter, find, if◌then◌else◌, IfSome}
use Rattle.q_model.proofs.EachLaws.{find-passes}
use Rattle.q_model.specs.declared.rows.Row.{Row}
use Rattle.q_peers.specs.Numbered.{AreApart, first_such, has_number, next_such, Numbered, row_at, rows_of}
use Rattle.q_chains.proofs.Numbers.{flipped}
use Rattle.q_peers.proofs.Peers.{row_found}

-- the rows from this number on
abbrev pub from_number : ℕ → List Numbered → List Numbered
from_number n [] = []
from_number n (k ∷ ks) = if k.number == n then k ∷ ks else from_number n ks

-- those of them that pass
abbrev pub rest : (Row → Bool) → Option ℕ → List Numbered → List Row
rest p None ks = []
rest p (Some n) ks = filter p (rows_of (from_number n ks))

-- another number than this one, or none
abbrev Differs : ℕ → Option ℕ → Type 0
Differs n o = IfSome o (λ m. (n == m) ≡ false)

none_split : {A : Type 0} (t : Bool) (x : A) (o : Option A) → cond t (Some x) o ≡ None → (t ≡ false) × (o ≡ None)
none_split true x o h = cc
none_split false x o h = (refl, h)

differs_step : (t : Bool) (j : ℕ) (k : Numbered) (o : Option Numbered) → (k.number == j) ≡ false → Differs j (option_map (λ k. k.number) o) →
    Differs j (option_map (λ k. k.number) (cond t (Some k) o))
differs_step true j k o here rest = sym (flipped k.number j) ∙ here
differs_step false j k o here rest = rest

-- where no row has a number, it isn't that of the first one that passes
first_differs : (p : Row → Bool) (j : ℕ) (ks : List Numbered) → find (has_number j) ks ≡ None → Differs j (first_such p ks)
first_differs p j [] h = cc
first_differs p j (k ∷ ks) h =
    let parts = none_split (k.number == j) k (find (has_number j) ks) h in
    differs_step (p k.row) j k (find (λ k. p k.row) ks) parts.0 (first_differs p j ks parts.1)

either_differs : (t : Bool) (j : ℕ) (a b : Option ℕ) → Differs j a → Differs j b → Differs j (cond t a b)
either_differs true j a b first second = first
either_differs false j a b first second = second

next_differs : (like : Row → Row → Bool) (j n : ℕ) (ks : List Numbered) → find (has_number j) ks ≡ None → Differs j (next_such like n ks)
next_differs like j n [] h = cc
next_differs like j n (k ∷ ks) h =
    let parts = none_split (k.number == j) k (find (has_number j) ks) h in
    either_differs (k.number == n) j (first_such (like k.row) ks) (next_such like n ks) (first_differs (like k.row) j ks parts.1) (next_differs like j n ks parts.1)

-- a row before the number is none of the rest
behind_one : (p : Row → Bool) (k : Numbered) (ks : List Numbered) (o : Option ℕ) → Differs k.number o → rest p o (k ∷ ks) ≡ rest p o ks
behind_one p k ks None d = refl
behind_one p k ks (Some m) d = ap (λ t. filter p (rows_of (cond t (k ∷ ks) (from_number m ks)))) d

first_step : (p : Row → Bool) (k : Numbered) (ks : List Numbered) (t : Bool) → p k.row ≡ t → find (has_number k.number) ks ≡ None → rest p (first_such p ks) ks ≡ filter p (rows_of ks) →
    rest p (option_map (λ k. k.number) (cond t (Some k) (find (λ k. p k.row) ks))) (k ∷ ks) ≡ cond t (k.row ∷ filter p (rows_of ks)) (filter p (rows_of ks))
first_step p k ks true e apart more =
    ap (λ t. filter p (rows_of (cond t (k ∷ ks) (from_number k.number ks)))) (eq-eqb k.number k.number refl)
    ∙ ap (λ t. cond t (k.row ∷ filter p (rows_of ks)) (filter p (rows_of ks))) e
first_step p k ks false e apart more = behind_one p k ks (first_such p ks) (first_differs p k.number ks apart) ∙ more

-- from the first row that passes on, all are before a walk
pub first_rest : (p : Row → Bool) (ks : List Numbered) → AreApart ks → rest p (first_such p ks) ks ≡ filter p (rows_of ks)
first_rest p [] h = refl
first_rest p (k ∷ ks) h = first_step p k ks (p k.row) refl h.0 (first_rest p ks h.1)

next_step : (p : Row → Bool) (like : Row → Row → Bool) (n : ℕ) (r : Row) (k : Numbered) (ks : List Numbered) (t : Bool) → AreApart (k ∷ ks) → p r ≡ true → like r ≡ p →
    option_map (λ k. k.row) (cond t (Some k) (find (has_number n) ks)) ≡ Some r →
    (row_at n ks ≡ Some r → rest p (Some n) ks ≡ r ∷ rest p (next_such like n ks) ks) →
    filter p (rows_of (cond t (k ∷ ks) (from_number n ks))) ≡ r ∷ rest p (cond t (first_such (like k.row) ks) (next_such like n ks)) (k ∷ ks)
next_step p like n r k ks true apart passes same at more =
    let is : k.row ≡ r = cc in
    let left : rest p (first_such (like k.row) ks) (k ∷ ks) ≡ filter p (rows_of ks) =
    behind_one p k ks (first_such (like k.row) ks) (first_differs (like k.row) k.number ks apart.0)
    ∙ ap (λ q. rest p (first_such q ks) ks) (ap like is ∙ same) ∙ first_rest p ks apart.1 in
    ap (λ t. cond t (k.row ∷ filter p (rows_of ks)) (filter p (rows_of ks))) (ap p is ∙ passes)
    ∙ ap (λ x. x ∷ filter p (rows_of ks)) is
    ∙ ap (λ l. r ∷ l) (sym left)
next_step p like n r k ks false apart passes same at more =
    more at ∙ ap (λ l. r ∷ l) (sym (behind_one p k ks (next_such like n ks) (next_differs like k.number n ks apart.0)))

-- the row at hand, and then those from the next one on
pub next_rest : (p : Row → Bool) (like : Row → Row → Bool) (n : ℕ) (r : Row) (ks : List Numbered) → AreApart ks → p r ≡ true → like r ≡ p → row_at n ks ≡ Some r →
    rest p (Some n) ks ≡ r ∷ rest p (next_such like n ks) ks
next_rest p like n r [] apart passes same at = cc
next_rest p like n r (k ∷ ks) apart passes same at = next_step p like n r k ks (k.number == n) apart passes same at (next_rest p like n r ks apart.1 passes same)

-- the row of the number, where it is one, passes
abbrev pub IsOne : (Row → Bool) → Option ℕ → List Numbered → Type 0
IsOne p o ks = IfSome o (λ n. (r : Row) → row_at n ks ≡ Some r → p r ≡ true)

one_behind : (p : Row → Bool) (k : Numbered) (ks : List Numbered) (o : Option ℕ) → Differs k.number o → IsOne p o ks → IsOne p o (k ∷ ks)
one_behind p k ks None d one = tt
one_behind p k ks (Some m) d one = λ r at. one r (sym (ap (λ t. option_map (λ (k : Numbered). k.row) (cond t (Some k) (find (has_number m) ks))) d) ∙ at)

one_found : (p : Row → Bool) (ks : List Numbered) (o : Option ℕ) → AreApart ks → first_such p ks ≡ o → IsOne p o ks
one_found p ks None apart is = tt
one_found p ks (Some n) apart is = λ r at. find-passes p (rows_of ks) r (sym (row_found p n ks apart is) ∙ at)

pub first_one : (p : Row → Bool) (ks : List Numbered) → AreApart ks → IsOne p (first_such p ks) ks
first_one p ks apart = one_found p ks (first_such p ks) apart refl

one_step : (p : Row → Bool) (like : Row → Row → Bool) (n : ℕ) (r : Row) (k : Numbered) (ks : List Numbered) (t : Bool) → AreApart (k ∷ ks) → like r ≡ p →
    option_map (λ k. k.row) (cond t (Some k) (find (has_number n) ks)) ≡ Some r →
    (row_at n ks ≡ Some r → IsOne p (next_such like n ks) ks) → IsOne p (cond t (first_such (like k.row) ks) (next_such like n ks)) (k ∷ ks)
one_step p like n r k ks true apart same at more =
    let is : k.row ≡ r = cc in
    one_behind p k ks (first_such (like k.row) ks) (first_differs (like k.row) k.number ks apart.0)
    (subst (λ q. IsOne p (first_such q ks) ks) (sym (ap like is ∙ same)) (first_one p ks apart.1))
one_step p like n r k ks false apart same at more =
    one_behind p k ks (next_such like n ks) (next_differs like k.number n ks apart.0) (more at)

pub next_one : (p : Row → Bool) (like : Row → Row → Bool) (n : ℕ) (r : Row) (ks : List Numbered) → AreApart ks → like r ≡ p → row_at n ks ≡ Some r → IsOne p (next_such like n ks) ks
next_one p like n r [] apart same at = cc
next_one p like n r (k ∷ ks) apart same at = one_step p like n r k ks (k.number == n) apart same at (next_one p like n r ks apart.1 same)

absent_step : (p : Row → Bool) (n : ℕ) (k : Numbered) (ks : List Numbered) (t : Bool) → option_map (λ k. k.row) (cond t (Some k) (find (has_number n) ks)) ≡ None →
    (row_at n ks ≡ None → rest p (Some n) ks ≡ []) → filter p (rows_of (cond t (k ∷ ks) (from_number n ks))) ≡ []
absent_step p n k ks true at more = cc
absent_step p n k ks false at more = more at

-- nothing is left from a number on that no row has
pub absent_rest : (p : Row → Bool) (n : ℕ) (ks : List Numbered) → row_at n ks ≡ None → rest p (Some n) ks ≡ []
absent_rest p n [] at = refl
absent_rest p n (k ∷ ks) at = absent_step p n k ks (k.number == n) at (absent_rest p n ks)
