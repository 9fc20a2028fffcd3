-- What callers conclude of rows with numbers that are apart.
use Rattle.std.proofs.Common.{◌≡◌, ◌∙◌, ◌∷◌, ◌++◌, [], ap, Bool, cond, false, List, None, Option, option_map, refl, Some, sym, true, ℕ}
use Rattle.std.proofs.lemmas.Bool.{eq-eqb, eqb-true}
use Rattle.std.specs.Prelude.{◌==◌, filter, find, not}
use Rattle.q_model.specs.declared.rows.Row.{Row}
use Rattle.q_model.specs.Lists.{drop_first}
use Rattle.q_peers.specs.Numbered.{AreApart, first_such, has_number, next_such, Numbered, row_at, rows_of}
use Rattle.q_chains.proofs.Numbers.{other_test, own_test}

abbrev number_of : Option Numbered → Option ℕ
number_of o = option_map (λ (k : Numbered). k.number) o

abbrev row_of : Option Numbered → Option Row
row_of o = option_map (λ (k : Numbered). k.row) o

none_step : (n : ℕ) (k : Numbered) (ks : List Numbered) (t : Bool) → (k.number == n) ≡ t → cond t (Some k) (find (has_number n) ks) ≡ None → ((k.number == n) ≡ false) × (find (has_number n) ks ≡ None)
none_step n k ks true e h = cc
none_step n k ks false e h = (e, h)

-- no row has the number
absent_parts : (n : ℕ) (k : Numbered) (ks : List Numbered) → find (has_number n) (k ∷ ks) ≡ None → ((k.number == n) ≡ false) × (find (has_number n) ks ≡ None)
absent_parts n k ks h = none_step n k ks (k.number == n) refl h

there_step : (p : Row → Bool) (n : ℕ) (k : Numbered) (ks : List Numbered) (t : Bool) → (k.number == n) ≡ false → number_of (cond t (Some k) (find (λ k. p k.row) ks)) ≡ Some n → (first_such p ks ≡ Some n → ⊥) → ⊥
there_step p n k ks true e h rest = let same : k.number ≡ n = cc in let own : (k.number == n) ≡ true = eq-eqb k.number n same in cc
there_step p n k ks false e h rest = rest h

-- what is found has its number
pub found_there : (p : Row → Bool) (n : ℕ) (ks : List Numbered) → first_such p ks ≡ Some n → find (has_number n) ks ≡ None → ⊥
found_there p n [] h none = cc
found_there p n (k ∷ ks) h none =
    let parts = absent_parts n k ks none in
    there_step p n k ks (p k.row) parts.0 h (λ g. found_there p n ks g parts.1)

-- a row isn't found by the number of one that stands apart from it
other_number : (p : Row → Bool) (n : ℕ) (k : Numbered) (ks : List Numbered) → find (has_number k.number) ks ≡ None → first_such p ks ≡ Some n → (k.number == n) ≡ false
other_number p n k ks none h = other_test k.number n (λ e. found_there p n ks h (ap (λ m. find (has_number m) ks) (sym e) ∙ none))

left_step : (n : ℕ) (k : Numbered) (ks : List Numbered) → (k.number == n) ≡ false → filter (λ k. not (has_number n k)) ks ≡ ks → filter (λ k. not (has_number n k)) (k ∷ ks) ≡ k ∷ ks
left_step n k ks e rest =
    ap (λ t. cond (not t) (k ∷ filter (λ k. not (has_number n k)) ks) (filter (λ k. not (has_number n k)) ks)) e ∙ ap (λ l. k ∷ l) rest

all_left : (n : ℕ) (ks : List Numbered) → find (has_number n) ks ≡ None → filter (λ k. not (has_number n k)) ks ≡ ks
all_left n [] h = refl
all_left n (k ∷ ks) h = let parts = absent_parts n k ks h in left_step n k ks parts.0 (all_left n ks parts.1)

drop_step : (p : Row → Bool) (n : ℕ) (k : Numbered) (ks : List Numbered) (t : Bool) → find (has_number k.number) ks ≡ None → number_of (cond t (Some k) (find (λ k. p k.row) ks)) ≡ Some n →
    (first_such p ks ≡ Some n → rows_of (filter (λ k. not (has_number n k)) ks) ≡ drop_first p (rows_of ks)) →
    rows_of (filter (λ k. not (has_number n k)) (k ∷ ks)) ≡ cond t (rows_of ks) (k.row ∷ drop_first p (rows_of ks))
drop_step p n k ks true none h rest =
    let same : k.number ≡ n = cc in
    ap (λ t. rows_of (cond (not t) (k ∷ filter (λ k. not (has_number n k)) ks) (filter (λ k. not (has_number n k)) ks))) (eq-eqb k.number n same)
    ∙ ap rows_of (all_left n ks (ap (λ m. find (has_number m) ks) (sym same) ∙ none))
drop_step p n k ks false none h rest =
    ap (λ t. rows_of (cond (not t) (k ∷ filter (λ k. not (has_number n k)) ks) (filter (λ k. not (has_number n k)) ks))) (other_number p n k ks none h)
    ∙ ap (λ rows. k.row ∷ rows) (rest h)

-- the first row that passes goes with its number
pub drops : (p : Row → Bool) (n : ℕ) (ks : List Numbered) → AreApart ks → first_such p ks ≡ Some n → rows_of (filter (λ k. not (has_number n k)) ks) ≡ drop_first p (rows_of ks)
drops p n [] apart h = cc
drops p n (k ∷ ks) apart h = drop_step p n k ks (p k.row) apart.0 h (drops p n ks apart.1)

found_step : (p : Row → Bool) (n : ℕ) (k : Numbered) (ks : List Numbered) (t : Bool) → find (has_number k.number) ks ≡ None → number_of (cond t (Some k) (find (λ k. p k.row) ks)) ≡ Some n →
    (first_such p ks ≡ Some n → row_at n ks ≡ find p (rows_of ks)) → row_of (cond (k.number == n) (Some k) (find (has_number n) ks)) ≡ cond t (Some k.row) (find p (rows_of ks))
found_step p n k ks true none h rest =
    let same : k.number ≡ n = cc in
    ap (λ t. row_of (cond t (Some k) (find (has_number n) ks))) (eq-eqb k.number n same)
found_step p n k ks false none h rest =
    ap (λ t. row_of (cond t (Some k) (find (has_number n) ks))) (other_number p n k ks none h) ∙ rest h

-- the row of the number that is found
pub row_found : (p : Row → Bool) (n : ℕ) (ks : List Numbered) → AreApart ks → first_such p ks ≡ Some n → row_at n ks ≡ find p (rows_of ks)
row_found p n [] apart h = cc
row_found p n (k ∷ ks) apart h = found_step p n k ks (p k.row) apart.0 h (row_found p n ks apart.1)

missed_step : (p : Row → Bool) (k : Numbered) (ks : List Numbered) (t : Bool) → number_of (cond t (Some k) (find (λ k. p k.row) ks)) ≡ None → (first_such p ks ≡ None → find p (rows_of ks) ≡ None) → cond t (Some k.row) (find p (rows_of ks)) ≡ None
missed_step p k ks true h rest = cc
missed_step p k ks false h rest = rest h

-- no number is found, and no row passes
pub none_found : (p : Row → Bool) (ks : List Numbered) → first_such p ks ≡ None → find p (rows_of ks) ≡ None
none_found p [] h = refl
none_found p (k ∷ ks) h = missed_step p k ks (p k.row) h (none_found p ks)

behind_step : (like : Row → Row → Bool) (n : ℕ) (x : Numbered) (ks : List Numbered) (found : Option ℕ) → (x.number == n) ≡ false → next_such like n ks ≡ found → next_such like n (x ∷ ks) ≡ found
behind_step like n x ks found e rest = ap (λ t. cond t (first_such (like x.row) ks) (next_such like n ks)) e ∙ rest

ahead_other : (x k : Numbered) (xs ks : List Numbered) → find (has_number x.number) (xs ++ k ∷ ks) ≡ None → (x.number == k.number) ≡ false
ahead_other x k [] ks h = other_test x.number k.number (λ e. let own : (k.number == x.number) ≡ true = eq-eqb k.number x.number (sym e) in let parts = absent_parts x.number k ks h in let gone : (k.number == x.number) ≡ false = parts.0 in cc)
ahead_other x k (y ∷ xs) ks h = ahead_other x k xs ks (absent_parts x.number y (xs ++ k ∷ ks) h).1

-- the next one beside a row is the first that passes of those behind it
pub next_behind : (like : Row → Row → Bool) (xs : List Numbered) (k : Numbered) (ks : List Numbered) → AreApart (xs ++ k ∷ ks) → next_such like k.number (xs ++ k ∷ ks) ≡ first_such (like k.row) ks
next_behind like [] k ks apart = ap (λ t. cond t (first_such (like k.row) ks) (next_such like k.number ks)) (own_test k.number)
next_behind like (x ∷ xs) k ks apart =
    behind_step like k.number x (xs ++ k ∷ ks) (first_such (like k.row) ks) (ahead_other x k xs ks apart.0) (next_behind like xs k ks apart.1)

-- the row that is found, with those ahead of it, of which none passes, and those behind it
pub record Found (p : Row → Bool) (n : ℕ) (ks : List Numbered) : Type 0 where
  pub ahead : List Numbered
  pub found : Numbered
  pub behind : List Numbered
  pub all : ks ≡ ahead ++ found ∷ behind
  pub number : found.number ≡ n
  pub passes : p found.row ≡ true
  pub none : first_such p ahead ≡ None

more_ahead : (p : Row → Bool) (n : ℕ) (k : Numbered) (ks : List Numbered) → p k.row ≡ false → Found p n ks → Found p n (k ∷ ks)
more_ahead p n k ks fails f = record {
  ahead = k ∷ f.ahead;
  found = f.found;
  behind = f.behind;
  all = ap (λ l. k ∷ l) f.all;
  number = f.number;
  passes = f.passes;
  none = ap (λ t. number_of (cond t (Some k) (find (λ k. p k.row) f.ahead))) fails ∙ f.none;
}

split_step : (p : Row → Bool) (n : ℕ) (k : Numbered) (ks : List Numbered) (t : Bool) → p k.row ≡ t → number_of (cond t (Some k) (find (λ k. p k.row) ks)) ≡ Some n → (first_such p ks ≡ Some n → Found p n ks) → Found p n (k ∷ ks)
split_step p n k ks true e h rest = record {
  ahead = [];
  found = k;
  behind = ks;
  all = refl;
  number = cc;
  passes = e;
  none = refl;
}
split_step p n k ks false e h rest = more_ahead p n k ks e (rest h)

pub found_split : (p : Row → Bool) (n : ℕ) (ks : List Numbered) → first_such p ks ≡ Some n → Found p n ks
found_split p n [] h = cc
found_split p n (k ∷ ks) h = split_step p n k ks (p k.row) refl h (found_split p n ks)

-- What stands under a number stays there as others come and go.
more_step : (n : ℕ) (x k : Numbered) (ks : List Numbered) (found : Option Row) → (x.number == n) ≡ false → row_at n (ks ++ k ∷ []) ≡ found → row_at n (x ∷ ks ++ k ∷ []) ≡ found
more_step n x k ks found e rest = ap (λ t. row_of (cond t (Some x) (find (has_number n) (ks ++ k ∷ [])))) e ∙ rest

-- the row that came
pub row_come : (k : Numbered) (ks : List Numbered) → find (has_number k.number) ks ≡ None → row_at k.number (ks ++ k ∷ []) ≡ Some k.row
row_come k [] h = ap (λ t. row_of (cond t (Some k) None)) (own_test k.number)
row_come k (x ∷ ks) h =
    let parts = absent_parts k.number x ks h in
    more_step k.number x k ks (Some k.row) parts.0 (row_come k ks parts.1)

stay_step : (n : ℕ) (x : Numbered) (o q : Option Numbered) (t : Bool) → row_of o ≡ row_of q → row_of (cond t (Some x) o) ≡ row_of (cond t (Some x) q)
stay_step n x o q true h = refl
stay_step n x o q false h = h

-- another one, as a row comes
pub row_stays : (n : ℕ) (k : Numbered) (ks : List Numbered) → (k.number == n) ≡ false → row_at n (ks ++ k ∷ []) ≡ row_at n ks
row_stays n k [] e = ap (λ t. row_of (cond t (Some k) None)) e
row_stays n k (x ∷ ks) e = stay_step n x (find (has_number n) (ks ++ k ∷ [])) (find (has_number n) ks) (x.number == n) (row_stays n k ks e)

keep_step : (m n : ℕ) (x : Numbered) (ks : List Numbered) (t : Bool) → (x.number == n) ≡ t → (n == m) ≡ false → row_at m (filter (λ k. not (has_number n k)) ks) ≡ row_at m ks →
    row_at m (cond (not t) (x ∷ filter (λ k. not (has_number n k)) ks) (filter (λ k. not (has_number n k)) ks)) ≡ row_at m (x ∷ ks)
keep_step m n x ks true e other rest =
    rest ∙ sym (ap (λ t. row_of (cond t (Some x) (find (has_number m) ks))) (ap (λ k. k == m) (eqb-true x.number n e) ∙ other))
keep_step m n x ks false e other rest = stay_step m x (find (has_number m) (filter (λ k. not (has_number n k)) ks)) (find (has_number m) ks) (x.number == m) rest

-- another one, as a row goes
pub row_left : (m n : ℕ) (ks : List Numbered) → (n == m) ≡ false → row_at m (filter (λ k. not (has_number n k)) ks) ≡ row_at m ks
row_left m n [] e = refl
row_left m n (x ∷ ks) e = keep_step m n x ks (x.number == n) refl e (row_left m n ks e)
