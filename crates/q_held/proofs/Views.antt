-- The rows of a view, and what is found among them.
use Rattle.std.proofs.Common.{◌≡◌, ◌∙◌, ◌<◌, ◌∷◌, [], ap, Bool, cond, false, List, None, Option, option_map, refl, Some, sym, true, ℕ}
use Rattle.std.proofs.lemmas.Bool.{eq-eqb}
use Rattle.std.specs.List.{AllByRecursion}
use Rattle.std.specs.Option.{is_some}
use Rattle.std.specs.Prelude.{◌==◌, ◌||◌, find, nat_eq}
use Rattle.q_chains.proofs.Borders.{stands_below}
use Rattle.q_chains.specs.Lists.{is_in}
use Rattle.q_marked.specs.Marks.{is_marked}
use Rattle.q_model.specs.declared.rows.Row.{Row}
use Rattle.q_chains.proofs.Numbers.{flipped, or_right}
use Rattle.q_peers.specs.Numbered as peers
use Rattle.q_peers.specs.Numbered.{has_number, Numbered, row_at}
use Rattle.q_held.proofs.Plain.{rows_plain}
use Rattle.q_held.specs.Held.{HeldRow, plain, rows_of}
use Rattle.q_held.specs.Sound.{numbers_of, with_mark, with_marks}

-- the rows with their numbers
pub plain_view : (marks : List Bool) (ks : List Numbered) → plain (with_marks marks ks) ≡ ks
plain_view marks [] = refl
plain_view marks (k ∷ ks) = ap (λ l. k ∷ l) (plain_view marks ks)

-- the rows
pub rows_view : (marks : List Bool) (ks : List Numbered) → rows_of (with_marks marks ks) ≡ peers.rows_of ks
rows_view marks ks = sym (rows_plain (with_marks marks ks)) ∙ ap peers.rows_of (plain_view marks ks)

first_step : (marks : List Bool) (k : Numbered) (ks : List Numbered) (t : Bool) →
    find (λ n. is_marked n marks) (numbers_of ks) ≡ option_map (λ (h : HeldRow). h.number) (find (λ h. h.held) (with_marks marks ks)) →
    cond t (Some k.number) (find (λ n. is_marked n marks) (numbers_of ks)) ≡ option_map (λ (h : HeldRow). h.number) (cond t (Some (with_mark marks k)) (find (λ h. h.held) (with_marks marks ks)))
first_step marks k ks true rest = refl
first_step marks k ks false rest = rest

-- the first number that is marked is that of the first row that is held back
pub first_marked : (marks : List Bool) (ks : List Numbered) →
    find (λ n. is_marked n marks) (numbers_of ks) ≡ option_map (λ (h : HeldRow). h.number) (find (λ h. h.held) (with_marks marks ks))
first_marked marks [] = refl
first_marked marks (k ∷ ks) = first_step marks k ks (is_marked k.number marks) (first_marked marks ks)

in_step : (n : ℕ) (k : Numbered) (ks : List Numbered) (t : Bool) → is_in n (numbers_of ks) ≡ is_some (find (has_number n) ks) →
    (t || is_in n (numbers_of ks)) ≡ is_some (cond t (Some k) (find (has_number n) ks))
in_step n k ks true rest = refl
in_step n k ks false rest = rest

-- a number that a row has
pub in_numbers : (n : ℕ) (ks : List Numbered) → is_in n (numbers_of ks) ≡ is_some (find (has_number n) ks)
in_numbers n [] = refl
in_numbers n (k ∷ ks) =
    ap (λ t. t || is_in n (numbers_of ks)) (flipped n k.number) ∙ in_step n k ks (k.number == n) (in_numbers n ks)

pub below_in : (numbers n : ℕ) (order : List ℕ) → AllByRecursion (λ m. m < numbers) order → is_in n order ≡ true → n < numbers
below_in numbers n order below there = stands_below numbers n (order ∷ []) (below, tt) (ap (λ t. t || false) there)

found_step : (p : ℕ → Bool) (n x : ℕ) (xs : List ℕ) (t : Bool) → cond t (Some x) (find p xs) ≡ Some n → (find p xs ≡ Some n → is_in n xs ≡ true) → is_in n (x ∷ xs) ≡ true
found_step p n x xs true is rest = let same : x ≡ n = cc in ap (λ t. t || is_in n xs) (eq-eqb n x (sym same))
found_step p n x xs false is rest = or_right (nat_eq n x) (is_in n xs) (rest is)

-- what is found stands in the list
pub found_in : (p : ℕ → Bool) (n : ℕ) (xs : List ℕ) → find p xs ≡ Some n → is_in n xs ≡ true
found_in p n [] is = cc
found_in p n (x ∷ xs) is = found_step p n x xs (p x) is (found_in p n xs)

some_row : (o : Option Numbered) → is_some o ≡ is_some (option_map (λ (k : Numbered). k.row) o)
some_row None = refl
some_row (Some k) = refl

-- so does the number of a row
pub row_in : (n : ℕ) (ks : List Numbered) → is_some (row_at n ks) ≡ true → is_in n (numbers_of ks) ≡ true
row_in n ks is = in_numbers n ks ∙ some_row (find (has_number n) ks) ∙ is
