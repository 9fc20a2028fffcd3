-- A line that is blank says nothing, and the other lines stay.
use Rattle.std.proofs.Common.{◌≡◌, ◌∷◌, ◌∙◌, ◌-◌, ◌==◌, [], Bool, true, false, ℕ, zero, suc, List, length, refl, ap, arith, eqb-true}
use Rattle.std.specs.List.{list_all, onto_first}
use Rattle.q_text.specs.Blanks.{is_blank, is_passed_over}
use Rattle.q_text.specs.Lines.{lines_in}
use Rattle.q_check.specs.Faults.{blanked}

-- so many spaces
abbrev pub spaces : ℕ → List ℕ
spaces zero = []
spaces (suc n) = 32 ∷ spaces n

-- the lines, of which that at this place is blank
abbrev pub blank_at : ℕ → List (List ℕ) → List (List ℕ)
blank_at k [] = []
blank_at zero (line ∷ lines) = spaces (length line) ∷ lines
blank_at (suc k) (line ∷ lines) = line ∷ blank_at k lines

spaces_blank : (n : ℕ) → list_all is_blank (spaces n) ≡ true
spaces_blank zero = refl
spaces_blank (suc n) = spaces_blank n

pub spaces_passed : (n : ℕ) → is_passed_over (spaces n) ≡ true
spaces_passed n = rw (spaces_blank n) refl

-- no line has number 0
none_blank : (bytes : List ℕ) → blanked 0 bytes ≡ bytes
none_blank [] = refl
none_blank (b ∷ bytes) = by (b == 10) refl (none_blank bytes)
  where
    by : (t : Bool) → (b == 10) ≡ t → blanked 0 bytes ≡ bytes → blanked 0 (b ∷ bytes) ≡ b ∷ bytes
    by true e rest = rw e (ap (λ (xs : List ℕ). b ∷ xs) rest)
    by false e rest = rw e (ap (λ (xs : List ℕ). b ∷ xs) rest)

first_blank : (b : ℕ) (lines : List (List ℕ)) → onto_first 32 (blank_at 0 lines) ≡ blank_at 0 (onto_first b lines)
first_blank b [] = refl
first_blank b (line ∷ lines) = refl

later_blank : (k b : ℕ) (lines : List (List ℕ)) → onto_first b (blank_at (suc k) lines) ≡ blank_at (suc k) (onto_first b lines)
later_blank k b [] = refl
later_blank k b (line ∷ lines) = refl

less_one : (k : ℕ) → suc k - 1 ≡ k
less_one k = omega arith

not_first : (k : ℕ) → (suc (suc k) == 1) ≡ false
not_first k = by (suc (suc k) == 1) refl
  where
    by : (t : Bool) → (suc (suc k) == 1) ≡ t → (suc (suc k) == 1) ≡ false
    by true e =
        let same : suc (suc k) ≡ 1 = eqb-true (suc (suc k)) 1 e in
        absurd (omega (arith, same))
    by false e = e

-- the lines of a file in which one is blank
pub lines_blanked : (k : ℕ) (bytes : List ℕ) → lines_in (blanked (suc k) bytes) ≡ blank_at k (lines_in bytes)
lines_blanked zero [] = refl
lines_blanked (suc k) [] = refl
lines_blanked zero (b ∷ bytes) = by (b == 10) refl (lines_blanked zero bytes)
  where
    by : (t : Bool) → (b == 10) ≡ t → lines_in (blanked 1 bytes) ≡ blank_at 0 (lines_in bytes) → lines_in (blanked 1 (b ∷ bytes)) ≡ blank_at 0 (lines_in (b ∷ bytes))
    by true e rest = rw e (rw e (ap (λ (xs : List ℕ). [] ∷ lines_in xs) (none_blank bytes)))
    by false e rest = rw e (ap (onto_first 32) rest ∙ first_blank b (lines_in bytes))
lines_blanked (suc k) (b ∷ bytes) = by (b == 10) refl (lines_blanked k bytes) (lines_blanked (suc k) bytes)
  where
    by : (t : Bool) → (b == 10) ≡ t → lines_in (blanked (suc k) bytes) ≡ blank_at k (lines_in bytes) → lines_in (blanked (suc (suc k)) bytes) ≡ blank_at (suc k) (lines_in bytes)
        → lines_in (blanked (suc (suc k)) (b ∷ bytes)) ≡ blank_at (suc k) (lines_in (b ∷ bytes))
    by true e before here = rw e (rw e (ap (λ (m : ℕ). [] ∷ lines_in (blanked m bytes)) (less_one (suc k)) ∙ ap (λ (xs : List (List ℕ)). [] ∷ xs) before))
    by false e before here = rw e (rw (not_first k) (rw e (ap (onto_first b) here ∙ later_blank k b (lines_in bytes))))
