-- The lines of a text, and its first one.
use Rattle.std.specs.List.{enumerate_from, fold}
use Rattle.std.specs.Prelude.{◌≡◌, ◌⊎◌, [], List, ℕ, ◌∷◌}
use Rattle.q_numbers.specs.Pieces.{pieces}

-- the lines of a text without their ends; behind the last end stands an empty one
abbrev pub lines_in : List ℕ → List (List ℕ)
lines_in text = pieces 10 text

-- a line and what follows its end, or the whole text and nothing
abbrev pub IsFirstLine : List ℕ → List ℕ → List ℕ → Type 0
IsFirstLine text line rest =
    (lines_in text ≡ line ∷ lines_in rest) ⊎ ((lines_in text ≡ line ∷ []) × (rest ≡ []))

-- what the lines of a text make of a state, one by one; the first has number n
abbrev pub through_lines : {S : Type 0} → (S → ℕ × List ℕ → S) → S → ℕ → List ℕ → S
through_lines step s n text = fold step s (enumerate_from n (lines_in text))
