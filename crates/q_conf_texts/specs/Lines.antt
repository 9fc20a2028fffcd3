-- The first line of a text that says what is looked for.
use Rattle.std.specs.Prelude.{List, None, Option, option_map, Some, ℕ}
use Rattle.q_text.specs.Lines.{through_lines}

-- what was found, and in which line
pub record At (A : Type 0) : Type 0 where
  pub line : ℕ
  pub says : A

-- the line of this number says this
abbrev pub at : {A : Type 0} → ℕ → A → At A
at n a = record { line = n; says = a }

-- a line with its number, unless an earlier one was found
abbrev pub then_line : {A : Type 0} → (List ℕ → Option A) → Option (At A) → ℕ × List ℕ → Option (At A)
then_line read (Some found) line = Some found
then_line read None line = option_map (at line.0) (read line.1)

-- the first line of which something is read; lines count from 1
abbrev pub first_line_with : {A : Type 0} → (List ℕ → Option A) → List ℕ → Option (At A)
first_line_with read text = through_lines (then_line read) None 1 text
