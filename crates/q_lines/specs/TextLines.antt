-- The lines of a text that may have so many bytes.
use Rattle.std.specs.List.{list_all}
use Rattle.std.specs.Prelude.{◌==◌, [], Bool, if◌then◌else◌, length, List, nat_lt, not, suc, zero, ℕ, ◌∷◌}

-- A line without its LF; the last line, where it lacks its LF; or what the most bytes that the text may
-- have leave of one.
pub data TextLine : Type 0 where
  whole : List ℕ → TextLine
  unended : List ℕ → TextLine
  cut : List ℕ → TextLine

-- a byte in front of the first line
abbrev pub onto_line : ℕ → List TextLine → List TextLine
onto_line b [] = unended (b ∷ []) ∷ []
onto_line b (whole line ∷ lines) = whole (b ∷ line) ∷ lines
onto_line b (unended line ∷ lines) = unended (b ∷ line) ∷ lines
onto_line b (cut line ∷ lines) = cut (b ∷ line) ∷ lines

-- The lines of a text of at most so many bytes. What is behind the most bytes isn't looked at, and the line
-- that it cuts is the last.
abbrev pub lines_from : ℕ → List ℕ → List TextLine
lines_from most [] = []
lines_from zero (b ∷ bs) = cut [] ∷ []
lines_from (suc most) (b ∷ bs) =
    if b == 10 then whole [] ∷ lines_from most bs else onto_line b (lines_from most bs)

-- the bytes of a line
abbrev pub bytes_of : TextLine → List ℕ
bytes_of (whole line) = line
bytes_of (unended line) = line
bytes_of (cut line) = line

-- a line has more than 16,777,216 bytes
abbrev pub is_long : TextLine → Bool
is_long line = nat_lt 16777216 (length (bytes_of line))

-- no line ends in these bytes
abbrev pub is_in_line : List ℕ → Bool
is_in_line bytes = list_all (λ b. not (b == 10)) bytes
