-- Blanks in a line, which lines are passed over, and which bytes are text.
use Rattle.std.specs.List.{list_all}
use Rattle.std.specs.Prelude.{◌&&◌, ◌==◌, [], Bool, if◌then◌else◌, List, nat_le, reverse, slice_index, ◌||◌, ℕ, ◌∷◌}

-- a space or a tab
abbrev pub is_blank : ℕ → Bool
is_blank b = (b == 32) || (b == 9)

-- printable ASCII, or a tab
abbrev pub is_text_byte : ℕ → Bool
is_text_byte b = (nat_le 32 b && nat_le b 126) || (b == 9)

-- blank, or a comment, which begins with `#`
abbrev pub is_passed_over : List ℕ → Bool
is_passed_over line = list_all is_blank line || (slice_index line 0 == 35)

-- without the blanks in front
abbrev pub trimmed_start : List ℕ → List ℕ
trimmed_start [] = []
trimmed_start (b ∷ bs) = if is_blank b then trimmed_start bs else b ∷ bs

-- without the blanks behind
abbrev pub trimmed_end : List ℕ → List ℕ
trimmed_end text = reverse (trimmed_start (reverse text))

-- without the blanks on both sides
abbrev pub trimmed : List ℕ → List ℕ
trimmed text = trimmed_end (trimmed_start text)
