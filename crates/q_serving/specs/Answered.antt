-- Which lines a server answers.
use Rattle.std.specs.Prelude.{[], ◌∷◌, Bool, if◌then◌else◌, List, nat_eq, true, ℕ}
use Rattle.std.specs.Cmp.Lexicographic.{pointwise}
use Rattle.std.specs.List.{starts_with}

-- `354`: content comes behind this reply
abbrev pub asks_for_content : List ℕ → Bool
asks_for_content reply = starts_with nat_eq reply (51 ∷ 53 ∷ 52 ∷ [])

-- any command, and of content the line `.`
abbrev pub is_answered : List ℕ → Bool → Bool
is_answered line in_content =
    if in_content then pointwise nat_eq line (46 ∷ 13 ∷ 10 ∷ []) else true
