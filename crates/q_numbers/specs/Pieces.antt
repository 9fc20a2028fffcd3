-- The pieces of a text between the bytes that divide it: words between spaces, lines between their ends.
use Rattle.std.specs.List.{slice_split}
use Rattle.std.specs.Prelude.{◌+◌, ◌==◌, [], Bool, drop, if◌then◌else◌, List, None, Option, option_and_then, option_map, position, Some, take, ℕ, ◌∷◌}
use Rattle.q_model.specs.Lists.{has_none}

-- this byte
abbrev pub is_byte : ℕ → ℕ → Bool
is_byte byte b = b == byte

-- a space
abbrev pub is_space : ℕ → Bool
is_space b = is_byte 32 b

-- what stands before the first such byte, and behind it
unfoldable pub cut : ℕ → List ℕ → Option (List ℕ × List ℕ)
cut byte text = option_map (λ at. (take at text, drop (at + 1) text)) (position (is_byte byte) text)

-- what stands between such bytes; where two stand together, or one at an end, a piece is empty
abbrev pub pieces : ℕ → List ℕ → List (List ℕ)
pieces byte text = slice_split (is_byte byte) text

-- the words of a text, between which stands one space
abbrev pub words_in : List ℕ → List (List ℕ)
words_in text = pieces 32 text

-- the words behind a first one, if a space stands there
abbrev pub words_behind : Option (List ℕ) → List (List ℕ)
words_behind None = []
words_behind (Some text) = words_in text

-- what each gives, if each gives something
abbrev pub each_some : {A B : Type 0} → (A → Option B) → List A → Option (List B)
each_some f [] = Some []
each_some f (x ∷ xs) = option_and_then (λ y. option_map (λ ys. y ∷ ys) (each_some f xs)) (f x)

-- the same of at least one
abbrev pub one_or_more : {A B : Type 0} → (A → Option B) → List A → Option (List B)
one_or_more f xs = if has_none xs then None else each_some f xs
