-- How many names may stand behind one, so that a walk over names ends.
use Rattle.std.specs.Prelude.{◌+◌, ◌-◌, ◌*◌, min, ℕ, zero, suc, List, [], ◌∷◌, Option, Some, None}

-- how many texts there are of at most so many bytes
abbrev pub texts : ℕ → ℕ
texts zero = 1
texts (suc k) = 1 + 256 * texts k

-- how many of them stand before this one
abbrev pub texts_before : ℕ → List ℕ → ℕ
texts_before zero text = 0
texts_before (suc k) [] = 0
texts_before (suc k) (b ∷ bs) = 1 + min b 255 * texts k + texts_before k bs

-- how many texts as long as a name stand behind this name, or are there at all
abbrev pub names_left : Option (List ℕ) → ℕ
names_left None = texts 40
names_left (Some n) = texts 40 - 1 - texts_before 40 n
