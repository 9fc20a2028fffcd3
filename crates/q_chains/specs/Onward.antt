-- What stands from a number on in its list.
use Rattle.std.specs.Prelude.{◌==◌, [], ◌∷◌, if◌then◌else◌, List, None, Option, Some, ℕ}
use Rattle.q_chains.specs.Lists.{list_with}

-- the numbers behind this one
abbrev pub after : ℕ → List ℕ → List ℕ
after n [] = []
after n (m ∷ ms) = if m == n then ms else after n ms

-- the number and those behind it in its list
abbrev pub from_on : Option ℕ → List (List ℕ) → List ℕ
from_on None lists = []
from_on (Some n) lists = n ∷ after n (list_with n lists)
