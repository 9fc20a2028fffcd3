-- What a contract sees of numbers in an order, of which some are marked.
use Rattle.std.specs.Prelude.{Bool, false, get_or, if◌then◌else◌, List, set, ℕ}
use Rattle.q_chains.specs.Lists.{is_in}

-- the numbers in their order, whether each number is marked, and how many numbers there are: those
-- below this
pub record Marks : Type 0 where
  pub order : List ℕ
  pub marks : List Bool
  pub numbers : ℕ

abbrev pub is_marked : ℕ → List Bool → Bool
is_marked n marks = get_or marks n false

-- the mark of a number, where it stands in the order
abbrev pub marked_where : ℕ → Bool → List ℕ → List Bool → List Bool
marked_where n marked order marks = if is_in n order then set marks n marked else marks
