-- What a contract sees of numbers in a ranked order.
use Rattle.std.specs.Prelude.{◌<◌, ◌∷◌, ◌^◌, [], get_or, List, None, Option, Some, ℕ}

-- the numbers in their order, the rank of each number, which means something where the number
-- stands in the order, and how many numbers there are: those below this
pub record Ranking : Type 0 where
  pub order : List ℕ
  pub ranks : List ℕ
  pub numbers : ℕ

-- the ranks of these rise, the first above this one
abbrev pub RiseAbove : ℕ → List ℕ → List ℕ → Type 0
RiseAbove rank ranks [] = Unit {0}
RiseAbove rank ranks (n ∷ ns) =
    (rank < get_or ranks n 0) × RiseAbove (get_or ranks n 0) ranks ns

-- ranks rise along the order, and none in it is 0
abbrev pub Rises : List ℕ → List ℕ → Type 0
Rises ranks order = RiseAbove 0 ranks order

-- all ranks are below this
abbrev pub AreLow : List ℕ → Type 0
AreLow ranks = (n : ℕ) → get_or ranks n 0 < 2 ^ 63

-- the rank of a number, and 0, which is below those of all in the order, where there is none
abbrev pub rank_of : List ℕ → Option ℕ → ℕ
rank_of ranks None = 0
rank_of ranks (Some n) = get_or ranks n 0
