-- What a contract sees of lists of numbers side by side, and how they stand in cells.
use Rattle.std.specs.List.{AllByRecursion}
use Rattle.std.specs.Prelude.{◌≡◌, ◌≤◌, ◌<◌, ◌*◌, ◌^◌, [], ◌∷◌, drop, length, List, take, ℕ}

-- the lists, and how many numbers each has room for
pub record Lists : Type 0 where
  pub lists : List (List ℕ)
  pub most : ℕ

-- the lists of these lengths, each at the front of so many cells of its own
abbrev pub lists_in : ℕ → List ℕ → List ℕ → List (List ℕ)
lists_in most cells [] = []
lists_in most cells (n ∷ ns) = take n cells ∷ lists_in most (drop most cells) ns

-- no list is longer than its room
abbrev pub AreWithin : ℕ → List ℕ → Type 0
AreWithin most lens = AllByRecursion (λ n. n ≤ most) lens

-- what always holds of the cells and of the lengths
pub record IsSound (cells lens : List ℕ) (most : ℕ) : Type 0 where
  pub few : length lens < 2 ^ 30
  pub short : most ≤ 1024
  pub filled : length cells ≡ length lens * most
  pub within : AreWithin most lens
