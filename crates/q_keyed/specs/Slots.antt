-- How items stand under their numbers.
use Rattle.std.specs.Prelude.{◌+◌, ◌-◌, ◌++◌, filter_map, get_or, length, List, None, Option, replicate, Some, ℕ}
use Rattle.q_keyed.specs.Numbered.{Numbered}

module _ {T : Type 0} where
  abbrev pub numbered_in : ℕ → Option T → Option (Numbered T)
  numbered_in n None = None
  numbered_in n (Some t) = Some (record { number = n; item = t })

  -- the items under these numbers
  abbrev pub items_of : List (Option T) → List ℕ → List (Numbered T)
  items_of items ns = filter_map (λ n. numbered_in n (get_or items n None)) ns

  -- each number up to this one has a place
  abbrev pub with_places : ℕ → List (Option T) → List (Option T)
  with_places n items = items ++ replicate (n + 1 - length items) None
