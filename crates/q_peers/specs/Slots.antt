-- How rows stand under their numbers.
use Rattle.std.specs.Prelude.{filter_map, get_or, List, None, Option, Some, ℕ}
use Rattle.q_model.specs.declared.rows.Row.{Row}
use Rattle.q_peers.specs.Numbered.{Numbered}

abbrev pub numbered_in : ℕ → Option Row → Option Numbered
numbered_in n None = None
numbered_in n (Some r) = Some (record { number = n; row = r })

-- the rows under these numbers
abbrev pub items_of : List (Option Row) → List ℕ → List Numbered
items_of rows ns = filter_map (λ n. numbered_in n (get_or rows n None)) ns
