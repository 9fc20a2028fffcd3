-- What a contract sees of rows whose positions stand side by side.
use Rattle.std.specs.List.{AllByRecursion}
use Rattle.std.specs.Option.{option_map_or}
use Rattle.std.specs.Prelude.{◌++◌, ◌≤◌, [], ◌∷◌, length, List, Option, set, slice_get, ℕ}
use Rattle.q_model.specs.declared.rows.Row.{Row}
use Rattle.q_positions.specs.declared.row_ref.RowRef.{RowRef}

-- the row that is read
abbrev pub row_shown : RowRef → Row
row_shown r = record { id = r.id; site = r.site.now; positions = r.positions.now }

-- the places of rows by number, and how many positions a row has room for
pub record Slots : Type 0 where
  pub rows : List (Option Row)
  pub most : ℕ

-- no row has more positions than this
abbrev pub AreShort : ℕ → List (Option Row) → Type 0
AreShort most rows = AllByRecursion (λ o. length (option_map_or (λ r. r.positions) o []) ≤ most) rows

-- rows in order, how many have room, and how many positions each has room for
pub record Rows : Type 0 where
  pub rows : List Row
  pub room : ℕ
  pub most : ℕ

-- the row with one more position
abbrev pub with_position : ℕ → Row → Row
with_position position r = record r { positions = r.positions ++ position ∷ [] }

-- the row at this place has one more position
abbrev pub joined_at : ℕ → ℕ → List Row → List Row
joined_at place position rows =
    option_map_or (λ r. set rows place (with_position position r)) (slice_get rows place) rows
