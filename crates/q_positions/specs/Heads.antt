-- How rows stand apart from their positions.
use Rattle.std.specs.Prelude.{◌≡◌, ◌≤◌, ◌<◌, ◌^◌, [], ◌∷◌, drop, get_or, length, List, Option, option_map, Vec, vec_capacity, ℕ}
use Rattle.std.specs.declared.alloc.Global.{Global}
use Rattle.q_model.specs.declared.rows.Row.{Row}
use Rattle.q_positions.specs.Lists.{Lists}
use Rattle.q_positions.specs.declared.head.Head.{Head}

-- the row of these positions
abbrev pub row_of : Head → List ℕ → Row
row_of h positions = record { id = h.id; site = h.site; positions = positions }

-- the row at a place, where one stands there
abbrev pub slot_of : Option Head → List ℕ → Option Row
slot_of h positions = option_map (λ h. row_of h positions) h

-- the places, each with the list of its number
abbrev pub slots_of : List (Option Head) → List (List ℕ) → List (Option Row)
slots_of [] lists = []
slots_of (h ∷ hs) lists = slot_of h (get_or lists 0 []) ∷ slots_of hs (drop 1 lists)

-- the rows in order, each with the list of its place
abbrev pub rows_of : List Head → List (List ℕ) → List Row
rows_of [] lists = []
rows_of (h ∷ hs) lists = row_of h (get_or lists 0 []) ∷ rows_of hs (drop 1 lists)

-- each row of a list has room
pub record AreReserved (heads : Vec Head Global) (positions : Lists) (room : ℕ) : Type 0 where
  pub few : room < 2 ^ 30
  pub one : 1 ≤ positions.most
  pub lists : length positions.lists ≡ room
  pub within : length heads.items ≤ room
  pub capacity : room ≤ vec_capacity heads
