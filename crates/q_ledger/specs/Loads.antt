-- Rows that wait, as they lie in a map: what is left of the last load of each message, in order of loading.
use Rattle.std.specs.List.{flat_map, list_all}
use Rattle.std.specs.Prelude.{◌&&◌, Bool, length, List, map, not, sum_by, Vec, ℕ}
use Rattle.q_model.specs.declared.id.Id.{Id}
use Rattle.q_model.specs.declared.rows.Row.{Row}
use Rattle.q_model.specs.Ids.{are_distinct, id_eq}
use Rattle.q_model.specs.Lists.{has_none}

-- the rows of all loads
abbrev pub rows_of_loads : {A : Type 0} → List (Id × Vec Row A) → List Row
rows_of_loads loads = flat_map (λ load. load.1.items) loads

-- something is left of the load, and each row is of its message
abbrev pub is_load : {A : Type 0} → Id × Vec Row A → Bool
is_load load = not (has_none load.1.items) && list_all (λ r. id_eq r.id load.0) load.1.items

-- no message has two loads
abbrev pub are_loads : {A : Type 0} → List (Id × Vec Row A) → Bool
are_loads loads = list_all is_load loads && are_distinct (map (λ load. load.0) loads)

-- the recipients that stand in these rows
abbrev pub recipients_of : List Row → ℕ
recipients_of rows = sum_by (λ r. length r.positions) rows
