-- The places of ids in a map.
use Rattle.std.specs.BTreeMap.{BTreeMap, get}
use Rattle.std.specs.Ordering.{bool_cmp, nat_cmp, ordering_then}
use Rattle.std.specs.declared.cmp.Ordering.{Ordering}
use Rattle.std.specs.Prelude.{◌≡◌, Bool, is_some, List, None, Option}
use Rattle.q_model.specs.declared.id.Id.{Id}
use Rattle.q_model.specs.declared.rows.Place.{Place}
use Rattle.q_restart.specs.declared.standing.Standing.{Standing}
use Rattle.q_restart.specs.Walks.{standing_place}

-- the order of ids
abbrev pub id_cmp : Id → Id → Ordering
id_cmp a b = ordering_then (nat_cmp a.generation b.generation)
    (ordering_then (nat_cmp a.serial b.serial) (bool_cmp a.bounce b.bounce))

abbrev pub IdMap : Type 0
IdMap = BTreeMap Id Place

-- the place of an id, where the map has one
abbrev pub place_at : IdMap → Id → Option Place
place_at places id = get id_cmp places id

-- an id has a place in the map
abbrev pub is_placed : IdMap → Id → Bool
is_placed places id = is_some (place_at places id)

-- the map has the places of a walk
abbrev pub ArePlacesOf : List Standing → IdMap → Type 0
ArePlacesOf walk places = (id : Id) → place_at places id ≡ standing_place walk id

-- where the walk meets no id twice
abbrev pub ArePlacesOfOnce : List Standing → Option Standing → IdMap → Type 0
ArePlacesOfOnce walk repeated places = repeated ≡ None → ArePlacesOf walk places
