-- The names of areas in their order, and the files of messages in the five queues.
use Rattle.std.specs.Cmp.Lexicographic.{slice_cmp}
use Rattle.std.specs.List.Sorted.{IsStrictlySortedBy}
use Rattle.std.specs.Option.{option_map}
use Rattle.std.specs.Ordering.{nat_cmp, ordering_then}
use Rattle.std.specs.declared.cmp.Ordering.{Ordering}
use Rattle.std.specs.Prelude.{◌≡◌, ◌≢◌, ◌⊎◌, ◌++◌, [], ◌∷◌, Contains, find, IsSome, List, Option, ℕ}
use Rattle.q_model.specs.declared.id.Id.{Id}
use Rattle.q_model.specs.declared.rows.Place.{Place}
use Rattle.q_model.specs.declared.spot.Area.{Area}
use Rattle.q_model.specs.declared.spot.Area.TheVariants as areas
use Rattle.q_model.specs.Ids.{id_eq}
use Rattle.q_model.specs.IdTexts.{IsId}
use Rattle.q_model.specs.SpoolFiles.{area_of, file_at, Files, IsPlace, name_at}
use Rattle.q_host.specs.Files.{area_number}
use Rattle.q_restart.specs.declared.standing.Standing.{Standing}

-- all names of an area, in the order of their bytes
pub record AreAllNames {X : Type 0} (f : List ℕ → Option X) (names : List (List ℕ)) : Type 0 where
  pub sorted : IsStrictlySortedBy (slice_cmp nat_cmp) names
  pub there : (n : List ℕ) → Contains names n → IsSome (f n)
  pub all : (n : List ℕ) → IsSome (f n) → Contains names n

-- a file in this area has this name, and is the file of a message's id
pub record IsStandingAt (area : Area) (name : List ℕ) (s : Standing) : Type 0 where
  pub id : IsId s.id
  pub place : IsPlace s.place
  pub area_is : area_of s.place ≡ area
  pub name_is : name_at s.place s.id ≡ name

-- the order of the queues incoming, active, deferred, hold, corrupt, and in each that of the names
abbrev pub standing_cmp : Standing → Standing → Ordering
standing_cmp s t =
    ordering_then (nat_cmp (area_number (area_of s.place)) (area_number (area_of t.place)))
    (slice_cmp nat_cmp (name_at s.place s.id) (name_at t.place t.id))

-- a file of this id stands at this place
pub record HasStanding (f : Files) (s : Standing) : Type 0 where
  pub id : IsId s.id
  pub place : IsPlace s.place
  pub there : IsSome (file_at f s.place s.id)

-- all files of ids in the queues, in order
pub record IsWalk (f : Files) (walk : List Standing) : Type 0 where
  pub sorted : IsStrictlySortedBy standing_cmp walk
  pub there : (s : Standing) → Contains walk s → HasStanding f s
  pub all : (s : Standing) → HasStanding f s → Contains walk s

-- the first place at which a walk meets an id
abbrev pub standing_place : List Standing → Id → Option Place
standing_place walk id = option_map (λ s. s.place) (find (λ s. id_eq s.id id) walk)

-- each place has a due moment of 12 digits, where it has one
abbrev pub ArePlaces : List Standing → Type 0
ArePlaces walk = (s : Standing) → Contains walk s → IsPlace s.place

-- no file of a message has this name in the area
abbrev pub IsNoStanding : Area → List ℕ → Type 0
IsNoStanding area name = (s : Standing) → IsStandingAt area name s → ⊥

-- a place in a queue whose names are ids
abbrev pub IsPlain : Place → Type 0
IsPlain place = area_of place ≢ areas.Deferred

-- the files of messages among these names of an area, in their order
abbrev pub AreStandings : Area → List (List ℕ) → List Standing → Type 0
AreStandings area [] found = found ≡ []
AreStandings area (name ∷ names) found =
    ((s : Standing) × (rest : List Standing) × IsStandingAt area name s × (found ≡ s ∷ rest)
    × AreStandings area names rest)
    ⊎ (IsNoStanding area name × AreStandings area names found)

-- they are added to a walk
pub record AddsStandings (area : Area) (names : List (List ℕ)) (old new : List Standing)
    : Type 0 where
  pub found : List Standing
  pub are : AreStandings area names found
  pub added : new ≡ old ++ found

-- all files of messages in an area are added to a walk
pub record AddsArea (f : Files) (area : Area) (old new : List Standing) : Type 0 where
  pub names : List (List ℕ)
  pub listed : AreAllNames (f area) names
  pub adds : AddsStandings area names old new
