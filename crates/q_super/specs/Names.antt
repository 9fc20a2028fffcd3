-- The files of messages by their names, and what a walk over an area found.
use Rattle.std.specs.List.{AllByRecursion, Contains}
use Rattle.std.specs.List.Sorted.{IsStrictlySortedBy}
use Rattle.std.specs.Prelude.{◌≡◌, ◌≢◌, ◌⊎◌, ◌++◌, ◌∷◌, [], Bool, false, List, true, ℕ}
use Rattle.q_model.specs.declared.rows.Place.{Place}
use Rattle.q_model.specs.declared.spot.Area.{Area}
use Rattle.q_model.specs.declared.spot.Area.TheVariants as areas
use Rattle.q_model.specs.IdTexts.{IsId}
use Rattle.q_model.specs.SpoolFiles.{area_of, Files, IsPlace}
use Rattle.q_super.specs.declared.acts.Act.{Act}
use Rattle.q_super.specs.declared.standing.Standing.{Standing}
use Rattle.q_super.specs.Acts.{takes_from}
use Rattle.q_super.specs.Finding.{IsSource}
use Rattle.q_super.specs.Moves.{is_file}
use Rattle.q_super.specs.Standings.{file_name, standing_cmp}

-- a file in the area may be this one
pub record IsOfArea (area : Area) (s : Standing) : Type 0 where
  pub form : IsId s.id
  pub place : IsPlace s.place
  pub inside : area_of s.place ≡ area

-- this is the file of the area with the name
pub record IsNameOf (area : Area) (name : List ℕ) (s : Standing) : Type 0 where
  pub form : IsId s.id
  pub place : IsPlace s.place
  pub inside : area_of s.place ≡ area
  pub says : file_name s ≡ name

-- a place in a queue whose names are ids
abbrev pub IsPlain : Place → Type 0
IsPlain place = area_of place ≢ areas.Deferred

-- no file of a message has the name there
abbrev pub IsNoName : Area → List ℕ → Type 0
IsNoName area name = (s : Standing) → IsNameOf area name s → ⊥

-- the file of the name was added, where it is a message's
abbrev pub AddsNamed : Area → List ℕ → List Standing → List Standing → Type 0
AddsNamed area name old new =
    ((s : Standing) × IsNameOf area name s × (new ≡ old ++ s ∷ []))
    ⊎ (IsNoName area name × (new ≡ old))

-- all files of messages in the area, in the order of their names
pub record AreAllOf (f : Files) (area : Area) (found : List Standing) : Type 0 where
  pub sorted : IsStrictlySortedBy standing_cmp found
  pub there : (s : Standing) → Contains found s → IsOfArea area s × (is_file f s ≡ true)
  pub all : (s : Standing) → IsOfArea area s → is_file f s ≡ true → Contains found s

-- the same of an area from which an act takes messages; else none
abbrev pub AreTakenIf : Bool → Files → Area → List Standing → Type 0
AreTakenIf true f area found = AreAllOf f area found
AreTakenIf false f area found = found ≡ []

-- they were added to those that were found before
pub record AddsTaken (f : Files) (act : Act) (area : Area) (old new : List Standing) : Type 0 where
  pub found : List Standing
  pub are : AreTakenIf (takes_from act area) f area found
  pub added : new ≡ old ++ found

-- files from which the act may take
abbrev pub AreSources : Act → List Standing → Type 0
AreSources act found = AllByRecursion (λ s. IsSource act s.id s.place) found
