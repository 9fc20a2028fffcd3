-- The names that message files have in queues.
use Rattle.std.specs.Prelude.{◌≡◌, List, ℕ}
use Rattle.q_model.specs.declared.id.Id.{Id}
use Rattle.q_model.specs.declared.rows.Place.{Place}
use Rattle.q_model.specs.declared.spot.Area.{Area}
use Rattle.q_model.specs.IdTexts.{IsId}
use Rattle.q_model.specs.SpoolFiles.{area_of, IsPlace, name_at}

-- the name of a message's file in this queue
pub record IsFileName (area : Area) (name : List ℕ) : Type 0 where
  pub id : Id
  pub place : Place
  pub is_id : IsId id
  pub is_place : IsPlace place
  pub area_is : area_of place ≡ area
  pub name_is : name_at place id ≡ name

-- no message's file has this name in this queue
abbrev pub IsNoFileName : Area → List ℕ → Type 0
IsNoFileName area name = IsFileName area name → ⊥
