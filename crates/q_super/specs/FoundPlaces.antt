-- Where the files of ids were found from which an act takes.
use Rattle.std.specs.List.{Contains}
use Rattle.std.specs.Prelude.{◌≡◌, ◌⊎◌, false, List, None, Option, Some, true}
use Rattle.q_model.specs.declared.id.Id.{Id}
use Rattle.q_model.specs.declared.rows.Place.{Place}
use Rattle.q_model.specs.Book.{Book, message_of, stands_in}
use Rattle.q_restart.specs.Places.{IdMap, place_at}
use Rattle.q_super.specs.declared.acts.Act.{Act}
use Rattle.q_super.specs.declared.acts.Act.TheVariants as acts
use Rattle.q_super.specs.declared.standing.Standing.{Standing}
use Rattle.q_super.specs.Acts.{takes}
use Rattle.q_super.specs.Finding.{IsSource, standing}
use Rattle.q_super.specs.Moves.{stands_there}

-- one of these files stands there; None where none of them is of the id
abbrev pub IsPlaceAmong : List Standing → Id → Option Place → Type 0
IsPlaceAmong files id (Some place) = Contains files (standing id place)
IsPlaceAmong files id None = (place : Place) → Contains files (standing id place) → ⊥

-- the map has the places of these files
abbrev pub ArePlacesOf : List Standing → IdMap → Type 0
ArePlacesOf files places = (id : Id) → IsPlaceAmong files id (place_at places id)

-- the act takes from each place in the map
abbrev pub AreSourcePlaces : Act → IdMap → Type 0
AreSourcePlaces act places = (id : Id) (place : Place) → place_at places id ≡ Some place
    → IsSource act id place

-- there is nothing to do: no file stands where the act takes from, or it is none of a message
abbrev pub IsIdle : Act → Book → Id → Type 0
IsIdle act b id = (stands_in (takes act) b id ≡ false) ⊎ ((act ≡ acts.Expire) × (message_of b id ≡ None))

-- the files in the map stand there, and with every other id there is nothing to do
pub record Finds (act : Act) (b : Book) (places : IdMap) : Type 0 where
  pub there : (id : Id) (place : Place) → place_at places id ≡ Some place
      → stands_there b (standing id place) ≡ true
  pub idle : (id : Id) → place_at places id ≡ None → IsIdle act b id
