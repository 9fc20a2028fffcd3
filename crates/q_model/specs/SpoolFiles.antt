-- The files of a spool, and the area and the name of a message's file.
use Rattle.std.specs.Option.{option_map_or}
use Rattle.std.specs.Prelude.{◌^◌, [], List, Option, ℕ, ◌<◌}
use Rattle.q_model.specs.declared.id.Id.{Id}
use Rattle.q_model.specs.declared.outcome.Failure.{Failure}
use Rattle.q_model.specs.declared.rows.Place.{Place}
use Rattle.q_model.specs.declared.spot.Area.{Area}
use Rattle.q_model.specs.FailureLog.{log_records}
use Rattle.q_model.specs.IdTexts.{due_text, id_text}
use Rattle.q_model.specs.declared.rows.Place.TheVariants as places
use Rattle.q_model.specs.declared.spot.Area.TheVariants as areas

-- for each area and name the bytes of the file that stands there
abbrev pub Files : Type 0
Files = Area → List ℕ → Option (List ℕ)

-- the area of a place
abbrev pub area_of : Place → Area
area_of places.Incoming = areas.Incoming
area_of places.Active = areas.Active
area_of (places.Deferred due) = areas.Deferred
area_of places.Hold = areas.Hold
area_of places.Corrupt = areas.Corrupt

-- the name of an id's file at a place
abbrev pub name_at : Place → Id → List ℕ
name_at places.Incoming id = id_text id
name_at places.Active id = id_text id
name_at (places.Deferred due) id = due_text due id
name_at places.Hold id = id_text id
name_at places.Corrupt id = id_text id

-- a place that a name can say: a due time has 12 digits
abbrev pub IsPlace : Place → Type 0
IsPlace places.Incoming = Unit {0}
IsPlace places.Active = Unit {0}
IsPlace (places.Deferred due) = due < 10 ^ 12
IsPlace places.Hold = Unit {0}
IsPlace places.Corrupt = Unit {0}

-- the file of an id at a place
abbrev pub file_at : Files → Place → Id → Option (List ℕ)
file_at f place id = f (area_of place) (name_at place id)

-- the records of the failure log of an id; without a log there are none
abbrev pub logged_in : Files → Id → List Failure
logged_in f id = option_map_or log_records (f areas.Bounce (id_text id)) []
