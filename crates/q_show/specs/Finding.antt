-- Where the file of an id stands, and what is found there.
use Rattle.std.specs.Prelude.{◌<◌, ◌^◌, ◌≡◌, Bool, false, if◌then◌else◌, is_some, List, None, Option, Some, true, ℕ}
use Rattle.q_books.specs.Spots.{spot_of}
use Rattle.q_host.specs.View.{View}
use Rattle.q_message.specs.FileHeads.{fault_at, IsHead}
use Rattle.q_message.specs.Told.{IsThere, TellsOf}
use Rattle.q_model.specs.declared.id.Id.{Id}
use Rattle.q_model.specs.declared.rows.Place.{Place}
use Rattle.q_model.specs.declared.rows.Place.TheVariants as places
use Rattle.q_model.specs.Book.{Book, Damaged, damaged_of, message_of}
use Rattle.q_model.specs.Message.{Message}
use Rattle.q_model.specs.Places.{due_of, is_corrupt}
use Rattle.q_model.specs.QueueFile.{queue_file}
use Rattle.q_model.specs.SpoolFiles.{file_at, Files, IsPlace}
use Rattle.q_show.specs.declared.finding.Damage.{Damage}
use Rattle.q_show.specs.declared.finding.Sought.{Sought}
use Rattle.q_show.specs.declared.finding.Sought.TheVariants as sought
use Rattle.q_walk.specs.declared.walk.Found.{Found}
use Rattle.q_walk.specs.Steps.{IsFileFound}
use Rattle.q_walk.specs.Walks.{IsFound}

-- a file of the id stands at the place
abbrev pub is_file : Files → Id → Place → Bool
is_file f id place = is_some (file_at f place id)

-- in deferred it is due from this moment on; None where none stands there
abbrev pub IsDueTime : Files → Id → Option ℕ → Type 0
IsDueTime f id (Some due) = is_file f id (places.Deferred due) ≡ true
IsDueTime f id None = (due : ℕ) → due < 10 ^ 12 → is_file f id (places.Deferred due) ≡ false

-- it stands there; None where it stands at no place but perhaps in deferred
abbrev pub IsNamedAt : Files → Id → Option Place → Type 0
IsNamedAt f id (Some place) = is_file f id place ≡ true
IsNamedAt f id None = (place : Place) → due_of place ≡ None → is_file f id place ≡ false

-- it stands there; None where it stands nowhere
abbrev pub IsFoundAt : Files → Id → Option Place → Type 0
IsFoundAt f id (Some place) = is_file f id place ≡ true
IsFoundAt f id None = (place : Place) → IsPlace place → is_file f id place ≡ false

-- ---- what stands at a place

-- where bytes break the form of a queue file, if they do
abbrev pub fault_of : List ℕ → Option ℕ
fault_of bytes = if is_some (queue_file bytes) then None else Some (fault_at bytes)

-- a file in corrupt, or one that is no queue file
pub record IsDamage (place : Place) (id : Id) (bytes : List ℕ) (d : Damage) : Type 0 where
  pub spot : d.spot ≡ spot_of place id
  pub same_place : d.place ≡ place
  pub same_id : d.id ≡ id
  pub fault : d.fault ≡ fault_of bytes
  pub unread : is_corrupt place ≡ false → queue_file bytes ≡ None

-- a queue file that was found; in corrupt it is no message
abbrev pub whole_file : Found → Sought
whole_file found = if is_corrupt found.place
    then sought.Damaged (record { spot = found.spot; place = found.place; id = found.id; fault = None })
    else sought.Message found

-- what is sought is the file of the place and id, which has these bytes
abbrev pub Says : Place → Id → List ℕ → Sought → Type 0
Says place id bytes (sought.Message found) =
    (is_corrupt place ≡ false) × IsFileFound place id bytes found
Says place id bytes (sought.Damaged damage) = IsDamage place id bytes damage
Says place id bytes sought.Nothing = ⊥

-- where the host tells its files, it stands there, and has the head or the fault that was read
abbrev pub StandsStill : Bool → View → Sought → Type 0
StandsStill tells v (sought.Message found) =
    IsThere tells v found.spot × TellsOf tells v found.spot (IsHead found.head)
StandsStill tells v (sought.Damaged damage) =
    IsThere tells v damage.spot × TellsOf tells v damage.spot (λ bytes. damage.fault ≡ fault_of bytes)
StandsStill tells v sought.Nothing = Unit {0}

-- ---- what stands in a book

-- it is the message of the id, or the damaged file, or there is neither
abbrev pub IsSought : Files → Book → Id → Sought → Type 0
IsSought f b id (sought.Message found) =
    (m : Message) × (message_of b id ≡ Some m) × IsFound f m found
IsSought f b id (sought.Damaged damage) = (message_of b id ≡ None)
    × (d : Damaged) × (bytes : List ℕ) × (damaged_of b id ≡ Some d)
    × (file_at f d.place d.id ≡ Some bytes) × IsDamage d.place d.id bytes damage
IsSought f b id sought.Nothing = (message_of b id ≡ None) × (damaged_of b id ≡ None)
