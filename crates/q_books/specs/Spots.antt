-- The files of messages, the places to which they may move, and where their marks stand.
use Rattle.std.specs.Prelude.{◌<◌, ◌≡◌, false, length, Some, ℕ}
use Rattle.q_model.specs.declared.id.Id.{Id}
use Rattle.q_model.specs.declared.rows.Place.{Place}
use Rattle.q_model.specs.Book.{Book, message_of}
use Rattle.q_model.specs.FilesStand.{file_message}
use Rattle.q_model.specs.Message.{Message}
use Rattle.q_model.specs.QueueFileBytes.{mark_at}
use Rattle.q_model.specs.Places.{is_corrupt}
use Rattle.q_model.specs.SpoolFiles.{area_of, IsPlace, name_at}
use Rattle.q_model.specs.Values.{Spot}

-- where the file of an id stands at a place
abbrev pub spot_of : Place → Id → Spot
spot_of place id = record { area = area_of place; name = name_at place id }

-- the file of a message of the book stands at the spot
pub record IsFileAt (b : Book) (id : Id) (m : Message) (s : Spot) : Type 0 where
  pub found : message_of b id ≡ Some m
  pub spot : s ≡ spot_of m.place id

-- the spot is the id's at a place outside corrupt
pub record IsSpotAt (id : Id) (q : Place) (s : Spot) : Type 0 where
  pub place : IsPlace q
  pub sound : is_corrupt q ≡ false
  pub spot : s ≡ spot_of q id

-- the mark of this position stands at this offset of the message's file
pub record IsMarkAt (m : Message) (position at : ℕ) : Type 0 where
  pub here : position < length m.recipients
  pub offset : at ≡ mark_at (file_message m) position
