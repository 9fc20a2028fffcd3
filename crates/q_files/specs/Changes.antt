-- How each call changes the book: the change, and where in the spool the message's file stands.
use Rattle.std.specs.Prelude.{◌<◌, ◌≡◌, false, length, Some, true, ℕ}
use Rattle.q_model.specs.declared.id.Id.{Id}
use Rattle.q_model.specs.declared.outcome.Failure.{Failure}
use Rattle.q_model.specs.declared.rows.Place.{Place}
use Rattle.q_model.specs.declared.rows.Place.TheVariants as places
use Rattle.q_model.specs.Book.{Book, Damaged, damaged_of, message_of}
use Rattle.q_model.specs.BookChanges.{change_message, move_damaged, move_message, remove_message}
use Rattle.q_model.specs.Logs.{with_failure}
use Rattle.q_model.specs.Marking.{with_mark}
use Rattle.q_model.specs.Message.{is_logged, Message}
use Rattle.q_model.specs.Orderly.{has_firm_failures}
use Rattle.q_model.specs.Syncs.{sync_all}
use Rattle.q_model.specs.Values.{Spot}
use Rattle.q_books.specs.Spots.{IsFileAt, IsMarkAt, IsSpotAt, spot_of}

-- the message whose file stands at the one spot moved to the other
pub record MovesMessage (from to : Spot) (b k : Book) : Type 0 where
  pub id : Id
  pub message : Message
  pub place : Place
  pub file : IsFileAt b id message from
  pub goal : IsSpotAt id place to
  pub changed : k ≡ move_message b id place

-- the damaged file that stands at the one spot moved to the other, which is its own in corrupt
pub record PutsAside (from to : Spot) (b k : Book) : Type 0 where
  pub id : Id
  pub damaged : Damaged
  pub found : damaged_of b id ≡ Some damaged
  pub file : from ≡ spot_of damaged.place id
  pub goal : to ≡ spot_of places.Corrupt id
  pub changed : k ≡ move_damaged b id places.Corrupt

-- the recipient whose mark has this offset in the file was marked
pub record MarksRecipient (spot : Spot) (at : ℕ) (b k : Book) : Type 0 where
  pub id : Id
  pub message : Message
  pub position : ℕ
  pub file : IsFileAt b id message spot
  pub mark : IsMarkAt message position at
  pub changed : k ≡ change_message b id (with_mark position)

-- every mark of the message was made sure
pub record SyncsMarks (spot : Spot) (b k : Book) : Type 0 where
  pub id : Id
  pub message : Message
  pub file : IsFileAt b id message spot
  pub changed : k ≡ change_message b id sync_all

-- A pending recipient of the message failed. No failure before it may be lost by a crash.
pub record AddsFailure (id : Id) (failure : Failure) (b k : Book) : Type 0 where
  pub message : Message
  pub found : message_of b id ≡ Some message
  pub here : failure.position < length message.recipients
  pub fresh : is_logged message failure.position ≡ false
  pub firm : has_firm_failures message ≡ true
  pub changed : k ≡ change_message b id (with_failure failure)

-- the message is gone
pub record RemovesMessage (spot : Spot) (id : Id) (b k : Book) : Type 0 where
  pub message : Message
  pub file : IsFileAt b id message spot
  pub changed : k ≡ remove_message b id
