-- The notice of a message: what is read for it, and how its message changes the book.
use Rattle.std.specs.Prelude.{◌≡◌, Bool, false, is_none, length, List, None, Some, take, ℕ}
use Rattle.q_model.specs.declared.id.Id.{Id}
use Rattle.q_model.specs.declared.outcome.Failure.{Failure}
use Rattle.q_model.specs.declared.spot.Area.TheVariants as areas
use Rattle.q_model.specs.Book.{Book, stands}
use Rattle.q_model.specs.BookChanges.{add_message}
use Rattle.q_model.specs.FailureLog.{failures_of}
use Rattle.q_model.specs.Ids.{bounce_of}
use Rattle.q_model.specs.IdTexts.{id_text, IsId}
use Rattle.q_model.specs.Message.{Message}
use Rattle.q_model.specs.Notices.{bounce_message, notice}
use Rattle.q_model.specs.QueueFile.{FileMessage}
use Rattle.q_model.specs.QueueFileBytes.{IsFileOf}
use Rattle.q_model.specs.SpoolFiles.{Files}
use Rattle.q_model.specs.Values.{Spot}
use Rattle.q_host.specs.View.{View}
use Rattle.q_logfile.specs.Flags.{AreFlags}
use Rattle.q_look.specs.Failures.{set_count}
use Rattle.q_books.specs.HostStands.{HostStands}
use Rattle.q_books.specs.Spots.{IsFileAt}

-- these flags and failures are those of so many recipients by these records, as many as flags are set
pub record AreKnown (n : ℕ) (records : List Failure) (flags : List Bool) (failures : List Failure)
    : Type 0 where
  pub set : AreFlags n records flags
  pub first : failures ≡ failures_of n records
  pub counted : set_count flags ≡ length failures

-- the front of the content of the message whose file these bytes are
abbrev pub IsContentFront : List ℕ → List ℕ → Type 0
IsContentFront front bytes = (m : FileMessage) → IsFileOf bytes m → front ≡ take 50000 m.content

-- The text is the notice of each message with this sender of a book for which the host stands, whose
-- file stands at the spot.
abbrev pub TellsNotice : View → Spot → Id → List ℕ → List ℕ → Type 0
TellsNotice v spot id sender text = (b : Book) (m : Message) → HostStands v b
    → IsFileAt b id m spot → m.sender ≡ Some sender → text ≡ notice m

-- The book has the bounce of the message more, whose file stands at the spot, and which has a sender. The
-- id of the bounce is new, and no failure log of it is left in the files.
pub record AddsBounce (files : Files) (spot : Spot) (id : Id) (arrival : ℕ) (b k : Book)
    : Type 0 where
  pub message : Message
  pub file : IsFileAt b id message spot
  pub asked : is_none message.sender ≡ false
  pub form : IsId (bounce_of id)
  pub fresh : stands b (bounce_of id) ≡ false
  pub no_log : files areas.Bounce (id_text (bounce_of id)) ≡ None
  pub changed : k ≡ add_message b (bounce_message arrival message)

-- no message of a book for which the host stands has its file there and a bounce to be made
abbrev pub IsNoBounce : View → Spot → Id → ℕ → Type 0
IsNoBounce v spot id arrival = (b k : Book) → HostStands v b → AddsBounce v.files spot id arrival b k → ⊥
