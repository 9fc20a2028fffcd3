-- Where in a queue file the mark of a recipient stands that isn't marked yet.
use Rattle.std.specs.Option.{option_map_or}
use Rattle.std.specs.Prelude.{◌≡◌, if◌then◌else◌, IfSome, List, None, Option, slice_get, Some, ℕ}
use Rattle.q_model.specs.declared.id.Id.{Id}
use Rattle.q_model.specs.Book.{Book}
use Rattle.q_model.specs.FilesStand.{file_message, Stands}
use Rattle.q_model.specs.Message.{Message}
use Rattle.q_model.specs.QueueFile.{FileMessage, queue_file}
use Rattle.q_model.specs.QueueFileBytes.{mark_at}
use Rattle.q_model.specs.SpoolFiles.{Files}
use Rattle.q_model.specs.Values.{Spot}
use Rattle.q_books.specs.Spots.{IsFileAt}

-- the offset of the recipient's mark byte; None where the mark is set, and where there is no such
-- recipient
abbrev pub mark_place : FileMessage → ℕ → Option ℕ
mark_place m position =
    option_map_or (λ r. if r.marked then None else Some (mark_at m position))
    (slice_get m.recipients position) None

-- this is found in the message whose file the bytes are
abbrev pub IsMarkPlace : ℕ → Option ℕ → List ℕ → Type 0
IsMarkPlace position found bytes = IfSome (queue_file bytes) (λ m. found ≡ mark_place m position)

-- the same, of each message of a book for which the files stand, whose file stands at the spot
abbrev pub FindsMark : Files → Spot → ℕ → Option ℕ → Type 0
FindsMark files spot position found = (b : Book) (id : Id) (m : Message) → Stands files b
    → IsFileAt b id m spot → found ≡ mark_place (file_message m) position
