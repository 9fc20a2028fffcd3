-- What is kept of places in queue files is true of the messages of the book.
use Rattle.std.specs.Prelude.{◌≡◌, ◌≤◌, length, List, None, Option, Some, ℕ}
use Rattle.q_model.specs.declared.id.Id.{Id}
use Rattle.q_model.specs.Book.{Book, message_of}
use Rattle.q_model.specs.FilesStand.{file_message}
use Rattle.q_model.specs.Message.{Message}
use Rattle.q_books.specs.Spots.{IsMarkAt}
use Rattle.q_message.specs.Pending.{cursor_at, HasCursor}
use Rattle.q_places.specs.Kept.{kept_file, kept_mark, kept_progress}
use Rattle.q_places.specs.declared.places.Places.{Places}
use Rattle.q_places.specs.declared.places.Progress.{Progress}
use Rattle.q_core.specs.declared.decision.Decision.{Decision}
use Rattle.q_core.specs.declared.decision.Decision.TheVariants as decisions
use Rattle.q_engine.specs.declared.engine.Engine.{Engine}

-- a message of this id stands in the book, and this holds of it
abbrev pub OfMessage : Book → Id → (Message → Type 0) → Type 0
OfMessage b id P = (m : Message) × (message_of b id ≡ Some m) × P m

-- the message has so many recipients, and was read up to one of them or to their end
pub record IsReadTo (p : Progress) (m : Message) : Type 0 where
  pub count : p.recipients ≡ length m.recipients
  pub place : p.next ≡ cursor_at (file_message m) p.next.position
  pub within : p.next.position ≤ length m.recipients

-- the same, of the bytes of a file
abbrev pub HasProgress : Progress → List ℕ → Type 0
HasProgress p bytes = HasCursor bytes p.recipients p.next

-- each message of which something is kept stands in the book, and it is true of that message
pub record ArePlaced (places : Places) (b : Book) : Type 0 where
  pub marks : (id : Id) (position at : ℕ) → kept_mark places id position ≡ Some at
      → OfMessage b id (λ m. IsMarkAt m position at)
  pub progress : (id : Id) (p : Progress) → kept_progress places id ≡ Some p
      → OfMessage b id (IsReadTo p)

-- the message that leaves memory by a decision
abbrev pub left_by : Decision → Option Id
left_by (decisions.Defer id due) = Some id
left_by (decisions.Remove id) = Some id
left_by (decisions.Corrupt id place) = Some id
left_by _ = None

-- nothing is kept of it
abbrev pub IsForgotten : Decision → Engine → Type 0
IsForgotten d engine = (id : Id) → left_by d ≡ Some id → kept_file engine.places id ≡ None
