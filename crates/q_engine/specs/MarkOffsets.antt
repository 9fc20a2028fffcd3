-- The offset of a mark in a queue file of the book.
use Rattle.std.specs.Prelude.{◌≡◌, true, ℕ}
use Rattle.q_model.specs.Marking.{is_unmarked_at}
use Rattle.q_model.specs.Book.{Book}
use Rattle.q_model.specs.Message.{Message}
use Rattle.q_model.specs.Values.{Spot}
use Rattle.q_model.specs.declared.id.Id.{Id}
use Rattle.q_host.specs.View.{View}
use Rattle.q_books.specs.HostStands.{HostStands}
use Rattle.q_books.specs.Spots.{IsFileAt, IsMarkAt}

-- of each message of a book for which the host stands, whose file stands at the spot
abbrev pub FindsOffset : View → Spot → ℕ → ℕ → Type 0
FindsOffset v spot position at = (b : Book) (id : Id) (m : Message) → HostStands v b
    → IsFileAt b id m spot → IsMarkAt m position at

-- it is the file of a message of such a book, and the recipient at the position has no mark
pub record HasBareMark (v : View) (spot : Spot) (position : ℕ) : Type 0 where
  pub book : Book
  pub id : Id
  pub message : Message
  pub host : HostStands v book
  pub file : IsFileAt book id message spot
  pub bare : is_unmarked_at message position ≡ true
