-- A failure is stored, a recipient is marked, marks are synced.
use Rattle.std.specs.List.{list_any}
use Rattle.std.specs.Prelude.{[], Bool, drop, if◌then◌else◌, List, map, ◌∷◌, ℕ}
use Rattle.q_ledger.specs.Counting.{count_changed, rows_counted}
use Rattle.q_ledger.specs.State.{State}
use Rattle.q_model.specs.BookChanges.{change_message}
use Rattle.q_model.specs.Ids.{id_eq}
use Rattle.q_model.specs.Logs.{first_logged, with_failure}
use Rattle.q_model.specs.Marking.{after_mark, marks_first}
use Rattle.q_model.specs.Marks.{sync_mark}
use Rattle.q_model.specs.Message.{Message, Recipient}
use Rattle.q_model.specs.Syncs.{sync_all}
use Rattle.q_model.specs.Book.{Book}
use Rattle.q_model.specs.declared.id.Id.{Id}
use Rattle.q_model.specs.declared.outcome.Failure.{Failure}
use Rattle.q_model.specs.declared.rows.Mark.TheVariants as marks

-- the first element that passes is changed
abbrev pub changed_first : {A : Type 0} → (A → Bool) → (A → A) → List A → List A
changed_first test change [] = []
changed_first test change (x ∷ xs) = if test x then change x ∷ xs else x ∷ changed_first test change xs

-- the first message of this id has one failure more
abbrev pub failure_added : Id → Failure → List Message → List Message
failure_added id f messages = changed_first (λ m. id_eq m.id id) (with_failure f) messages

-- a recipient whose mark is sure
abbrev pub synced_recipient : Recipient → Recipient
synced_recipient r = record r { mark = sync_mark r.mark }

-- a recipient whose mark a crash may lose
abbrev pub marked_recipient : Recipient → Recipient
marked_recipient r = record r { mark = marks.Written }

-- the message changed, where it is the one of this id
abbrev pub changed_of : Id → (Message → Message) → Message → Message
changed_of id change m = if id_eq m.id id then change m else m

-- the book with these messages
abbrev pub with_messages : List Message → Book → Book
with_messages messages b = record b { messages = messages }

-- the ledger with this book
abbrev pub with_book : Book → State → State
with_book b c = record c { ledger = record c.ledger { book = b } }

-- the failure is stored, and the first outcome needs its mark next
abbrev pub logged_in : State → Id → Failure → State
logged_in c id f = record c {
  ledger = record c.ledger {
    book = with_messages (failure_added id f c.ledger.book.messages) c.ledger.book;
    unsettled = first_logged c.ledger.unsettled;
  };
}

-- the first outcome is settled
abbrev pub without_first : State → State
without_first c = record c { ledger = record c.ledger { unsettled = drop 1 c.ledger.unsettled } }

-- the outcome that needs the mark is settled
abbrev pub settled_in : State → Id → ℕ → State
settled_in c id position =
    if marks_first c.ledger id position then rows_counted id 0 1 (without_first c) else c

-- the mark is written, and the outcome that needed it is settled
abbrev pub marked_in : State → Id → ℕ → State
marked_in c id position = record c {
  ledger = after_mark c.ledger id position;
  slots = if marks_first c.ledger id position then map (count_changed id 0 1) c.slots else c.slots;
}

-- a leftover counts as synced in this life
abbrev pub noted_in : State → Id → State
noted_in c id = record c {
  ledger = record c.ledger {
    synced = if list_any (id_eq id) c.leftovers then id ∷ c.ledger.synced else c.ledger.synced;
  };
}

-- the marks are synced; a leftover counts as synced in this life
abbrev pub synced_in : State → Id → State
synced_in c id = record c {
  ledger = record c.ledger {
    book = change_message c.ledger.book id sync_all;
    synced = if list_any (id_eq id) c.leftovers then id ∷ c.ledger.synced else c.ledger.synced;
  };
}
