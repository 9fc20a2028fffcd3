-- What a recount holds as an entry that touches no row changes it.
use Rattle.std.specs.Option.{option_map_or}
use Rattle.std.specs.Prelude.{◌++◌, ◌∷◌, [], filter, if◌then◌else◌, length, List, map, None, not, Option, option_and_then, replicate, Some, ℕ}
use Rattle.q_bare.specs.Bare.{bare_recipient}
use Rattle.q_ledger.specs.Beside.{recipients_in}
use Rattle.q_ledger.specs.Slots.{row_of_slot}
use Rattle.q_ledger.specs.State.{State}
use Rattle.q_ledger.specs.declared.admitted.Slot.{Slot}
use Rattle.q_model.specs.Book.{Book, ids_at, message_of}
use Rattle.q_model.specs.BookChanges.{add_message, move_message, remove_message}
use Rattle.q_model.specs.Ids.{bounce_of, id_eq}
use Rattle.q_model.specs.Ledger.{Ledger, opening}
use Rattle.q_model.specs.Message.{Message, new_recipient, Recipient}
use Rattle.q_model.specs.Places.{is_active}
use Rattle.q_model.specs.QueueFile.{new_version}
use Rattle.q_model.specs.Settings.{World}
use Rattle.q_model.specs.Values.{Receiver}
use Rattle.q_model.specs.declared.event.Mode.{Mode}
use Rattle.q_model.specs.declared.id.Id.{Id}
use Rattle.q_model.specs.declared.rows.DeferredName.{DeferredName}
use Rattle.q_model.specs.declared.rows.Mark.TheVariants as marks
use Rattle.q_model.specs.declared.rows.Place.{Place}
use Rattle.q_model.specs.declared.rows.Place.TheVariants as places
use Rattle.q_model.specs.declared.rows.Scan.{Scan}

-- another ledger
abbrev pub with_ledger : State → Ledger → State
with_ledger s l = record s { ledger = l }

-- another book
abbrev pub with_book : State → Book → State
with_book s b = with_ledger s (record s.ledger { book = b })

-- nothing is known but the book of this generation
abbrev pub reopened : ℕ → Mode → State → Ledger
reopened generation mode s = opening mode (record s.ledger.book { generation = generation })

-- a life has begun: each transport has a line, and messages in active are left
abbrev pub begun : World → ℕ → Mode → State → State
begun w generation mode s = record {
  ledger = record (reopened generation mode s) { lines = replicate (length w.table.transports) [] };
  slots = [];
  leftovers = ids_at is_active s.ledger.book;
  left = None;
}

-- the message stands at the place, where it is that of the id
abbrev pub stood_at : Id → Place → Message → Message
stood_at id place m = if id_eq m.id id then record m { place = place } else m

-- the message of the id stands at the place
abbrev pub moved : Id → Place → State → State
moved id place s = with_book s (move_message s.ledger.book id place)

-- what is kept of the others
abbrev pub slots_without : Id → List Slot → List Slot
slots_without id slots = filter (λ s. not (id_eq s.id id)) slots

-- the message isn't in memory any more
abbrev pub forgotten : Id → State → State
forgotten id s = record s {
  ledger = record s.ledger { admitted = map row_of_slot (slots_without id s.slots) };
  slots = slots_without id s.slots;
}

-- the other ids
abbrev pub ids_without : Id → List Id → List Id
ids_without id ids = filter (λ x. not (id_eq x id)) ids

-- the message isn't in active any more
abbrev pub not_left : Id → State → State
not_left id s = record s { leftovers = ids_without id s.leftovers }

-- the message is gone
abbrev pub removed : Id → State → State
removed id s = with_book s (remove_message s.ledger.book id)

-- a recipient of which nothing was delivered yet
abbrev pub fresh_recipient : Receiver → Recipient
fresh_recipient r = bare_recipient (new_recipient r)

-- what is kept of a message that comes into memory
abbrev pub new_slot : Ledger → Id → Slot
new_slot l id = record { id = id; unread = 0; recipients = recipients_in l id; rows = 0 }

-- the message is in memory, all of it unread
abbrev pub entered : Id → State → State
entered id s = record s {
  ledger = record s.ledger { admitted = map row_of_slot (s.slots ++ new_slot s.ledger id ∷ []) };
  slots = s.slots ++ new_slot s.ledger id ∷ [];
}

-- the bounce of a message with this id and this sender, without content
abbrev pub bounce_to : ℕ → Id → List ℕ → Message
bounce_to now id sender = record {
  id = bounce_of id;
  version = new_version;
  sender = None;
  arrival = now;
  content = [];
  recipients = record { address = sender; original = None; mark = marks.Unmarked } ∷ [];
  failures = [];
  place = places.Incoming;
}

-- the sender of the message of the id
abbrev pub sender_of : Ledger → Id → Option (List ℕ)
sender_of l id = option_and_then (λ m. m.sender) (message_of l.book id)

-- the bounce stands, where the message has a sender
abbrev pub bounced : Id → State → State
bounced id s = option_map_or (λ sender. with_book s (add_message s.ledger.book (bounce_to s.ledger.now id sender))) (sender_of s.ledger id) s

-- the message as it arrives, without content and original addresses
abbrev pub arrived_at : ℕ → Id → Option (List ℕ) → List Receiver → Message
arrived_at now id sender to = record {
  id = id;
  version = new_version;
  sender = sender;
  arrival = now;
  content = [];
  recipients = map fresh_recipient to;
  failures = [];
  place = places.Incoming;
}

-- the message has arrived
abbrev pub arrived_in : Id → Option (List ℕ) → List Receiver → State → State
arrived_in id sender to s = with_book s (add_message s.ledger.book (arrived_at s.ledger.now id sender to))

-- the scan has come to the name
abbrev pub come_to : DeferredName → Scan → Scan
come_to name s = record s { place = Some name }
