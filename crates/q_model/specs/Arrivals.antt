-- Entry `arrive`: a message comes into incoming.
use Rattle.std.specs.Prelude.{◌&&◌, ◌+◌, [], Bool, false, List, map, Option, ℕ}
use Rattle.q_model.specs.declared.id.Id.{Id}
use Rattle.q_model.specs.BookChanges.{add_message}
use Rattle.q_model.specs.Ids.{id_eq}
use Rattle.q_model.specs.Ledger.{Ledger}
use Rattle.q_model.specs.Message.{Message, new_recipient}
use Rattle.q_model.specs.Past.{arrivals}
use Rattle.q_model.specs.QueueFile.{new_version}
use Rattle.q_model.specs.Values.{Receiver}
use Rattle.q_model.specs.declared.rows.Place.TheVariants as places

-- the id of the next message
abbrev pub next_id : Ledger → Id
next_id l = record { generation = l.book.generation; serial = arrivals l + 1; bounce = false }

-- an `at` came, and the id is the next
abbrev pub may_arrive : Ledger → Id → Bool
may_arrive l id = l.timed && id_eq id (next_id l)

-- the message as it arrives
abbrev pub arrived : Ledger → Id → Option (List ℕ) → List Receiver → List ℕ → Message
arrived l id sender to content = record {
  id = id;
  version = new_version;
  sender = sender;
  arrival = l.now;
  content = content;
  recipients = map new_recipient to;
  failures = [];
  place = places.Incoming;
}

-- the message stands in incoming
abbrev pub after_arrive : Ledger → Id → Option (List ℕ) → List Receiver → List ℕ → Ledger
after_arrive l id sender to content = record l { book = add_message l.book (arrived l id sender to content) }
