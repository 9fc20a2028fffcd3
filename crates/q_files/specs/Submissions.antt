-- A message that is submitted: it comes into incoming, with every recipient pending.
use Rattle.std.specs.Prelude.{◌≡◌, [], false, List, map, None, ℕ}
use Rattle.q_model.specs.declared.id.Id.{Id}
use Rattle.q_model.specs.declared.rows.Place.TheVariants as places
use Rattle.q_model.specs.declared.spot.Area.TheVariants as areas
use Rattle.q_model.specs.Book.{Book, stands}
use Rattle.q_model.specs.BookChanges.{add_message}
use Rattle.q_model.specs.IdTexts.{id_text, IsId}
use Rattle.q_model.specs.Message.{Message, new_recipient}
use Rattle.q_model.specs.QueueFile.{new_version}
use Rattle.q_model.specs.SpoolFiles.{Files}
use Rattle.q_model.specs.Values.{Head, Receiver}

-- the message as it arrives
abbrev pub submitted : Id → Head → List Receiver → List ℕ → Message
submitted id head to content = record {
  id = id;
  version = new_version;
  sender = head.sender;
  arrival = head.arrival;
  content = content;
  recipients = map new_recipient to;
  failures = [];
  place = places.Incoming;
}

-- The book has the message more. Its id is new, and no failure log of this id is left in the files.
pub record AddsMessage (files : Files) (id : Id) (head : Head) (to : List Receiver)
    (content : List ℕ) (b k : Book) : Type 0 where
  pub form : IsId id
  pub fresh : stands b id ≡ false
  pub no_log : files areas.Bounce (id_text id) ≡ None
  pub changed : k ≡ add_message b (submitted id head to content)
