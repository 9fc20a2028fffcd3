-- A submission: one intake life, which takes one message.
use Rattle.std.specs.Prelude.{ℕ}
use Rattle.q_events.specs.declared.list_item.ListItem.TheVariants.{End, Restart, Step}
use Rattle.q_model.specs.Book.{Book}
use Rattle.q_model.specs.Ledger.{opening}
use Rattle.q_model.specs.Settings.{World}
use Rattle.q_model.specs.declared.event.Event.TheVariants as events
use Rattle.q_model.specs.declared.event.Mode.TheVariants.{Intake}
use Rattle.q_replay.specs.Listings.{bad, gives, Listing}
use Rattle.q_replay.specs.Reading.{read_items, TakenItems}
use Rattle.q_replay.specs.declared.letters.Letter.{Letter}

-- a life begins, its moment comes and then the message, and it ends
abbrev pub submission : ℕ → Letter → Listing
submission moment letter =
    gives Restart 0
    (gives (Step (events.At moment) 1) 1
    (gives (Step (events.Mail letter.sender letter.to letter.content) 2) 2
    (gives End 3 (bad 4))))

-- which of these are taken, where the spool stands for the book
abbrev pub submitted : World → Book → ℕ → Letter → TakenItems
submitted w b moment letter = read_items w (opening Intake b) (submission moment letter)
