-- A generated load: its events, their run on an empty spool, and what is counted of it.
use Rattle.std.specs.Prelude.{◌-◌, ◌≡◌, ◌^◌, [], length, List, map, min, None, Some, ℕ, ◌∷◌}
use Rattle.q_engine.specs.Stands.{preempts}
use Rattle.q_laws.specs.Laws.{opened_ledger}
use Rattle.q_load.specs.Due.{due}
use Rattle.q_load.specs.Mails.{all_recipients}
use Rattle.q_load.specs.declared.summary.Summary.{Summary}
use Rattle.q_model.specs.Book.{empty_book}
use Rattle.q_model.specs.Ledger.{Ledger}
use Rattle.q_model.specs.Past.{starts}
use Rattle.q_model.specs.Run.{run, turn}
use Rattle.q_model.specs.Settings.{defaults, World}
use Rattle.q_model.specs.Step.{after_all}
use Rattle.q_model.specs.declared.event.Event.{Event}
use Rattle.q_model.specs.declared.event.Event.TheVariants as events
use Rattle.q_model.specs.declared.event.LifeEvent.TheVariants.{Heard}
use Rattle.q_model.specs.declared.event.Mode.TheVariants.{Deliver}
use Rattle.q_transport.specs.Contents.{empty_contents}
use Rattle.q_transport.specs.Routing.{table_of}

-- the parameters are the defaults, and the table has no lines
abbrev pub load_world : World
load_world = record { settings = defaults; table = table_of empty_contents }

-- the life has begun on an empty spool
abbrev pub begun : Ledger
begun = opened_ledger load_world Deliver empty_book

-- the ledger behind the turn of an event
abbrev pub behind : Ledger → Event → Ledger
behind l e = after_all load_world l (turn load_world l (Heard e))

-- Each of these events is the one that is due by those before it and by what their run leaves, and
-- behind the last none is due.
abbrev pub AreDue : ℕ → List Event → Ledger → List Event → Type 0
AreDue mails heard l [] = due mails heard l ≡ None
AreDue mails heard l (e ∷ es) =
    (due mails heard l ≡ Some e) × AreDue mails (e ∷ heard) (behind l e) es

-- the first event of a load
abbrev pub first : Event
first = events.At 1000

-- the events of a load of so many mails, behind the first
abbrev pub AreEvents : ℕ → List Event → Type 0
AreEvents mails es = AreDue mails [] (behind begun first) es

-- the ledger behind the run of the first event and these
abbrev pub ledger_of : List Event → Ledger
ledger_of es = after_all load_world begun (run load_world begun (map Heard (first ∷ es)))

-- What is counted where a life ends: of its entries those that begin a delivery and those by which a
-- job goes before another (up to 2^64 - 1), and the messages that stand in its book.
abbrev pub summary_at : ℕ → Ledger → Summary
summary_at mails l = record {
  messages = mails;
  recipients = all_recipients mails;
  starts = starts l;
  preempts = min (preempts l) (2 ^ 64 - 1);
  left = length l.book.messages;
}

-- the summary of a load of so many mails
pub record IsSummary (mails : ℕ) (s : Summary) : Type 0 where
  pub heard : List Event
  pub are : AreEvents mails heard
  pub counts : s ≡ summary_at mails (ledger_of heard)

-- no number of mails has two
abbrev pub HasOneSummary : Type 0
HasOneSummary = (mails : ℕ) → (s t : Summary) → IsSummary mails s → IsSummary mails t → s ≡ t
