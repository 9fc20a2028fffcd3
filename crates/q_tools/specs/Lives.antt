-- The life of a tool: it takes no mail.
use Rattle.std.specs.Prelude.{◌∷◌, [], Err, List, Ok, Result, ℕ}
use Rattle.q_events.specs.declared.list_item.ListItem.TheVariants.{End, Restart, Step}
use Rattle.q_host.specs.View.{View}
use Rattle.q_laws.specs.Traces.{AreAllowed}
use Rattle.q_model.specs.Book.{Book}
use Rattle.q_model.specs.Ledger.{opening}
use Rattle.q_model.specs.Settings.{World}
use Rattle.q_model.specs.Step.{after_all}
use Rattle.q_model.specs.Text.{text}
use Rattle.q_model.specs.declared.entry.Entry.{Entry}
use Rattle.q_model.specs.declared.event.Event.TheVariants as events
use Rattle.q_model.specs.declared.event.LifeEvent.{LifeEvent}
use Rattle.q_model.specs.declared.event.LifeEvent.TheVariants.{Begin, Finish, Heard}
use Rattle.q_model.specs.declared.event.Mode.TheVariants.{Intake}
use Rattle.q_replay.specs.Listings.{bad, gives, Listing}
use Rattle.q_replay.specs.Reading.{read_items, TakenItems}
use Rattle.q_replay.specs.RunEnds.{entries_on, IsTold, RunEnds}
use Rattle.q_replay.specs.declared.error.ReplayError.{ReplayError}

-- a life begins, its moment comes, and it ends
abbrev pub tool_items : ℕ → List LifeEvent
tool_items moment = Begin ∷ Heard (events.At moment) ∷ Finish ∷ []

-- its entries on a book, their lines, and the book that it leaves
abbrev pub tool_entries : World → Book → ℕ → List Entry
tool_entries w b moment = entries_on w Intake b (tool_items moment)

abbrev pub life_text : World → Book → ℕ → List ℕ
life_text w b moment = text w.table (tool_entries w b moment)

abbrev pub book_behind : World → Book → ℕ → Book
book_behind w b moment = (after_all w (opening Intake b) (tool_entries w b moment)).book

-- the same as an event list says it
abbrev pub tool_list : ℕ → Listing
tool_list moment = gives Restart 0 (gives (Step (events.At moment) 1) 1 (gives End 2 (bad 3)))

-- which of its items are taken, where the spool stands for the book
abbrev pub life_taken : World → Book → ℕ → TakenItems
life_taken w b moment = read_items w (opening Intake b) (tool_list moment)

-- The life came to its end.
pub record IsRun (w : World) (b : Book) (moment : ℕ) (u v : View) : Type 0 where
  pub fits : AreAllowed w (opening Intake b) (tool_items moment)
  pub told : IsTold w Intake b (tool_items moment) u v

-- it did, or was refused as a life is
abbrev pub LifeEnds : World → Book → ℕ → View → View → Result (Unit {0}) ReplayError → Type 0
LifeEnds w b moment u v (Ok done) = IsRun w b moment u v
LifeEnds w b moment u v (Err error) = RunEnds w Intake b (life_taken w b moment) u v (Err error)
