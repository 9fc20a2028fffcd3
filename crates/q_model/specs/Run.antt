-- Whole runs: what a list of items leads to.
use Rattle.std.specs.Prelude.{◌+◌, ◌++◌, [], ◌^◌, Bool, false, if◌then◌else◌, List, max, None, Some, suc, true, zero, ℕ, ◌∷◌}
use Rattle.q_model.specs.declared.entry.Entry.{Entry}
use Rattle.q_model.specs.declared.event.Event.{Event}
use Rattle.q_model.specs.declared.event.LifeEvent.{LifeEvent}
use Rattle.q_model.specs.declared.event.LifeEvent.TheVariants.{Begin, Finish, Heard}
use Rattle.q_model.specs.declared.event.Mode.{Mode}
use Rattle.q_model.specs.Arrivals.{next_id}
use Rattle.q_model.specs.Book.{Book}
use Rattle.q_model.specs.Ledger.{Ledger, opening}
use Rattle.q_model.specs.Next.{next}
use Rattle.q_model.specs.Settings.{World}
use Rattle.q_model.specs.Step.{after, after_all}
use Rattle.q_model.specs.declared.entry.Entry.TheVariants as entries
use Rattle.q_model.specs.declared.event.Event.TheVariants as events

-- the entry of an event; the clock keeps the latest moment
abbrev pub event_entry : Ledger → Event → Entry
event_entry l (events.At t) = entries.At (max l.now t)
event_entry l (events.Mail sender to content) = entries.Arrive (next_id l) sender to content
event_entry l (events.Reply number state outcomes) = entries.Reply number state outcomes
event_entry l (events.Trigger kind) = entries.Trigger kind

-- the entry of an item
abbrev pub entry_of : Ledger → LifeEvent → Entry
entry_of l Begin = entries.Life (l.book.generation + 1) l.mode
entry_of l (Heard event) = event_entry l event
entry_of l Finish = entries.End

-- at most n decisions, up to the first after which there is none
unfoldable pub decide : ℕ → World → Ledger → List Entry
decide zero w l = []
decide (suc n) w l = elim (next w l) [ None ↦ [] | Some e ↦ e ∷ decide n w (after w l e) ]

-- the decisions that follow an event, at most 2^60
unfoldable pub decisions : World → Ledger → List Entry
decisions w l = decide (2 ^ 60) w l

-- decisions follow the item
abbrev pub goes_on : LifeEvent → Bool
goes_on Begin = true
goes_on (Heard event) = true
goes_on Finish = false

-- the entries of an item: its own, and its decisions
unfoldable pub turn : World → Ledger → LifeEvent → List Entry
turn w l item = entry_of l item ∷ (if goes_on item then decisions w (after w l (entry_of l item)) else [])

-- the entries of a list of items
unfoldable pub run : World → Ledger → List LifeEvent → List Entry
run w l [] = []
run w l (item ∷ items) = let es = turn w l item in es ++ run w (after_all w l es) items

-- the run of the items of a call on a book
unfoldable pub run_of : World → Mode → Book → List LifeEvent → List Entry
run_of w mode book items = run w (opening mode book) (Begin ∷ items)
