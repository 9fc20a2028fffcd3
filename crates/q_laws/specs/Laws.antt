-- Of which ledgers the laws speak.
use Rattle.std.specs.Prelude.{◌+◌, ◌++◌, ◌≡◌, Bool, List, true, ◌∷◌, ℕ}
use Rattle.q_laws.specs.SitesConsistency.{IsOpen}
use Rattle.q_laws.specs.Consistency.{IsConsistent, IsUsable}
use Rattle.q_laws.specs.Traces.{AreAllowed, IsEntryOf}
use Rattle.q_model.specs.declared.entry.Entry.{Entry}
use Rattle.q_model.specs.declared.event.LifeEvent.{LifeEvent}
use Rattle.q_model.specs.declared.event.Mode.{Mode}
use Rattle.q_model.specs.Book.{Book, all_ids}
use Rattle.q_model.specs.Ids.{are_distinct}
use Rattle.q_model.specs.Ledger.{Ledger, opening}
use Rattle.q_model.specs.Run.{run, run_of}
use Rattle.q_model.specs.Settings.{World}
use Rattle.q_model.specs.Step.{after, after_all}
use Rattle.q_model.specs.declared.entry.Entry.TheVariants as entries
use Rattle.q_model.specs.declared.event.LifeEvent.TheVariants as life_events

-- the ledger of a life that has just begun on a book
abbrev pub opened_ledger : World → Mode → Book → Ledger
opened_ledger w mode book = after w (opening mode book) (entries.Life (book.generation + 1) mode)

-- the ledger of the life that follows
abbrev pub next_life : World → Ledger → Ledger
next_life w l = after w l (entries.Life (l.book.generation + 1) l.mode)

-- so it is of each book that passes, whose ids are distinct, by each usable world
abbrev pub OnBooks : (Book → Bool) → (World → Mode → Book → Type 0) → Type 0
OnBooks fits says = (w : World) → (mode : Mode) → (book : Book) → IsUsable w
    → are_distinct (all_ids book) ≡ true → fits book ≡ true → says w mode book

-- so it is of each life's first entry, whatever the ledger was before
abbrev pub OfBeginnings : (World → Ledger → Type 0) → Type 0
OfBeginnings says = (w : World) → (l : Ledger) → (generation : ℕ) → (mode : Mode) → IsOpen w
    → says w (after w l (entries.Life generation mode))

-- so it is of each consistent ledger
abbrev pub OfConsistent : (World → Ledger → Type 0) → Type 0
OfConsistent says = (w : World) → (l : Ledger) → IsConsistent w l → says w l

-- so it is of each entry that a consistent ledger may have
abbrev pub OfEntries : (World → Ledger → Entry → Type 0) → Type 0
OfEntries says = (w : World) → (l : Ledger) → (e : Entry) → IsConsistent w l → IsEntryOf w l e
    → says w l e

-- so it is of the ledger after each entry of a run whose own entries are allowed
abbrev pub AlongRun : World → Ledger → (World → Ledger → Type 0) → Type 0
AlongRun w l says = (list : List LifeEvent) → AreAllowed w l list → (es : List Entry)
    → (fs : List Entry) → run w l list ≡ es ++ fs → says w (after_all w l es)

-- the same of a life's run on a book
abbrev pub AlongLife : World → Mode → Book → (World → Ledger → Type 0) → Type 0
AlongLife w mode book says = (list : List LifeEvent)
    → AreAllowed w (opening mode book) (life_events.Begin ∷ list) → (es : List Entry)
    → (fs : List Entry) → run_of w mode book list ≡ es ++ fs
    → says w (after_all w (opening mode book) es)
