-- Deferral logs read as notes, for each message that was admitted and is still there; no other log
-- changes.
use Rattle.std.specs.List.{list_any}
use Rattle.std.specs.Prelude.{◌≡◌, ◌&&◌, ◌||◌, ◌∷◌, [], Bool, false, is_some, List, not, true}
use Rattle.q_model.specs.declared.entry.Entry.{Entry}
use Rattle.q_model.specs.declared.entry.Entry.TheVariants as entries
use Rattle.q_model.specs.declared.id.Id.{Id}
use Rattle.q_model.specs.declared.outcome.Note.{Note}
use Rattle.q_model.specs.declared.spot.Area.TheVariants as areas
use Rattle.q_model.specs.Book.{Book, message_of}
use Rattle.q_model.specs.Ids.{id_eq}
use Rattle.q_model.specs.IdTexts.{id_text, IsId}
use Rattle.q_model.specs.Ledger.{Ledger}
use Rattle.q_model.specs.Memory.{is_admitted}
use Rattle.q_model.specs.Settings.{World}
use Rattle.q_model.specs.SpoolFiles.{Files}
use Rattle.q_model.specs.Step.{after, after_all}
use Rattle.q_books.specs.Notes.{HasNotes, next_notes, notes_after}

-- the message was admitted and not removed since, after the entry
abbrev pub next_admitted : Entry → Id → Bool → Bool
next_admitted (entries.Admit other) id was = id_eq other id || was
next_admitted (entries.Remove other) id was = not (id_eq other id) && was
next_admitted e id was = was

-- the same after entries one behind another
abbrev pub admitted_after : List Entry → Id → Bool → Bool
admitted_after [] id was = was
admitted_after (e ∷ es) id was = admitted_after es id (next_admitted e id was)

-- one of these entries admits the message, and none behind it removes it
abbrev pub was_admitted : List Entry → Id → Bool
was_admitted es id = admitted_after es id false

-- A message that was admitted and not removed since stands in the book, and its deferral log reads
-- as these notes.
abbrev pub ReadsAsNotes : Book → Bool → Id → List Note → Files → Type 0
ReadsAsNotes b was id notes f = IsId id → was ≡ true
    → (is_some (message_of b id) ≡ true) × HasNotes notes (f areas.Defer (id_text id))

-- the notes that an entry adds were stored
abbrev pub AddsNotes : World → Ledger → Entry → Files → Files → Type 0
AddsNotes w l e f g = (id : Id) → (was : Bool) → (notes : List Note)
    → ReadsAsNotes l.book was id notes f
    → ReadsAsNotes (after w l e).book (next_admitted e id was) id (next_notes w l e id notes) g

-- the same of entries one behind another
abbrev pub AddsAllNotes : World → Ledger → List Entry → Files → Files → Type 0
AddsAllNotes w l es f g = (id : Id) → (was : Bool) → (notes : List Note)
    → ReadsAsNotes l.book was id notes f
    → ReadsAsNotes (after_all w l es).book (admitted_after es id was) id
    (notes_after w l es id notes) g

-- the entry begins the message's log anew, or ends it
abbrev pub is_reset : Id → Entry → Bool
is_reset id (entries.Admit other) = id_eq other id
is_reset id (entries.Remove other) = id_eq other id
is_reset id e = false

-- the log of each message that isn't in memory is as before, unless these entries begin or end it
abbrev pub LeavesNotes : Ledger → List Entry → Files → Files → Type 0
LeavesNotes l es f g = (id : Id) → IsId id → is_admitted l id ≡ false
    → list_any (is_reset id) es ≡ false → g areas.Defer (id_text id) ≡ f areas.Defer (id_text id)

-- the entry's notes were stored, and each other log is as it was
pub record StoresNotes (w : World) (l : Ledger) (e : Entry) (f g : Files) : Type 0 where
  pub adds : AddsNotes w l e f g
  pub leaves : LeavesNotes l (e ∷ []) f g

-- the same of entries one behind another
pub record StoresAllNotes (w : World) (l : Ledger) (es : List Entry) (f g : Files) : Type 0 where
  pub adds : AddsAllNotes w l es f g
  pub leaves : LeavesNotes l es f g
