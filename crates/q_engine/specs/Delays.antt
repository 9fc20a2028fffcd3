-- Who is put off, for the deferral logs.
use Rattle.std.specs.List.{cons_option}
use Rattle.std.specs.Prelude.{◌≡◌, ◌++◌, [], length, List, None, Option, replicate, Some, true, ℕ, ◌∷◌}
use Rattle.q_model.specs.declared.id.Id.{Id}
use Rattle.q_model.specs.declared.outcome.Note.{Note}
use Rattle.q_model.specs.declared.outcome.Outcome.{Outcome}
use Rattle.q_model.specs.declared.outcome.Outcome.TheVariants as outcomes
use Rattle.q_model.specs.declared.spot.Area.TheVariants as areas
use Rattle.q_model.specs.IdTexts.{id_text}
use Rattle.q_model.specs.Memory.{is_admitted}
use Rattle.q_model.specs.SpoolFiles.{Files}
use Rattle.q_books.specs.Notes.{delays_at, HasNotes}
use Rattle.q_core.specs.Agrees.{ForLedgers}
use Rattle.q_core.specs.declared.state.Core.{Core}

-- the note of an outcome that puts a recipient off
abbrev pub note_of : ℕ → Outcome → Option Note
note_of position outcomes.Ok = None
note_of position (outcomes.Never code) = None
note_of position (outcomes.Later code) = Some (record { position = position; code = code })

-- the notes of positions and their outcomes
abbrev pub notes_for : List ℕ → List Outcome → List Note
notes_for [] os = []
notes_for (p ∷ ps) [] = []
notes_for (p ∷ ps) (o ∷ os) = cons_option (note_of p o) (notes_for ps os)

-- the notes of a row that is put off without a reply
abbrev pub row_note : ℕ → Note
row_note position = record { position = position; code = 0 }

-- The log of the message has the notes of these outcomes more, by each ledger with which the core
-- agrees.
abbrev pub AddsDelays : Core → Id → List ℕ → List Outcome → Files → Files → Type 0
AddsDelays c id positions os f g = ForLedgers c (λ w l. is_admitted l id ≡ true → (notes : List Note)
    → HasNotes notes (f areas.Defer (id_text id))
    → HasNotes (notes ++ delays_at w l id positions os) (g areas.Defer (id_text id)))

-- the outcomes of a row that is put off without a reply
abbrev pub row_outcomes : List ℕ → List Outcome
row_outcomes positions = replicate (length positions) (outcomes.Later 0)
