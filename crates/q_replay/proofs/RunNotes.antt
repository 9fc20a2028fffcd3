-- The notes of runs: none at first, and then those of entry after entry.
use Rattle.std.proofs.Common.{◌∙◌, ◌++◌, false, List, [], ◌∷◌, is_some, sym, ap, subst}
use Rattle.q_model.specs.declared.entry.Entry.{Entry}
use Rattle.q_model.specs.declared.outcome.Note.{Note}
use Rattle.q_model.specs.declared.spot.Area.TheVariants as areas
use Rattle.q_model.specs.Book.{message_of}
use Rattle.q_model.specs.IdTexts.{id_text}
use Rattle.q_model.specs.Ledger.{Ledger}
use Rattle.q_model.specs.Settings.{World}
use Rattle.q_model.specs.SpoolFiles.{Files}
use Rattle.q_model.specs.Step.{after_all}
use Rattle.q_model.proofs.RunLaws.{after_all-append}
use Rattle.q_books.specs.Notes.{HasNotes, notes_after}
use Rattle.q_drain.proofs.Noting.{admitted_append, notes_append}
use Rattle.q_engine.specs.KeptNotes.{AddsAllNotes, AddsNotes, was_admitted}
use Rattle.q_replay.specs.RunEnds.{NotesStand}

-- one entry
pub adds_one : (w : World) (l : Ledger) (e : Entry) (f g : Files) → AddsNotes w l e f g → AddsAllNotes w l (e ∷ []) f g
unfolding after_all
adds_one w l e f g adds id was notes reads = adds id was notes reads

-- nobody was admitted by no entries
pub notes_none : (w : World) (l : Ledger) (f : Files) → NotesStand w l [] f
notes_none w l f id form was = absurd cc

-- entries more
pub notes_then : (w : World) (l : Ledger) (es fs : List Entry) (f g : Files) → NotesStand w l es f → AddsAllNotes w (after_all w l es) fs f g → NotesStand w l (es ++ fs) g
notes_then w l es fs f g stand adds id form was =
    let is = adds id (was_admitted es id) (notes_after w l es id []) (stand id) form (sym (admitted_append es fs id false) ∙ was) in (
      ap (λ (k : Ledger). is_some (message_of k.book id)) (after_all-append w l es fs) ∙ is.0,
      subst (λ (ns : List Note). HasNotes ns (g areas.Defer (id_text id))) (sym (notes_append w l es fs id [])) is.1,
    )
