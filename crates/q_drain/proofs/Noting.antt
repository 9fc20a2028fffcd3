-- The notes of entries behind others.
use Rattle.std.proofs.Common.{◌≡◌, ◌∙◌, ◌++◌, Bool, List, [], ◌∷◌, is_some, refl, sym, ap, subst}
use Rattle.q_model.specs.declared.entry.Entry.{Entry}
use Rattle.q_model.specs.declared.id.Id.{Id}
use Rattle.q_model.specs.declared.outcome.Note.{Note}
use Rattle.q_model.specs.declared.spot.Area.TheVariants as areas
use Rattle.q_model.specs.Book.{message_of}
use Rattle.q_model.specs.IdTexts.{id_text}
use Rattle.q_model.specs.Ledger.{Ledger}
use Rattle.q_model.specs.Settings.{World}
use Rattle.q_model.specs.SpoolFiles.{Files}
use Rattle.q_model.specs.Step.{after, after_all}
use Rattle.q_model.proofs.RunLaws.{after_all-append}
use Rattle.q_books.specs.Notes.{HasNotes, next_notes, notes_after}
use Rattle.q_engine.specs.KeptNotes.{AddsAllNotes, admitted_after, next_admitted}

pub admitted_append : (es fs : List Entry) (id : Id) (was : Bool) → admitted_after (es ++ fs) id was ≡ admitted_after fs id (admitted_after es id was)
admitted_append [] fs id was = refl
admitted_append (e ∷ es) fs id was = admitted_append es fs id (next_admitted e id was)

pub notes_append : (w : World) (l : Ledger) (es fs : List Entry) (id : Id) (notes : List Note) → notes_after w l (es ++ fs) id notes ≡ notes_after w (after_all w l es) fs id (notes_after w l es id notes)
unfolding after_all
notes_append w l [] fs id notes = refl
notes_append w l (e ∷ es) fs id notes = notes_append w (after w l e) es fs id (next_notes w l e id notes)

-- those of the first were stored, and then those of the others
pub adds_then : (w : World) (l : Ledger) (es fs : List Entry) (f g h : Files) → AddsAllNotes w l es f g → AddsAllNotes w (after_all w l es) fs g h → AddsAllNotes w l (es ++ fs) f h
adds_then w l es fs f g h p q id was notes reads form so =
    let is = q id (admitted_after es id was) (notes_after w l es id notes) (p id was notes reads) form (sym (admitted_append es fs id was) ∙ so) in (
      ap (λ (k : Ledger). is_some (message_of k.book id)) (after_all-append w l es fs) ∙ is.0,
      subst (λ (ns : List Note). HasNotes ns (h areas.Defer (id_text id))) (sym (notes_append w l es fs id notes)) is.1,
    )
