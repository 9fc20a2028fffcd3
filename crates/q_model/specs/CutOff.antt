-- The book where an entry was cut off before the disk was sure of it.
use Rattle.std.specs.Prelude.{[], false, List, ◌∷◌}
use Rattle.q_model.specs.declared.entry.Entry.{Entry}
use Rattle.q_model.specs.Book.{Book}
use Rattle.q_model.specs.BookChanges.{change_message}
use Rattle.q_model.specs.Message.{Logged, Message}
use Rattle.q_model.specs.declared.entry.Entry.TheVariants as entries

-- the last failure of a log may be gone after a crash
abbrev pub unsure_last : List Logged → List Logged
unsure_last [] = []
unsure_last (f ∷ []) = record f { firm = false } ∷ []
unsure_last (f ∷ g ∷ fs) = f ∷ unsure_last (g ∷ fs)

-- the message with its last failure so
abbrev pub loosened : Message → Message
loosened m = record m { failures = unsure_last m.failures }

-- The book after the entry, where that was cut off: of a `log` the failure may still be gone. Any other
-- entry is on disk or isn't.
abbrev pub cut_off : Entry → Book → Book
cut_off (entries.Log id failure) b = change_message b id loosened
cut_off _ b = b
