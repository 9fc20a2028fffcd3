-- Deferral logs: who was put off since the message came into memory. They are advice for the list
-- of queues (postqueue(1)): no crash keeps them, and no decision rests on them.
use Rattle.std.specs.List.{cons_option}
use Rattle.std.specs.Option.{option_map_or}
use Rattle.std.specs.Prelude.{◌≡◌, ◌++◌, ◌==◌, [], false, flat_map, if◌then◌else◌, length, List, None, Option, replicate, Some, ℕ, ◌∷◌}
use Rattle.q_model.specs.declared.entry.Entry.{Entry}
use Rattle.q_model.specs.declared.entry.Entry.TheVariants as entries
use Rattle.q_model.specs.declared.id.Id.{Id}
use Rattle.q_model.specs.declared.outcome.Note.{Note}
use Rattle.q_model.specs.declared.outcome.Outcome.{Outcome}
use Rattle.q_model.specs.declared.outcome.Outcome.TheVariants as outcomes
use Rattle.q_model.specs.Book.{message_of}
use Rattle.q_model.specs.Deliveries.{flight_of}
use Rattle.q_model.specs.FailureLog.{log_notes, note_bytes}
use Rattle.q_model.specs.Ids.{id_eq}
use Rattle.q_model.specs.Ledger.{Ledger}
use Rattle.q_model.specs.Message.{Message}
use Rattle.q_model.specs.Settings.{World}
use Rattle.q_model.specs.Step.{after}
use Rattle.q_model.specs.Times.{is_expired}

-- an outcome that puts a recipient off, unless the message is too old
abbrev pub delay_of : World → ℕ → Message → ℕ → Outcome → Option Note
delay_of w time m position outcomes.Ok = None
delay_of w time m position (outcomes.Never code) = None
delay_of w time m position (outcomes.Later code) =
    if is_expired w time m then None else Some (record { position = position; code = code })

-- those of positions and their outcomes
abbrev pub delays : World → ℕ → Message → List ℕ → List Outcome → List Note
delays w time m [] os = []
delays w time m (p ∷ ps) [] = []
delays w time m (p ∷ ps) (o ∷ os) = cons_option (delay_of w time m p o) (delays w time m ps os)

-- those of the message of an id
abbrev pub delays_at : World → Ledger → Id → List ℕ → List Outcome → List Note
delays_at w l id positions os =
    option_map_or (λ m. delays w l.now m positions os) (message_of l.book id) []

-- what an entry adds to the deferral log of an id
abbrev pub added_notes : World → Ledger → Entry → Id → List Note
added_notes w l (entries.Reply number state os) id =
    option_map_or (λ f. if id_eq f.row.id id then delays_at w l id f.row.positions os else [])
    (flight_of l number) []
added_notes w l (entries.Skip other site positions) id =
    if id_eq other id
    then delays_at w l id positions (replicate (length positions) (outcomes.Later 0))
    else []
added_notes w l e id = []

-- an admission begins the log anew
abbrev pub next_notes : World → Ledger → Entry → Id → List Note → List Note
next_notes w l (entries.Admit other) id notes =
    if id_eq other id then [] else notes
next_notes w l e id notes = notes ++ added_notes w l e id

-- the log after these entries of a ledger
abbrev pub notes_after : World → Ledger → List Entry → Id → List Note → List Note
notes_after w l [] id notes = notes
notes_after w l (e ∷ es) id notes = notes_after w (after w l e) es id (next_notes w l e id notes)

-- The file of a deferral log has these records and a closed gate, and nothing behind it.
pub record IsNoteLog (notes : List Note) (bytes : List ℕ) : Type 0 where
  pub gate : ℕ
  pub closed : (gate == 79) ≡ false
  pub written : bytes ≡ flat_map note_bytes notes ++ gate ∷ []
  pub read : log_notes bytes ≡ notes

-- the deferral log of these notes, which is missing where there is none
abbrev pub HasNotes : List Note → Option (List ℕ) → Type 0
HasNotes notes None = notes ≡ []
HasNotes notes (Some bytes) = IsNoteLog notes bytes
