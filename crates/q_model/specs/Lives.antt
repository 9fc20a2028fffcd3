-- Entry `life`: a life begins on the book as it stands.
use Rattle.std.specs.Prelude.{◌&&◌, ◌+◌, ◌==◌, [], ◌^◌, Bool, false, length, map, nat_lt, not, replicate, true, ◌||◌, ℕ}
use Rattle.q_model.specs.declared.event.Mode.{Mode}
use Rattle.q_model.specs.declared.event.Mode.TheVariants.{Deliver, Intake}
use Rattle.q_model.specs.Book.{Book}
use Rattle.q_model.specs.Ledger.{Ledger, opening}
use Rattle.q_model.specs.Message.{Logged, Message}
use Rattle.q_model.specs.Past.{has_entries}
use Rattle.q_model.specs.Settings.{World}

-- the same mode
abbrev pub mode_eq : Mode → Mode → Bool
mode_eq Deliver Deliver = true
mode_eq Intake Intake = true
mode_eq Deliver Intake = false
mode_eq Intake Deliver = false

-- the generation is the next, and a restart keeps the mode
abbrev pub may_life : Ledger → ℕ → Mode → Bool
may_life l generation mode =
    (generation == l.book.generation + 1) && nat_lt generation (2 ^ 32)
    && (not (has_entries l) || mode_eq mode l.mode)

-- what was read at opening is sure
abbrev pub firm_failures : Message → Message
firm_failures m = record m { failures = map (λ (f : Logged). record f { firm = true }) m.failures }

-- nothing is known but the book
abbrev pub after_life : World → Ledger → ℕ → Mode → Ledger
after_life w l generation mode =
    let book : Book = record l.book { generation = generation; messages = map firm_failures l.book.messages } in
    let first = opening mode book in
    record first { lines = replicate (length w.table.transports) [] }
