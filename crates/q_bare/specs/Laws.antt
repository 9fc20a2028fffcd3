-- What a bare ledger lacks decides nothing beyond what is counted.
use Rattle.std.specs.Prelude.{◌≡◌, option_map}
use Rattle.q_bare.specs.Bare.{bare, bare_message}
use Rattle.q_bare.specs.CountedRows.{allowed_by, may_by}
use Rattle.q_bare.specs.CountedRules.{next_by}
use Rattle.q_bare.specs.Counts.{counts_after, counts_of}
use Rattle.q_model.specs.declared.entry.Entry.{Entry}
use Rattle.q_model.specs.declared.id.Id.{Id}
use Rattle.q_model.specs.Book.{message_of}
use Rattle.q_model.specs.Leftovers.{leftovers}
use Rattle.q_model.specs.Ledger.{Ledger}
use Rattle.q_model.specs.Memory.{is_idle, unread_of}
use Rattle.q_model.specs.Next.{next}
use Rattle.q_model.specs.Settings.{World}
use Rattle.q_model.specs.Step.{after, allowed, may}

-- what is found in a bare ledger is what is found in the ledger
pub record IsFoundBare (l : Ledger) : Type 0 where
  pub message : (id : Id) → message_of (bare l).book id ≡ option_map bare_message (message_of l.book id)
  pub leftovers_same : leftovers (bare l) ≡ leftovers l
  pub unread : (id : Id) → unread_of (bare l) id ≡ unread_of l id
  pub idle : (id : Id) → is_idle (bare l) id ≡ is_idle l id

-- Each row says the same of a bare ledger and the counts, and so the same entries are allowed.
abbrev pub AreRowsSame : Type 0
AreRowsSame = (w : World) (l : Ledger) (e : Entry) → (may_by (counts_of l) w (bare l) e ≡ may w l e)
    × (allowed_by (counts_of l) w (bare l) e ≡ allowed w l e)

-- so does the next decision
abbrev pub IsNextSame : Type 0
IsNextSame = (w : World) (l : Ledger) → next_by (counts_of l) w (bare l) ≡ next w l

-- What is held of a ledger after an entry is what follows from what was held of it before.
abbrev pub IsStepSame : Type 0
IsStepSame = (w : World) (l : Ledger) (e : Entry) → bare (after w (bare l) e) ≡ bare (after w l e)

-- The counts after an entry are those before it and the entry's own.
abbrev pub AreCountsKept : Type 0
AreCountsKept = (w : World) (l : Ledger) (e : Entry) → counts_of (after w l e) ≡ counts_after e (counts_of l)
