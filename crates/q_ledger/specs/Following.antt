-- Where the row of an entry allows it, what is held changes as the entry says, and the entry is taken over.
use Rattle.std.specs.Prelude.{◌≡◌, true}
use Rattle.q_bare.specs.CountedRows.{may_by}
use Rattle.q_bare.specs.Counts.{Counts}
use Rattle.q_ledger.specs.Beside.{IsBeside, IsOfLedger}
use Rattle.q_ledger.specs.State.{State}
use Rattle.q_ledger.specs.Taking.{IsChanged, IsTaken}
use Rattle.q_model.specs.Settings.{World}
use Rattle.q_model.specs.declared.entry.Entry.{Entry}

-- in this world
abbrev pub ChangesIn : World → State → Entry → State → Type 0
ChangesIn w old e new = (c : Counts) → IsOfLedger w c old.ledger → IsBeside old → may_by c w old.ledger e ≡ true
    → IsChanged w old.ledger e new

-- in each world
abbrev pub Changes : State → Entry → State → Type 0
Changes old e new = (w : World) → ChangesIn w old e new

-- the entry is taken over
abbrev pub TakesIn : World → State → Entry → State → Type 0
TakesIn w old e new = (c : Counts) → IsOfLedger w c old.ledger → IsBeside old → may_by c w old.ledger e ≡ true
    → IsTaken w old.ledger e new
