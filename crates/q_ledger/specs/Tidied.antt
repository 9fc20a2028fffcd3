-- Where an allowed entry has changed what is held, tidying sites and the scan makes it what it is to be.
use Rattle.std.specs.Prelude.{◌≡◌, List, true}
use Rattle.q_bare.specs.CountedRows.{may_by}
use Rattle.q_bare.specs.Counts.{Counts}
use Rattle.q_ledger.specs.Beside.{IsOfLedger}
use Rattle.q_ledger.specs.State.{State}
use Rattle.q_ledger.specs.Taking.{IsChanged, IsTaken}
use Rattle.q_ledger.specs.Tidying.{woken_by}
use Rattle.q_model.specs.Ledger.{Ledger}
use Rattle.q_model.specs.Settings.{World}
use Rattle.q_model.specs.Values.{Site}
use Rattle.q_model.specs.declared.entry.Entry.{Entry}

-- whatever the ledger and the entry were, where these sites woke by it
abbrev pub TidiesIn : World → List Site → State → State → Type 0
TidiesIn w woken old new = (c : Counts) (b : Ledger) (e : Entry) → IsOfLedger w c b → may_by c w b e ≡ true
    → woken ≡ woken_by b e → IsChanged w b e old → IsTaken w b e new
