-- What an audit reports of the entries of a trace.
use Rattle.std.specs.Prelude.{◌+◌, ◌≡◌, ◌⊎◌, length, List, ℕ}
use Rattle.q_audit.specs.Breaking.{IsBroken}
use Rattle.q_audit.specs.Delays.{delays}
use Rattle.q_audit.specs.ReportTexts.{broken_text, lawful_text}
use Rattle.q_fronts.specs.Fronts.{empty_at, IsFront}
use Rattle.q_model.specs.declared.entry.Entry.{Entry}
use Rattle.q_model.specs.Ledger.{opening}
use Rattle.q_model.specs.Settings.{World}

-- The entries are the front of a run on an empty spool, of any first generation, and the jobs that were
-- preempted are named.
pub record ReportsLawful (w : World) (es : List Entry) (text : List ℕ) : Type 0 where
  pub front : IsFront w es
  pub is : text ≡ lawful_text w.table (length es)
      (delays w (opening front.mode (empty_at front.generation)) es)

-- They aren't, and the line of the first entry that isn't is named, with the rule that it breaks. Each
-- entry is a line, and lines count from 1.
pub record ReportsBroken (w : World) (es : List Entry) (text : List ℕ) : Type 0 where
  pub before : ℕ
  pub rule : ℕ
  pub broken : IsBroken w es before rule
  pub is : text ≡ broken_text (before + 1) rule

-- one of the two; no entries are both
abbrev pub IsReport : World → List Entry → List ℕ → Type 0
IsReport w es text = ReportsLawful w es text ⊎ ReportsBroken w es text
