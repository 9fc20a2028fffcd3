-- What an audit has read.
use Rattle.std.specs.List.{list_all}
use Rattle.std.specs.Prelude.{◌++◌, ◌-◌, ◌^◌, ◌≡◌, ◌≤◌, [], Bool, length, List, nat_lt, None, Option, Some, true, ℕ, ◌∷◌}
use Rattle.q_audit.specs.Breaking.{IsBroken}
use Rattle.q_audit.specs.ReportLaws.{ledger_before}
use Rattle.q_audit.specs.Tallied.{Job, jobs}
use Rattle.q_audit.specs.TraceTexts.{Tells}
use Rattle.q_audit.specs.declared.audit.Breach.{Breach}
use Rattle.q_fronts.specs.Fronts.{IsFront}
use Rattle.q_ledger.specs.Holding.{Holds, Recounted}
use Rattle.q_ledger.specs.Worlds.{world_of}
use Rattle.q_model.specs.declared.entry.Entry.{Entry}
use Rattle.q_model.specs.Settings.{Table, World}

-- an audit: the recount, the jobs that were preempted, how many lines there were, and the first broken one
pub record AuditState : Type 0 where
  pub recount : Recounted
  pub jobs : List Job
  pub lines : ℕ
  pub breach : Option Breach

-- the message has fewer recipients than 64 bits count
abbrev pub is_short : Job → Bool
is_short job = nat_lt job.recipients (2 ^ 64)

-- while none is broken: the recount has the entries, and the jobs are those that they preempt
pub record KeepsUp (w : World) (a : AuditState) (es : List Entry) : Type 0 where
  pub holds : Holds w a.recount es
  pub jobs : (f : IsFront w es) → a.jobs ≡ jobs w (ledger_before f) es
  pub short : list_all is_short a.jobs ≡ true

-- the breach is that of the first broken entry
pub record IsBreach (w : World) (es : List Entry) (b : Breach) : Type 0 where
  pub first : 1 ≤ b.line
  pub broken : IsBroken w es (b.line - 1) b.rule

-- the audit has read these entries, one a line
pub record Reads (w : World) (a : AuditState) (es : List Entry) : Type 0 where
  pub world : world_of a.recount.given ≡ w
  pub lines : a.lines ≡ length es
  pub lawful : a.breach ≡ None → KeepsUp w a es
  pub broken : (b : Breach) → a.breach ≡ Some b → IsBreach w es b

-- behind these it has judged this one, and not counted its line yet
pub record Judges (w : World) (a : AuditState) (es : List Entry) (e : Entry) : Type 0 where
  pub world : world_of a.recount.given ≡ w
  pub lines : a.lines ≡ length es
  pub lawful : a.breach ≡ None → KeepsUp w a (es ++ e ∷ [])
  pub broken : (b : Breach) → a.breach ≡ Some b → IsBreach w (es ++ e ∷ []) b

-- it has read one entry more, whose line this is
pub record ReadsLine (w : World) (a : AuditState) (es : List Entry) (line : List ℕ) : Type 0 where
  pub entry : Entry
  pub tells : Tells w.table line entry
  pub reads : Reads w a (es ++ entry ∷ [])

-- the table that it goes by
abbrev pub table_in : AuditState → Table
table_in a = (world_of a.recount.given).table
