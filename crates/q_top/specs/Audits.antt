-- How `audit` ends, by its status.
use Rattle.std.specs.Prelude.{◌≡◌, ◌⊎◌, List, ℕ}
use Rattle.q_audit.specs.TraceEnds.{IsRefused, ReportsTrace}
use Rattle.q_audit.specs.declared.trace.TraceError.{TraceError}
use Rattle.q_conf.specs.Confs.{at_fault, conf_of}
use Rattle.q_conf.specs.declared.error.ConfFile.{ConfFile}
use Rattle.q_host.specs.Calls.{Stays}
use Rattle.q_host.specs.View.{View}
use Rattle.q_model.specs.Settings.{World}
use Rattle.q_telling.specs.Telling.{OnlyTells, TellsFront, TellsMore}
use Rattle.q_top.specs.Courses.{InWorld, Texts}
use Rattle.q_top.specs.Lives.{IsGivenUp, RefusesConf}
use Rattle.q_top.specs.Statuses.{trace_status}
use Rattle.q_top.specs.Tellings.{EndsTelling}
use Rattle.q_top.specs.declared.status.Status.{Status}

-- The source was read to its end, and the report on the entries of its trace was told; or some first part
-- of it, where the host failed.
pub record ReportsAll (w : World) (texts : Texts) (u v : View) (s : Status) : Type 0 where
  pub text : List ℕ
  pub reports : ReportsTrace w texts.before texts.after text
  pub told : EndsTelling (TellsMore text u v) (TellsFront text u v) s

-- What the source has is no trace, and the first line that is none is named; or it failed, or memory ran
-- out. Nothing was told.
pub record RefusesTrace (w : World) (texts : Texts) (u v : View) (s : Status) : Type 0 where
  pub error : TraceError
  pub is : s ≡ trace_status error
  pub refused : IsRefused w texts.before error
  pub stays : Stays u v

-- the host failed while conf was read, or memory ran out
pub record GivesUp (u v : View) (s : Status) : Type 0 where
  pub up : IsGivenUp s
  pub stays : Stays u v

-- one of these
abbrev pub EndsAudit : World → Texts → View → View → Status → Type 0
EndsAudit w texts u v s = ReportsAll w texts u v s ⊎ RefusesTrace w texts u v s ⊎ GivesUp u v s

-- `audit`: a faulty line of conf refuses it, and then nothing of the source is taken. Else the trace of the
-- source is judged in the world that conf says. No file is changed, whenever a crash comes.
pub record Audits (texts : Texts) (u v : View) (s : Status) : Type 0 where
  pub only : OnlyTells u v
  pub conf : (file : ConfFile) (line : ℕ) → conf_of u.files ≡ at_fault file line
      → RefusesConf file line u v s
  pub unread : (file : ConfFile) (line : ℕ) → conf_of u.files ≡ at_fault file line
      → texts.after ≡ texts.before
  pub run : InWorld u (λ w. EndsAudit w texts u v s)
