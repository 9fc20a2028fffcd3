-- What the core holds of a life, as plain lists.
use Rattle.std.specs.Prelude.{Bool, List, Option, ℕ}
use Rattle.q_model.specs.declared.event.Mode.{Mode}
use Rattle.q_model.specs.declared.id.Id.{Id}
use Rattle.q_model.specs.declared.rows.Delivery.{Delivery}
use Rattle.q_model.specs.declared.rows.Request.{Request}
use Rattle.q_model.specs.declared.rows.Row.{Row}
use Rattle.q_model.specs.declared.rows.Scan.{Scan}
use Rattle.q_model.specs.declared.rows.Served.{Served}
use Rattle.q_model.specs.declared.rows.Unsettled.{Unsettled}
use Rattle.q_model.specs.Settings.{Settings}
use Rattle.q_model.specs.Values.{Site, SiteRecord}
use Rattle.q_jobs.specs.declared.job.Job.{Job}
use Rattle.q_pool.specs.declared.slot.Slot.{Slot}
use Rattle.q_core.specs.declared.state.Question.{Question}
use Rattle.q_core.specs.declared.state.Seen.{Seen}

-- a moment that was given
pub record Time : Type 0 where
  pub seconds : ℕ

pub record State : Type 0 where
  pub params : Settings
  pub transports : ℕ
  pub mode : Mode
  pub clock : Time
  pub timed : Bool
  pub next_run : ℕ
  pub scan : Option Scan
  pub asked : Option Request
  pub ignores : Bool
  pub deferred_follows : Bool
  pub admitted : List Slot
  pub waiting : List Row
  pub flights : List Delivery
  pub in_memory : ℕ
  pub served : List Served
  pub unsettled : List Unsettled
  pub lines : List (List Job)
  pub sites : List SiteRecord
  pub synced : List Id
  pub starts : ℕ
  pub active : Seen
  pub incoming : Seen
  pub deferred : Seen
  pub question : Question
  pub named : List Site
  pub skips : ℕ
  pub skipped : List ℕ
