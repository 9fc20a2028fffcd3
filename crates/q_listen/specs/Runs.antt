-- What a life that listens told since it began.
use Rattle.std.specs.Prelude.{◌++◌, ◌-◌, ◌≡◌, ◌≤◌, ◌^◌, length, List}
use Rattle.q_host.specs.View.{View}
use Rattle.q_host.specs.declared.error.HostError.{HostError}
use Rattle.q_host.specs.declared.error.HostError.TheVariants as faults
use Rattle.q_laws.specs.Traces.{AreAllowed}
use Rattle.q_listen.specs.Told.{life_told, mails_told}
use Rattle.q_listen.specs.declared.listened.ListenError.{ListenError}
use Rattle.q_listen.specs.declared.listened.ListenError.TheVariants as errors
use Rattle.q_model.specs.Book.{Book}
use Rattle.q_model.specs.Ledger.{Ledger, opening}
use Rattle.q_model.specs.Past.{arrivals}
use Rattle.q_model.specs.Settings.{World}
use Rattle.q_model.specs.Step.{after_all}
use Rattle.q_model.specs.declared.entry.Entry.{Entry}
use Rattle.q_model.specs.declared.event.LifeEvent.{LifeEvent}
use Rattle.q_model.specs.declared.event.Mode.TheVariants.{Intake}
use Rattle.q_model.specs.declared.limits.Bound.TheVariants.{Serial}
use Rattle.q_replay.specs.RunEnds.{entries_on, IsTold, IsToldInPart}

-- the ledger behind these entries of an intake life on the book
abbrev pub ledger_of : World → Book → List Entry → Ledger
ledger_of w b told = after_all w (opening Intake b) told

-- These entries were told, which are the run of the events that they name, each allowed. The ledger counts
-- their messages.
pub record IsRun (w : World) (b : Book) (u v : View) (told : List Entry) : Type 0 where
  pub is : IsTold w Intake b (life_told told) u v
  pub own : told ≡ entries_on w Intake b (life_told told)
  pub fits : AreAllowed w (opening Intake b) (life_told told)
  pub arrived : arrivals (ledger_of w b told) ≡ length (mails_told told)

-- They were told, and then it was given up, perhaps within an event that none of their lines names.
pub record IsHalted (w : World) (b : Book) (fault : HostError) (u v : View) (told : List Entry) : Type 0 where
  pub items : List LifeEvent
  pub fits : AreAllowed w (opening Intake b) items
  pub halts : IsToldInPart w Intake b items fault u v
  pub done : halts.done ≡ told
  pub others : List LifeEvent
  pub few : length others ≤ 1
  pub front : (more : List LifeEvent) × (life_told told ++ others ≡ items ++ more)

-- by a refusal of a life that has begun
abbrev pub IsStopped : World → Book → ListenError → View → View → List Entry → Type 0
IsStopped w b errors.Disk u v told = IsHalted w b faults.Disk u v told
IsStopped w b errors.Tell u v told = IsHalted w b faults.Tell u v told
IsStopped w b errors.NoMemory u v told = IsHalted w b faults.NoMemory u v told
IsStopped w b errors.Door u v told = IsRun w b u v told
IsStopped w b (errors.Limit bound) u v told = (bound ≡ Serial) × IsRun w b u v told
    × (2 ^ 32 - 1 ≤ length (mails_told told))
IsStopped w b (errors.Damaged area name) u v told = ⊥
IsStopped w b (errors.Unreadable area name) u v told = ⊥
