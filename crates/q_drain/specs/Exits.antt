-- How a drain ends.
use Rattle.std.specs.Prelude.{◌+◌, ◌++◌, ◌^◌, ◌≡◌, ◌≢◌, ◌≤◌, [], length, List, map, Some, ℕ}
use Rattle.q_drain.specs.Drains.{Delivers, IsOwnRun, IsQuiet, IsWhole}
use Rattle.q_drain.specs.Opened.{GaveUp}
use Rattle.q_drain.specs.Standing.{HasGiven}
use Rattle.q_drain.specs.Stories.{Did, Story}
use Rattle.q_drain.specs.Told.{events_of}
use Rattle.q_drain.specs.Swept.{Outsides}
use Rattle.q_drain.specs.Sweeps.{AllConnected, IsClocked}
use Rattle.q_drain.specs.Waited.{waiting_in}
use Rattle.q_engine.specs.KeptNotes.{AddsAllNotes}
use Rattle.q_engine.specs.Stands.{EngineStands}
use Rattle.q_engine.specs.declared.engine.Engine.{Engine}
use Rattle.q_entries.specs.Runs.{HaltsRun, PlaysRun}
use Rattle.q_host.specs.View.{View as HostView}
use Rattle.q_host.specs.declared.error.HostError.{HostError}
use Rattle.q_laws.specs.Traces.{AreAllowed}
use Rattle.q_link.specs.Records.{ToldHops}
use Rattle.q_model.specs.declared.entry.Entry.{Entry}
use Rattle.q_model.specs.declared.event.Event.{Event}
use Rattle.q_model.specs.declared.event.LifeEvent.TheVariants.{Heard}
use Rattle.q_model.specs.Ledger.{Ledger}
use Rattle.q_model.specs.Past.{starts}
use Rattle.q_model.specs.Run.{run}
use Rattle.q_model.specs.Settings.{World}
use Rattle.q_model.specs.Step.{after_all}

-- a life that has begun no delivery, and to which no moment came
pub record IsAtStart (l : Ledger) : Type 0 where
  pub now : l.now ≡ 0
  pub flights : l.flights ≡ []
  pub starts : starts l ≡ 0

-- where the hops tell, they tell what the story says, and its deliveries are as promised
abbrev pub Delivered : World → Ledger → Outsides → Story → Type 0
Delivered w l o s = (now : ToldHops) → o.behind.hops.told ≡ Some now
    → (before : ToldHops) × (o.before.hops.told ≡ Some before) × Did before now s
    × Delivers w l before.connects o.before.hops.connect_faults o.behind.hops.connect_faults s

-- It ends behind a sweep: what was told is the whole run of the events that its lines name.
pub record EndsWhole (w : World) (l : Ledger) (o : Outsides) (u v : HostView) : Type 0 where
  pub story : Story
  pub plays : PlaysRun w l story.told u v
  pub adds : AddsAllNotes w l story.told u.files v.files
  pub whole : IsWhole w l story
  pub given : HasGiven o.before.clock o.behind.clock story
  pub delivered : Delivered w l o story

-- no delivery is in flight, and the engine stands for the ledger behind
pub record EndsQuiet (w : World) (l : Ledger) (o : Outsides) (u v : HostView) (engine : Engine) : Type 0 where
  pub ends : EndsWhole w l o u v
  pub quiet : IsQuiet w l ends.story
  pub stands : EngineStands w engine v (after_all w l ends.story.told)

-- So many rests were given, and another is needed: in one sweep more, the last, every open session waited
-- and none was opened.
pub record EndsUnfinished (w : World) (l : Ledger) (o : Outsides) (u v : HostView) (rests : ℕ) : Type 0 where
  pub ends : EndsWhole w l o u v
  pub flies : (after_all w l ends.story.told).flights ≢ []
  pub rests_given : ends.story.rests ≡ rests
  pub waited : waiting_in w l ends.story ends.whole.sweeps ≡ rests + 1

-- It was given up: these events were heard, each allowed, the last perhaps in part, and some first
-- entries of their run were told. No line names an event that wasn't told whole, and there is one such
-- at most.
pub record EndsEarly (w : World) (l : Ledger) (o : Outsides) (u v : HostView) (error : HostError) : Type 0 where
  pub heard : List Event
  pub entries_due : List Entry
  pub due : entries_due ≡ run w l (map Heard heard)
  pub fits : AreAllowed w l (map Heard heard)
  pub halts : HaltsRun w l entries_due error u v
  pub story : Story
  pub told : story.told ≡ halts.done
  pub others : List Event
  pub few : length others ≤ 1
  pub names : heard ≡ events_of story.told ++ others
  pub gave_up : GaveUp w l o.before o.behind story

-- A session is over, and the life has begun as many deliveries as it may: its link was closed, and its
-- reply isn't told.
pub record EndsFull (w : World) (l : Ledger) (o : Outsides) (u v : HostView) : Type 0 where
  pub story : Story
  pub plays : PlaysRun w l story.told u v
  pub own : IsOwnRun w l story.told
  pub full : 2 ^ 48 ≤ starts (after_all w l story.told)
  pub clocked : IsClocked story
  pub connected : AllConnected story
  pub gave_up : GaveUp w l o.before o.behind story

-- of each ledger for which engine and host stand, and whose life has only begun
abbrev pub ForStarted : Engine → HostView → (World → Ledger → Type 0) → Type 0
ForStarted engine u says = (w : World) → (l : Ledger) → EngineStands w engine u l → IsAtStart l → says w l

-- there is one
abbrev pub MayStart : Engine → HostView → Type 0
MayStart engine u = (w : World) × (l : Ledger) × EngineStands w engine u l × IsAtStart l
