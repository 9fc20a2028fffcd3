-- A drain that is given up.
use Rattle.std.specs.Prelude.{◌++◌, ◌≡◌, ◌≤◌, length, List, map}
use Rattle.q_drain.specs.Opened.{GaveUp}
use Rattle.q_drain.specs.Standing.{Outside}
use Rattle.q_drain.specs.Stories.{Story}
use Rattle.q_drain.specs.Told.{events_of}
use Rattle.q_entries.specs.Runs.{HaltsRun}
use Rattle.q_host.specs.View.{View as HostView}
use Rattle.q_host.specs.declared.error.HostError.{HostError}
use Rattle.q_laws.specs.Traces.{AreAllowed}
use Rattle.q_model.specs.declared.entry.Entry.{Entry}
use Rattle.q_model.specs.declared.event.Event.{Event}
use Rattle.q_model.specs.declared.event.LifeEvent.TheVariants.{Heard}
use Rattle.q_model.specs.Ledger.{Ledger}
use Rattle.q_model.specs.Run.{run}
use Rattle.q_model.specs.Settings.{World}
use Rattle.q_model.specs.Step.{after_all}

-- Behind what was told, more events were heard, the last perhaps in part: some first entries of their
-- run were told, and each was allowed. No line names an event that wasn't told whole, and there is one
-- such at most.
pub record GivesUp (w : World) (l : Ledger) (a z : Outside) (u v : HostView) (error : HostError) (s : Story) : Type 0 where
  pub heard : List Event
  pub entries_due : List Entry
  pub due : s.told ++ entries_due ≡ run w l (map Heard heard)
  pub fits : AreAllowed w l (map Heard heard)
  pub halts : HaltsRun w (after_all w l s.told) entries_due error u v
  pub story : Story
  pub told : story.told ≡ s.told ++ halts.done
  pub others : List Event
  pub few : length others ≤ 1
  pub names : heard ≡ events_of story.told ++ others
  pub gave_up : GaveUp w l a z story
