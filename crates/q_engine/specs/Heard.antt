-- An event's own entry, carried out and told.
use Rattle.std.specs.Prelude.{◌≡◌, ◌≤◌, Bool, false, length, true, ◌&&◌}
use Rattle.std.specs.List.{list_all}
use Rattle.q_model.specs.declared.entry.Entry.{Entry}
use Rattle.q_model.specs.declared.event.Event.{Event}
use Rattle.q_model.specs.declared.event.Event.TheVariants as events
use Rattle.q_model.specs.declared.event.LifeEvent.TheVariants as life_events
use Rattle.q_model.specs.Ledger.{Ledger}
use Rattle.q_model.specs.Replies.{fits_state}
use Rattle.q_model.specs.Run.{entry_of}
use Rattle.q_model.specs.Settings.{World}
use Rattle.q_model.specs.Step.{after}
use Rattle.q_host.specs.declared.error.HostError.{HostError}
use Rattle.q_host.specs.View.{View}
use Rattle.q_core.specs.Hearing.{has_log_code}
use Rattle.q_message.specs.NewFile.{is_receiver}
use Rattle.q_entries.specs.Entries.{DoesEntry, StopsEntry}
use Rattle.q_engine.specs.KeptNotes.{StoresNotes}
use Rattle.q_engine.specs.Looks.{ForStands}
use Rattle.q_engine.specs.Stands.{EngineStands}
use Rattle.q_engine.specs.declared.engine.Engine.{Engine}

-- this entry of the ledger was carried out and told
pub record WasDone (w : World) (l : Ledger) (e : Entry) (engine : Engine) (v x : View) : Type 0 where
  pub does : DoesEntry w.table e l.book (after w l e).book v x
  pub stands : EngineStands w engine x (after w l e)
  pub notes : StoresNotes w l e v.files x.files

abbrev pub Hearing : Event → Ledger → Entry
Hearing event l = entry_of l (life_events.Heard event)

abbrev pub HearsEvent : Event → Engine → Engine → View → View → Type 0
HearsEvent event old new v x = ForStands old v (λ w l. WasDone w l (Hearing event l) new v x)

abbrev pub StopsHearing : Event → Engine → HostError → View → View → Type 0
StopsHearing event engine error v x =
    ForStands engine v (λ w l. StopsEntry w.table (Hearing event l) l.book (after w l (Hearing event l)).book error v x)

-- the event is a moment
abbrev pub is_moment : Event → Bool
is_moment (events.At t) = true
is_moment (events.Mail sender to content) = false
is_moment (events.Reply number state outcomes) = false
is_moment (events.Trigger kind) = false

-- What is asked of an event: a moment within the clock's range, at least one recipient, and outcomes
-- that fit the state of the site, with codes of replies.
abbrev pub IsEventInForm : Event → Type 0
IsEventInForm (events.At t) = t ≤ 999990000000
IsEventInForm (events.Mail sender to content) = (list_all is_receiver to ≡ true) × (1 ≤ length to)
IsEventInForm (events.Reply number state os) = (fits_state state os && list_all has_log_code os) ≡ true
IsEventInForm (events.Trigger kind) = Unit {0}
