-- The turn of a report's reply.
use Rattle.std.specs.Prelude.{◌≡◌, [], if◌then◌else◌, List, None, true}
use Rattle.q_agent.specs.declared.report.Report.{Report}
use Rattle.q_core.specs.Queries.{flight_in}
use Rattle.q_engine.specs.Looks.{ForStands}
use Rattle.q_engine.specs.Refusals.{refused_reply}
use Rattle.q_engine.specs.Steps.{TookTurn}
use Rattle.q_engine.specs.declared.engine.Engine.{Engine}
use Rattle.q_entries.specs.Runs.{HaltsRun}
use Rattle.q_host.specs.View.{View as HostView}
use Rattle.q_host.specs.declared.error.HostError.{HostError}
use Rattle.q_model.specs.declared.entry.Entry.{Entry}
use Rattle.q_model.specs.declared.event.Event.{Event}
use Rattle.q_model.specs.declared.event.Event.TheVariants as events
use Rattle.q_model.specs.declared.event.LifeEvent.TheVariants.{Heard}
use Rattle.q_model.specs.Ledger.{Ledger}
use Rattle.q_model.specs.Replies.{may_reply}
use Rattle.q_model.specs.Run.{turn}
use Rattle.q_model.specs.Settings.{World}

-- the reply that a report says
abbrev pub reply_event : Report → Event
reply_event r = events.Reply r.number r.site r.outcomes

-- A delivery of its number is in flight, by what the engine keeps, and has as many recipients as the
-- report has outcomes.
abbrev pub IsAwaited : Engine → Report → Type 0
IsAwaited engine r = refused_reply r.number r.outcomes (flight_in engine.core.value r.number) ≡ None

-- it is one that may come, and its turn was carried out and told
pub record HasReplied (w : World) (l : Ledger) (r : Report) (engine : Engine) (u v : HostView) : Type 0 where
  pub may : may_reply l r.number r.site r.outcomes ≡ true
  pub took : TookTurn w l (reply_event r) engine u v

abbrev pub Replies : Report → Engine → Engine → HostView → HostView → Type 0
Replies r old new u v = ForStands old u (λ w l. HasReplied w l r new u v)

-- the entries of a reply that may come; of another one there are none
abbrev pub entries_replied : World → Ledger → Report → List Entry
entries_replied w l r =
    if may_reply l r.number r.site r.outcomes then turn w l (Heard (reply_event r)) else []

-- it was given up, and some first part of its turn was told
abbrev pub HaltsReply : Report → Engine → HostError → HostView → HostView → Type 0
HaltsReply r engine error u v = ForStands engine u (λ w l. HaltsRun w l (entries_replied w l r) error u v)
