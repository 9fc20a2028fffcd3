-- A decision carried out, and all that follow an event.
use Rattle.std.specs.Prelude.{◌≡◌, ◌<◌, ◌^◌, IsErrOf, length, None, Result, Some}
use Rattle.q_model.specs.declared.entry.Entry.{Entry}
use Rattle.q_model.specs.Ledger.{Ledger}
use Rattle.q_model.specs.Next.{next}
use Rattle.q_model.specs.Run.{decisions, entry_of, turn}
use Rattle.q_model.specs.declared.event.Event.{Event}
use Rattle.q_model.specs.declared.event.LifeEvent.TheVariants as life_events
use Rattle.q_model.specs.Settings.{World}
use Rattle.q_model.specs.Step.{after, after_all}
use Rattle.q_host.specs.declared.error.HostError.{HostError}
use Rattle.q_host.specs.View.{View}
use Rattle.q_core.specs.declared.decision.Decision.{Decision}
use Rattle.q_entries.specs.Entries.{DoesEntry, StopsEntry}
use Rattle.q_entries.specs.Runs.{HaltsRun, PlaysRun}
use Rattle.q_engine.specs.KeptNotes.{StoresAllNotes, StoresNotes}
use Rattle.q_engine.specs.Looks.{ForStands}
use Rattle.q_engine.specs.Refusals.{refusal_of}
use Rattle.q_engine.specs.Stands.{EngineStands, IsNextEntry}
use Rattle.q_engine.specs.declared.error.EngineError.{EngineError}
use Rattle.q_engine.specs.declared.engine.Engine.{Engine}

-- the next entry was carried out and told
pub record WasCarriedOut (w : World) (l : Ledger) (engine : Engine) (v x : View) : Type 0 where
  pub entry_told : Entry
  pub following : next w l ≡ Some entry_told
  pub does : DoesEntry w.table entry_told l.book (after w l entry_told).book v x
  pub stands : EngineStands w engine x (after w l entry_told)
  pub notes : StoresNotes w l entry_told v.files x.files

-- the next entry was given up
pub record WasGivenUp (w : World) (l : Ledger) (error : HostError) (v x : View) : Type 0 where
  pub entry_told : Entry
  pub following : next w l ≡ Some entry_told
  pub stops : StopsEntry w.table entry_told l.book (after w l entry_told).book error v x

-- of each ledger whose next entry is that of the decision
abbrev pub ForNext : Decision → Engine → View → (World → Ledger → Type 0) → Type 0
ForNext d engine v says = (w : World) → (l : Ledger) → IsNextEntry w l (Some d) engine v → says w l

abbrev pub CarriesOut : Decision → Engine → Engine → View → View → Type 0
CarriesOut d old new v x = ForNext d old v (λ w l. WasCarriedOut w l new v x)

abbrev pub GivesDecisionUp : Decision → Engine → HostError → View → View → Type 0
GivesDecisionUp d engine error v x = ForNext d engine v (λ w l. WasGivenUp w l error v x)

-- some ledger has this decision next
abbrev pub HasNext : Decision → Engine → View → Type 0
HasNext d engine v = (w : World) × (l : Ledger) × IsNextEntry w l (Some d) engine v

-- engine and host stand for some ledger
abbrev pub StandsForSome : Engine → View → Type 0
StandsForSome engine v = (w : World) × (l : Ledger) × EngineStands w engine v l

-- The decisions that follow an event were carried out and told. No other follows, unless they are 2^60:
-- what is left goes on with the next event then.
pub record WentQuiet (w : World) (l : Ledger) (engine : Engine) (u v : View) : Type 0 where
  pub plays : PlaysRun w l (decisions w l) u v
  pub stands : EngineStands w engine v (after_all w l (decisions w l))
  pub quiet : length (decisions w l) < 2 ^ 60 → next w (after_all w l (decisions w l)) ≡ None
  pub notes : StoresAllNotes w l (decisions w l) u.files v.files

abbrev pub DecidesAll : Engine → Engine → View → View → Type 0
DecidesAll old new u v = ForStands old u (λ w l. WentQuiet w l new u v)

abbrev pub HaltsDeciding : Engine → HostError → View → View → Type 0
HaltsDeciding engine error u v = ForStands engine u (λ w l. HaltsRun w l (decisions w l) error u v)

-- An event's turn was carried out and told, and no decision follows, unless 2^60 did.
pub record TookTurn (w : World) (l : Ledger) (event : Event) (engine : Engine) (u v : View) : Type 0 where
  pub plays : PlaysRun w l (turn w l (life_events.Heard event)) u v
  pub stands : EngineStands w engine v (after_all w l (turn w l (life_events.Heard event)))
  pub quiet : length (decisions w (after w l (entry_of l (life_events.Heard event)))) < 2 ^ 60
      → next w (after_all w l (turn w l (life_events.Heard event))) ≡ None
  pub notes : StoresAllNotes w l (turn w l (life_events.Heard event)) u.files v.files

abbrev pub TakesTurn : Event → Engine → Engine → View → View → Type 0
TakesTurn event old new u v = ForStands old u (λ w l. TookTurn w l event new u v)

abbrev pub HaltsTurn : Event → Engine → HostError → View → View → Type 0
HaltsTurn event engine error u v =
    ForStands engine u (λ w l. HaltsRun w l (turn w l (life_events.Heard event)) error u v)

-- of each error with which a call ended
abbrev pub EachError : {T : Type 0} → Result T HostError → (HostError → Type 0) → Type 0
EachError result says = (error : HostError) → IsErrOf result error → says error

-- of each fault of the host, or want of memory, with which a call of the engine ended
abbrev pub EachFault : {T : Type 0} → Result T EngineError → (HostError → Type 0) → Type 0
EachFault result says = (error : HostError) → IsErrOf result (refusal_of error) → says error
