-- The life of a load, from its beginning on.
use Rattle.std.specs.Prelude.{◌≡◌, [], List, None, ℕ, ◌∷◌}
use Rattle.q_engine.specs.Refusals.{refused_event}
use Rattle.q_engine.specs.Stands.{EngineStands}
use Rattle.q_engine.specs.declared.engine.Engine.{Engine}
use Rattle.q_host.specs.View.{View}
use Rattle.q_load.specs.Ended.{HasEnded}
use Rattle.q_load.specs.Loads.{AreDue, begun, behind, load_world}
use Rattle.q_load.specs.Taken.{HasTaken}
use Rattle.q_model.specs.Ledger.{Ledger}
use Rattle.q_model.specs.declared.event.Event.{Event}

-- engine and host stand for some ledger of the world of loads, where the event isn't refused
abbrev pub Takes : Engine → View → Event → Type 0
Takes engine v event =
    (l : Ledger) × EngineStands load_world engine v l × (refused_event l event ≡ None)

-- engine and host stand for some ledger behind a moment, of which no delivery has ended and to which
-- no mail came
abbrev pub IsFirst : Engine → View → Type 0
IsFirst engine v = (l : Ledger) × EngineStands load_world engine v l × HasEnded 0 l × HasTaken 0 l

-- of each ledger for which engine and host stand
abbrev pub ForLoad : Engine → View → (Ledger → Type 0) → Type 0
ForLoad engine v says = (l : Ledger) → EngineStands load_world engine v l → says l

-- the life began, on an empty spool
abbrev pub Begins : Engine → View → View → Type 0
Begins engine u v = EngineStands load_world engine v begun

-- an event was heard
abbrev pub HearsOne : Engine → Event → Engine → View → View → Type 0
HearsOne engine event next u v =
    ForLoad engine u (λ l. EngineStands load_world next v (behind l event))

-- the ledger behind the turns of these events
abbrev pub behind_all : Ledger → List Event → Ledger
behind_all l [] = l
behind_all l (e ∷ es) = behind_all (behind l e) es

-- all events were heard that are due from a ledger on
pub record HeardAll (mails : ℕ) (l : Ledger) (engine : Engine) (v : View) : Type 0 where
  pub heard : List Event
  pub are : AreDue mails [] l heard
  pub stands : EngineStands load_world engine v (behind_all l heard)

abbrev pub HearsAll : ℕ → Engine → Engine → View → View → Type 0
HearsAll mails engine next u v = ForLoad engine u (λ l. HeardAll mails l next v)
