-- A sweep of a drain, and what comes of it.
use Rattle.std.specs.Prelude.{◌∷◌, ◌≡◌, [], Bool, false, length, List, ℕ}
use Rattle.q_agent.specs.Sessions.{OpenSession, Sessions}
use Rattle.q_drain.specs.GivenUp.{GivesUp}
use Rattle.q_drain.specs.Heard.{IsBetween, IsFirst}
use Rattle.q_drain.specs.Served.{FilledUp, ServedOn}
use Rattle.q_drain.specs.Standing.{Outside}
use Rattle.q_drain.specs.Stories.{Story}
use Rattle.q_drain.specs.Told.{Begun}
use Rattle.q_drain.specs.Waited.{IsSweep}
use Rattle.q_drain.specs.Waits.{Sweeps}
use Rattle.q_drain.specs.declared.poll.Served.{Served}
use Rattle.q_drain.specs.declared.sweep.Sweep.{Sweep}
use Rattle.q_drain.specs.declared.sweep.Sweep.TheVariants as sweeps
use Rattle.q_engine.specs.declared.engine.Engine.{Engine}
use Rattle.q_host.specs.View.{View as HostView}
use Rattle.q_host.specs.declared.error.HostError.{HostError}
use Rattle.q_model.specs.declared.rows.Delivery.{Delivery}
use Rattle.q_model.specs.Ledger.{Ledger}
use Rattle.q_model.specs.Settings.{World}

-- Between two sweeps, where so many deliveries have had their sessions. The first sweep is still to come,
-- or the last one did something, or a rest was given behind it.
pub record StandsBetween (w : World) (l : Ledger) (a z : Outside) (v : HostView) (engine : Engine) (os : List OpenSession) (known : ℕ) (first : Bool) (s : Story) : Type 0 where
  pub early : List Begun
  pub flights : List Delivery
  pub begins : IsFirst first s
  pub known_is : length early ≡ known
  pub sweeps_made : Sweeps 0 s
  pub between : IsBetween w l a z v engine early flights os s

-- the outsides before a sweep and behind it
pub record Outsides : Type 0 where
  pub before : Outside
  pub behind : Outside

-- of each ledger and first outside of the call
abbrev pub ForSweep : Outsides → HostView → Engine → List OpenSession → ℕ → Bool → (World → Ledger → Outside → Story → Type 0) → Type 0
ForSweep o u engine os known first says = (w : World) → (l : Ledger) → (a : Outside) → (s : Story)
    → StandsBetween w l a o.before u engine os known first s → says w l a s

-- A moment came, and each open session was polled.
pub record SweptOn (w : World) (l : Ledger) (a z : Outside) (u v : HostView) (next : Served) (agent : Sessions) (s : Story) : Type 0 where
  pub moment : ℕ
  pub served : ServedOn w l a z u v next agent (moment ∷ []) s
  pub line : IsSweep (record { moment = moment; told = served.entries_told })

-- no session was open, and none was opened
abbrev pub IdlesOn : World → Ledger → Outside → Outside → HostView → HostView → Engine → List OpenSession → ℕ → Story → Type 0
IdlesOn w l a z u v engine os known s = (os ≡ [])
    × SweptOn w l a z u v (record { engine = engine; known = known; busy = false }) (record { listed = []; polled = 0 }) s

-- no session was open, or the sweep went over all that were, or no number was left in it
abbrev pub SweepsTo : Outsides → HostView → HostView → Engine → List OpenSession → ℕ → Bool → Sweep → Sessions → Type 0
SweepsTo o u v engine os known first (sweeps.Idle next) new = ForSweep o u engine os known first
    (λ w l a s. IdlesOn w l a o.behind u v next os known s)
SweepsTo o u v engine os known first (sweeps.Over served) new = ForSweep o u engine os known first
    (λ w l a s. SweptOn w l a o.behind u v served new s)
SweepsTo o u v engine os known first sweeps.Full new = ForSweep o u engine os known first
    (λ w l a s. FilledUp w l a o.behind u v s)

-- or it was given up
abbrev pub GivesSweepUp : Outsides → HostView → HostView → Engine → List OpenSession → ℕ → Bool → HostError → Type 0
GivesSweepUp o u v engine os known first error = ForSweep o u engine os known first
    (λ w l a s. GivesUp w l a o.behind u v error s)

-- some ledger stands so
abbrev pub MaySweep : Outside → HostView → Engine → List OpenSession → ℕ → Bool → Type 0
MaySweep z u engine os known first = (w : World) × (l : Ledger) × (a : Outside) × (s : Story)
    × StandsBetween w l a z u engine os known first s

-- the engine with which a sweep ended, whatever came of it
abbrev pub OfServed : Sweep → (Served → Type 0) → Type 0
OfServed (sweeps.Over served) says = says served
OfServed sweep says = Unit {0}

abbrev pub OfEngine : Sweep → (Engine → Type 0) → Type 0
OfEngine (sweeps.Over served) says = says served.engine
OfEngine (sweeps.Idle engine) says = says engine
OfEngine sweeps.Full says = Unit {0}
