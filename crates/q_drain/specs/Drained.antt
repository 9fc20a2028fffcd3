-- A drain, by its answer.
use Rattle.std.specs.Prelude.{◌+◌, ◌<◌, ◌≡◌, ◌≤◌, ◌⊎◌, Bool, Err, false, None, Ok, Option, Result, Some, true, ℕ}
use Rattle.q_agent.specs.Rests.{RestsOne}
use Rattle.q_agent.specs.Sessions.{Sessions}
use Rattle.q_drain.specs.Exits.{EndsEarly, EndsFull, EndsQuiet, EndsUnfinished, ForStarted}
use Rattle.q_drain.specs.Swept.{Outsides}
use Rattle.q_drain.specs.declared.driver.Drained.{Drained}
use Rattle.q_drain.specs.declared.driver.Drained.TheVariants.{Quiet, Unfinished}
use Rattle.q_engine.specs.Refusals.{is_of_host, is_unreadable}
use Rattle.q_engine.specs.declared.engine.Engine.{Engine}
use Rattle.q_engine.specs.declared.error.EngineError.{EngineError}
use Rattle.q_engine.specs.declared.error.EngineError.TheVariants as errors
use Rattle.q_model.specs.declared.limits.Bound.TheVariants.{Deliveries}
use Rattle.q_host.specs.View.{View as HostView}
use Rattle.q_host.specs.declared.error.HostError.TheVariants as faults
use Rattle.q_link.specs.Records.{HopsView, Rests, counted}
use Rattle.q_model.specs.Ledger.{Ledger}
use Rattle.q_model.specs.Settings.{World}

-- Behind a sweep that did something the next one follows at once; behind another one a rest is given,
-- where not all were.
abbrev pub RestsBehind : Bool → ℕ → ℕ → Sessions → Sessions → HopsView → HopsView → Option ℕ → Type 0
RestsBehind true given rests old new hops next answer =
    (answer ≡ Some given) × (new ≡ old) × (next ≡ hops)
RestsBehind false given rests old new hops next (Some more) =
    (more ≡ given + 1) × (more ≤ rests) × RestsOne old new × Rests hops next
RestsBehind false given rests old new hops next None =
    (given ≡ rests) × (new ≡ old) × (next ≡ hops)

-- So many rests more were counted, up to the last value of a count.
abbrev pub CountsRests : HopsView → HopsView → ℕ → Type 0
CountsRests old new more = counted new.rests 0 ≡ counted old.rests more

-- so many rests are fewer than the links may answer `NotYet`, where it is known how often they may
abbrev pub AreTooFew : ℕ → HopsView → Type 0
AreTooFew rests hops = (most : ℕ) → hops.waits_left ≡ Some most → rests < most

-- how it ends on a ledger
abbrev pub EndsAs : World → Ledger → Outsides → HostView → HostView → Option Drained → Type 0
EndsAs w l o u v (Some (Quiet engine)) = EndsQuiet w l o u v engine
EndsAs w l o u v (Some (Unfinished rests)) = EndsUnfinished w l o u v rests
EndsAs w l o u v None = EndsFull w l o u v

-- By each answer: it ended behind a sweep, or within one by a fault of the host or for want of memory, or
-- with no number left for a delivery. Where the host tells, each queue file can be read.
abbrev pub DrainEnds : World → Ledger → Outsides → HostView → HostView → Result Drained EngineError → Type 0
DrainEnds w l o u v (Ok drained) = EndsAs w l o u v (Some drained)
DrainEnds w l o u v (Err errors.Disk) = EndsEarly w l o u v faults.Disk
DrainEnds w l o u v (Err errors.Tell) = EndsEarly w l o u v faults.Tell
DrainEnds w l o u v (Err errors.NoMemory) = EndsEarly w l o u v faults.NoMemory
DrainEnds w l o u v (Err (errors.Unreadable area name)) = ⊥
DrainEnds w l o u v (Err error) = EndsFull w l o u v

abbrev pub Drains : Engine → Outsides → Result Drained EngineError → HostView → HostView → Type 0
Drains engine o result u v = ForStarted engine u (λ w l. DrainEnds w l o u v result)

-- the refusals that there are
abbrev pub IsDrainError : EngineError → Type 0
IsDrainError error =
    (is_of_host error ≡ true) ⊎ (error ≡ errors.Limit Deliveries) ⊎ (is_unreadable error ≡ true)
