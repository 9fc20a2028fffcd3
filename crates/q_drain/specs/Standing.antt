-- How a drain stands between two calls: what it told, what its engine knows, and what was done.
use Rattle.std.specs.Option.{option_map_or}
use Rattle.std.specs.Prelude.{◌+◌, ◌++◌, ◌≡◌, length, List, Option, Some, ℕ}
use Rattle.q_agent.specs.Sessions.{OpenSession}
use Rattle.q_drain.specs.Driving.{Driving, HasCases}
use Rattle.q_drain.specs.Stories.{Did, Story}
use Rattle.q_drain.specs.Told.{Begun}
use Rattle.q_drain.specs.Works.{Counts}
use Rattle.q_engine.specs.Stands.{EngineStands}
use Rattle.q_engine.specs.declared.engine.Engine.{Engine}
use Rattle.q_host.specs.View.{View as HostView}
use Rattle.q_link.specs.Records.{HopsView, ToldHops}
use Rattle.q_link.specs.Views.{Told}
use Rattle.q_model.specs.Ledger.{Ledger}
use Rattle.q_model.specs.Settings.{World}
use Rattle.q_model.specs.Step.{after_all}
use Rattle.q_model.specs.declared.rows.Delivery.{Delivery}

-- what a clock and hops tell
pub record Outside : Type 0 where
  pub clock : Option (List ℕ)
  pub hops : HopsView

-- the rests and moments so far, where the call began with the first
abbrev pub counts_of : Outside → Story → ℕ → Counts
counts_of a s polled = record {
  rests = option_map_or (λ t. t.rests) a.hops.told 0 + s.rests;
  moments = length s.moments;
  polled = polled;
}

-- where the clock tells, it gave these moments since
abbrev pub HasGiven : Option (List ℕ) → Option (List ℕ) → Story → Type 0
HasGiven old new s = (given : List ℕ) → new ≡ Some given
    → (before : List ℕ) × (old ≡ Some before) × (given ≡ before ++ s.moments)

-- the hops tell what was done since, and the cases so far
pub record Records (w : World) (l : Ledger) (old new : HopsView) (now : ToldHops) (fs : List Delivery) (os : List OpenSession) (s : Story) : Type 0 where
  pub before : ToldHops
  pub told : old.told ≡ Some before
  pub did : Did before now s
  pub cases : HasCases w l before.connects old.connect_faults new.connect_faults fs os s

-- Between two calls of a drain that began with the first clock and hops: engine and host stand for the
-- ledger behind what was told.
pub record IsUnderWay (w : World) (l : Ledger) (a z : Outside) (v : HostView) (Tells : Begun → Told → Type 0) (engine : Engine) (early waiting : List Begun) (fs : List Delivery) (os : List OpenSession) (s : Story) : Type 0 where
  pub stands : EngineStands w engine v (after_all w l s.told)
  pub driving : Driving w l Tells early waiting fs os s
  pub given : HasGiven a.clock z.clock s
  pub records : (now : ToldHops) → z.hops.told ≡ Some now
      → Records w l a.hops z.hops now fs os s
