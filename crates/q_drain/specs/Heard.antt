-- A drain hears the next moment of its clock.
use Rattle.std.specs.Prelude.{◌++◌, ◌≡◌, ◌≢◌, [], Bool, false, length, List, Option, true, ℕ, ◌∷◌}
use Rattle.q_agent.specs.Sessions.{OpenSession}
use Rattle.q_drain.specs.GivenUp.{GivesUp}
use Rattle.q_drain.specs.Opened.{IsServing}
use Rattle.q_drain.specs.Standing.{IsUnderWay, Outside, counts_of}
use Rattle.q_drain.specs.Stories.{Story}
use Rattle.q_drain.specs.Told.{Begun}
use Rattle.q_drain.specs.Waited.{IsSweep}
use Rattle.q_drain.specs.Works.{IsLinkBetween}
use Rattle.q_engine.specs.KeptNotes.{AddsAllNotes}
use Rattle.q_engine.specs.declared.engine.Engine.{Engine}
use Rattle.q_entries.specs.Runs.{PlaysRun}
use Rattle.q_host.specs.View.{View as HostView}
use Rattle.q_host.specs.declared.error.HostError.{HostError}
use Rattle.q_link.specs.Records.{HopsView}
use Rattle.q_model.specs.declared.entry.Entry.{Entry}
use Rattle.q_model.specs.declared.rows.Delivery.{Delivery}
use Rattle.q_model.specs.Ledger.{Ledger}
use Rattle.q_model.specs.Settings.{World}
use Rattle.q_model.specs.Step.{after_all}

-- no moment came yet, or one did
abbrev pub IsFirst : Bool → Story → Type 0
IsFirst true s = (s.moments ≡ []) × (s.told ≡ [])
IsFirst false s = s.moments ≢ []

-- between two sweeps, behind so many rests
abbrev pub IsBetween : World → Ledger → Outside → Outside → HostView → Engine → List Begun → List Delivery → List OpenSession → Story → Type 0
IsBetween w l a z v engine early fs os s = (rests : ℕ) × (rests ≡ (counts_of a s 0).rests) × IsUnderWay w l a z v (IsLinkBetween rests (length s.moments)) engine early [] fs os s

-- A moment more was given, and was told where it is past those before it.
pub record Heard (w : World) (l : Ledger) (a z : Outside) (u v : HostView) (engine : Engine) (early : List Begun) (fs : List Delivery) (os : List OpenSession) (s : Story) : Type 0 where
  pub moment : ℕ
  pub entries_told : List Entry
  pub waiting : List Begun
  pub line : IsSweep (record { moment = moment; told = entries_told })
  pub plays : PlaysRun w (after_all w l s.told) entries_told u v
  pub adds : AddsAllNotes w (after_all w l s.told) entries_told u.files v.files
  pub serving : IsServing w l a z v engine (record { listed = os; polled = 0 }) early waiting fs
      (record s { told = s.told ++ entries_told; moments = s.moments ++ moment ∷ [] })

-- of each ledger, first outside and hops
abbrev pub ForBetween : Bool → HostView → Option (List ℕ) → Engine → (World → Ledger → Outside → HopsView → List Begun → List Delivery → List OpenSession → Story → Type 0) → Type 0
ForBetween first u clock engine says = (w : World) → (l : Ledger) → (a : Outside) → (hops : HopsView) → (early : List Begun) → (fs : List Delivery) → (os : List OpenSession) → (s : Story)
    → IsFirst first s → IsBetween w l a (record { clock = clock; hops = hops }) u engine early fs os s → says w l a hops early fs os s

abbrev pub HearsClock : Bool → HostView → HostView → Option (List ℕ) → Option (List ℕ) → Engine → Engine → Type 0
HearsClock first u v old new engine next = ForBetween first u old engine
    (λ w l a hops early fs os s. Heard w l a (record { clock = new; hops = hops }) u v next early fs os s)

abbrev pub StopsHearingClock : Bool → HostView → HostView → Option (List ℕ) → Option (List ℕ) → Engine → HostError → Type 0
StopsHearingClock first u v old new engine error = ForBetween first u old engine
    (λ w l a hops early fs os s. GivesUp w l a (record { clock = new; hops = hops }) u v error s)
