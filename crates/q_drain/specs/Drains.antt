-- What a drain promises, as a whole.
use Rattle.std.specs.List.{AllByRecursion}
use Rattle.std.specs.Prelude.{◌≡◌, [], List, ℕ}
use Rattle.q_model.specs.declared.entry.Entry.{Entry}
use Rattle.q_model.specs.Ledger.{Ledger}
use Rattle.q_model.specs.Run.{run}
use Rattle.q_model.specs.Settings.{World}
use Rattle.q_model.specs.Step.{after_all}
use Rattle.q_drain.specs.Cases.{AreCases, Case}
use Rattle.q_drain.specs.Causes.{FewFailed, IsDelivery}
use Rattle.q_drain.specs.Rooms.{HadRoom}
use Rattle.q_drain.specs.Stories.{Story}
use Rattle.q_drain.specs.Told.{heard_of}
use Rattle.q_drain.specs.Sweeps.{AllConnected, IsClocked, IsClockedSoFar, IsRested, SomeConnected}
use Rattle.q_drain.specs.Waited.{MadeSweeps}

-- What holds of its deliveries at each of its exits: `connects` were made before the call, and the
-- count of connects that failed was `old` then and is `new`.
pub record Delivers (w : World) (l : Ledger) (connects old new : ℕ) (s : Story) : Type 0 where
  pub cases : List Case
  pub are : AreCases w l s cases
  pub each : AllByRecursion (IsDelivery s connects) cases
  pub failed : FewFailed cases old new

-- they are the run of the events that they name
abbrev pub IsOwnRun : World → Ledger → List Entry → Type 0
IsOwnRun w l told = told ≡ run w l (heard_of told)

-- What holds where it goes on to its last sweep.
pub record IsWhole (w : World) (l : Ledger) (s : Story) : Type 0 where
  pub told : IsOwnRun w l s.told
  pub room : HadRoom w l s.told
  pub clocked : IsClocked s
  pub rested : IsRested s
  pub sweeps : MadeSweeps w l s
  pub connected : AllConnected s

-- What holds where it was given up.
pub record IsCut (s : Story) : Type 0 where
  pub clocked : IsClockedSoFar s
  pub connected : SomeConnected s

-- no delivery is in flight
abbrev pub IsQuiet : World → Ledger → Story → Type 0
IsQuiet w l s = (after_all w l s.told).flights ≡ []
