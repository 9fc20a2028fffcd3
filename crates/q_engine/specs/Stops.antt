-- Why a turn isn't carried out whole.
use Rattle.std.specs.Prelude.{◌≤◌, Bool, IsErrOf, IsTrue, List, Result, ℕ}
use Rattle.q_host.specs.Faults.{Faults}
use Rattle.q_host.specs.declared.error.HostError.{HostError}
use Rattle.q_host.specs.declared.error.HostError.TheVariants.{Disk, Tell}
use Rattle.q_model.specs.FaultCounts.{Rose}
use Rattle.q_model.specs.Values.{Spot}
use Rattle.q_model.specs.declared.spot.Area.{Area}
use Rattle.q_engine.specs.Refusals.{refusal_of}
use Rattle.q_engine.specs.declared.error.EngineError.{EngineError}
use Rattle.q_engine.specs.declared.error.EngineError.TheVariants as errors
use Rattle.q_engine.specs.declared.stop.Stop.{Stop}
use Rattle.q_engine.specs.declared.stop.Stop.TheVariants as stops

-- the file at the spot can't be read
abbrev pub unreadable : Spot → Stop
unreadable spot = stops.Unreadable spot.area spot.name

-- what becomes of a life that was stopped
abbrev pub stopped_by : Stop → EngineError
stopped_by (stops.Host error) = refusal_of error
stopped_by (stops.Unreadable area name) = errors.Unreadable area name

-- of each fault of the host, or want of memory, by which a call was stopped
abbrev pub EachStop : {T : Type 0} → Result T Stop → (HostError → Type 0) → Type 0
EachStop result says = (error : HostError) → IsErrOf result (stops.Host error) → says error

-- where the host tells its files, none was unreadable
abbrev pub FindsReadable : {T : Type 0} → Bool → Result T Stop → Type 0
FindsReadable tells result = IsTrue tells → (area : Area) → (name : List ℕ)
    → IsErrOf result (stops.Unreadable area name) → ⊥

-- no count of faults fell, and each fault comes only where its count rose
pub record StopCause {T : Type 0} (before after : Faults) (result : Result T Stop) : Type 0 where
  pub disk_later : before.disk ≤ after.disk
  pub tell_later : before.tell ≤ after.tell
  pub disk : IsErrOf result (stops.Host Disk) → Rose before.disk after.disk
  pub tell : IsErrOf result (stops.Host Tell) → Rose before.tell after.tell
