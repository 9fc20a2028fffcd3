-- Why a tool gives up.
use Rattle.std.specs.Prelude.{◌≤◌, IsErrOf, Result}
use Rattle.q_host.specs.Faults.{Faults}
use Rattle.q_host.specs.declared.error.HostError.{HostError}
use Rattle.q_host.specs.declared.error.HostError.TheVariants.{Disk, NoMemory, Tell}
use Rattle.q_model.specs.FaultCounts.{Rose}
use Rattle.q_super.specs.declared.error.SuperError.{SuperError}
use Rattle.q_super.specs.declared.error.SuperError.TheVariants as errors

-- a fault of the host, as it is answered
abbrev pub refusal_of : HostError → SuperError
refusal_of Disk = errors.Disk
refusal_of Tell = errors.Tell
refusal_of NoMemory = errors.NoMemory

-- of each error with which a call ended
abbrev pub EachError : {T : Type 0} → Result T HostError → (HostError → Type 0) → Type 0
EachError result says = (error : HostError) → IsErrOf result error → says error

-- of each fault of the host, or want of memory, with which a tool gave up
abbrev pub EachFault : {T : Type 0} → Result T SuperError → (HostError → Type 0) → Type 0
EachFault result says = (error : HostError) → IsErrOf result (refusal_of error) → says error

-- no count of faults fell, and each fault comes only where its count rose
pub record HostCause {T : Type 0} (before after : Faults) (result : Result T HostError)
    : Type 0 where
  pub disk_later : before.disk ≤ after.disk
  pub tell_later : before.tell ≤ after.tell
  pub disk : IsErrOf result Disk → Rose before.disk after.disk
  pub tell : IsErrOf result Tell → Rose before.tell after.tell

-- the same of a tool
pub record ToolCause {T : Type 0} (before after : Faults) (result : Result T SuperError)
    : Type 0 where
  pub disk_later : before.disk ≤ after.disk
  pub tell_later : before.tell ≤ after.tell
  pub disk : IsErrOf result errors.Disk → Rose before.disk after.disk
  pub tell : IsErrOf result errors.Tell → Rose before.tell after.tell
