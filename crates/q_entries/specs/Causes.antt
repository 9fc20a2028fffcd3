-- Why a call that goes by the disk and by the output fails.
use Rattle.std.specs.Prelude.{◌≤◌, Result, IsErrOf}
use Rattle.q_host.specs.Faults.{Faults}
use Rattle.q_model.specs.FaultCounts.{Rose}
use Rattle.q_host.specs.declared.error.HostError.{HostError}
use Rattle.q_host.specs.declared.error.HostError.TheVariants.{Disk, Tell}

-- each fault comes only where its count rose
pub record HostCause {T : Type 0} (before after : Faults) (result : Result T HostError) : Type 0 where
  pub disk_later : before.disk ≤ after.disk
  pub tell_later : before.tell ≤ after.tell
  pub disk : IsErrOf result Disk → Rose before.disk after.disk
  pub tell : IsErrOf result Tell → Rose before.tell after.tell
