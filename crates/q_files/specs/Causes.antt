-- Why a message isn't taken.
use Rattle.std.specs.Prelude.{◌≤◌, IsErrOf, Result}
use Rattle.q_model.specs.FaultCounts.{Rose}
use Rattle.q_host.specs.Faults.{Faults}
use Rattle.q_host.specs.declared.error.HostError.{HostError}
use Rattle.q_host.specs.declared.error.HostError.TheVariants as host_errors
use Rattle.q_files.specs.declared.error.FileError.{FileError}
use Rattle.q_files.specs.declared.error.FileError.TheVariants as errors

-- a fault of the host, as it is answered
abbrev pub file_error_of : HostError → FileError
file_error_of host_errors.Disk = errors.Disk
file_error_of host_errors.Tell = errors.Disk
file_error_of host_errors.NoMemory = errors.NoMemory

-- no count of faults fell, and `Disk` comes only where that of disk faults rose
pub record SubmitCause {T : Type 0} (before after : Faults) (result : Result T FileError)
    : Type 0 where
  pub disk_later : before.disk ≤ after.disk
  pub tell_later : before.tell ≤ after.tell
  pub disk : IsErrOf result errors.Disk → Rose before.disk after.disk
