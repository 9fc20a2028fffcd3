-- What becomes of a host's fault.
use Rattle.q_host.specs.declared.error.HostError.{HostError}
use Rattle.q_host.specs.declared.error.HostError.TheVariants as faults
use Rattle.q_restart.specs.declared.error.OpenError.{OpenError}
use Rattle.q_restart.specs.declared.error.OpenError.TheVariants as errors

abbrev pub passed_up : HostError → OpenError
passed_up faults.Disk = errors.Disk
passed_up faults.Tell = errors.Disk
passed_up faults.NoMemory = errors.NoMemory
