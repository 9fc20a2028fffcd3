-- What a fault of reading a queue file is to the engine.
use Rattle.std.specs.Prelude.{Err, None, Ok, Option, Result}
use Rattle.q_host.specs.declared.error.HostError.{HostError}
use Rattle.q_host.specs.declared.error.HostError.TheVariants as faults
use Rattle.q_message.specs.declared.error.MessageError.{MessageError}
use Rattle.q_message.specs.declared.error.MessageError.TheVariants as errors

-- nothing, where the file is no queue file
abbrev pub unless_damaged : {T : Type 0} → MessageError → Result (Option T) HostError
unless_damaged errors.Disk = Err faults.Disk
unless_damaged errors.NoMemory = Err faults.NoMemory
unless_damaged (errors.NotAMessage place) = Ok None
