-- What is answered where a queue file can't be read.
use Rattle.std.specs.Prelude.{Err, None, Ok, Option, Result}
use Rattle.q_host.specs.declared.error.HostError.{HostError}
use Rattle.q_host.specs.declared.error.HostError.TheVariants as host_errors
use Rattle.q_message.specs.declared.error.MessageError.{MessageError}
use Rattle.q_message.specs.declared.error.MessageError.TheVariants as errors

-- nothing, where the file is no queue file
abbrev pub unreadable : {T : Type 0} → MessageError → Result (Option T) HostError
unreadable errors.Disk = Err host_errors.Disk
unreadable errors.NoMemory = Err host_errors.NoMemory
unreadable (errors.NotAMessage place) = Ok None
