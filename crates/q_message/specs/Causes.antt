-- The errors of the calls that read a queue file.
use Rattle.std.specs.Prelude.{◌≤◌, ◌≡◌, ℕ, Err, IsErrOf, Ok, Result}
use Rattle.q_host.specs.Faults.{Faults}
use Rattle.q_model.specs.FaultCounts.{Rose}
use Rattle.q_host.specs.declared.error.HostError.{HostError}
use Rattle.q_host.specs.declared.error.HostError.TheVariants as host_errors
use Rattle.q_message.specs.declared.error.MessageError.{MessageError}
use Rattle.q_message.specs.declared.error.MessageError.TheVariants as errors

-- a fault of the host, as a reader answers it
abbrev pub passed_on : HostError → MessageError
passed_on host_errors.Disk = errors.Disk
passed_on host_errors.Tell = errors.Disk
passed_on host_errors.NoMemory = errors.NoMemory

-- no count of faults fell, and `Disk` comes only where that of disk faults rose
pub record ReadCause {T : Type 0} (before after : Faults) (result : Result T MessageError) : Type 0 where
  pub disk_later : before.disk ≤ after.disk
  pub tell_later : before.tell ≤ after.tell
  pub disk : IsErrOf result errors.Disk → Rose before.disk after.disk

-- What a call answered is what reading gives, unless the disk or the memory failed.
abbrev pub Refuses : {Y : Type 0} → MessageError → Result Y ℕ → Type 0
Refuses errors.Disk reading = Unit {0}
Refuses errors.NoMemory reading = Unit {0}
Refuses (errors.NotAMessage place) reading = reading ≡ Err place

abbrev pub Gives : {X Y : Type 0} → (X → Y) → Result X MessageError → Result Y ℕ → Type 0
Gives view (Ok x) reading = reading ≡ Ok (view x)
Gives view (Err e) reading = Refuses e reading
