-- The faults of a host, and the causes of its answers.
use Rattle.std.specs.Prelude.{◌≡◌, ◌≤◌, ℕ, Bool, IsTrue, Result, IsErrOf}
use Rattle.q_model.specs.FaultCounts.{Rose}
use Rattle.q_host.specs.Calls.{IsAsItWas}
use Rattle.q_host.specs.View.{View}
use Rattle.q_host.specs.declared.error.HostError.{HostError}
use Rattle.q_host.specs.declared.error.HostError.TheVariants.{Disk, NoMemory, Tell}

-- how often the disk has failed, and how often telling has
pub record Faults : Type 0 where
  pub disk : ℕ
  pub tell : ℕ

-- `Disk` comes only where the count of disk faults rose, and `Tell` doesn't come
pub record DiskCause {T : Type 0} (before after : Faults) (result : Result T HostError) : Type 0 where
  pub disk_later : before.disk ≤ after.disk
  pub tell_later : before.tell ≤ after.tell
  pub disk : IsErrOf result Disk → Rose before.disk after.disk
  pub no_tell : IsErrOf result Tell → ⊥

-- `Tell` comes only where the count of tell faults rose, and `Disk` doesn't come
pub record TellCause {T : Type 0} (before after : Faults) (result : Result T HostError) : Type 0 where
  pub disk_later : before.disk ≤ after.disk
  pub tell_later : before.tell ≤ after.tell
  pub tell : IsErrOf result Tell → Rose before.tell after.tell
  pub no_disk : IsErrOf result Disk → ⊥

-- With `NoMemory` the host is as it was: no fault was counted and, where it tells, nothing changed.
abbrev pub MemoryCause : {H T : Type 0} → Bool → (H → View) → (H → Faults) → H → H → Result T HostError → Type 0
MemoryCause tells view faults before after result =
    IsErrOf result NoMemory → (faults after ≡ faults before) × (IsTrue tells → IsAsItWas (view before) (view after))
