-- What telling does that changes no file.
use Rattle.std.specs.Prelude.{◌++◌, ◌≡◌, ◌≤◌, IsErrOf, List, Result, ℕ}
use Rattle.q_host.specs.Faults.{Faults}
use Rattle.q_host.specs.View.{LeavesOnly, Remains, View}
use Rattle.q_host.specs.declared.error.HostError.{HostError}
use Rattle.q_host.specs.declared.error.HostError.TheVariants.{Disk, Tell}
use Rattle.q_model.specs.FaultCounts.{Rose}

-- what remains has files that a crash might have left before
abbrev pub LeavesFiles : View → Remains → Type 0
LeavesFiles u c = (d : Remains) × u.may_leave d × (c.files ≡ d.files)

-- These bytes more were told, and no file changed, whenever a crash comes.
pub record TellsMore (text : List ℕ) (u v : View) : Type 0 where
  pub files : v.files ≡ u.files
  pub told : v.told ≡ u.told ++ text
  pub crash : (c : Remains) → v.may_leave c → LeavesFiles u c
  pub moments : LeavesOnly u v (LeavesFiles u)

-- some first part of the text was told, and no file changed
pub record TellsFront (text : List ℕ) (u v : View) : Type 0 where
  pub part : List ℕ
  pub rest : List ℕ
  pub whole : text ≡ part ++ rest
  pub told : TellsMore part u v

-- Some bytes more were told, perhaps none, and no file changed, whenever a crash comes.
pub record OnlyTells (u v : View) : Type 0 where
  pub text : List ℕ
  pub told : TellsMore text u v

-- no count of faults fell, and each fault comes only where its count rose
pub record TellingCause {T : Type 0} (before after : Faults) (result : Result T HostError) : Type 0 where
  pub disk_later : before.disk ≤ after.disk
  pub tell_later : before.tell ≤ after.tell
  pub disk : IsErrOf result Disk → Rose before.disk after.disk
  pub tell : IsErrOf result Tell → Rose before.tell after.tell
