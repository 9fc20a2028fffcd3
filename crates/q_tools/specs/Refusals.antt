-- Why a tool is refused, and what its refusals name.
use Rattle.std.specs.Prelude.{◌≡◌, ◌≤◌, ◌⊎◌, Bool, Err, false, IsErrOf, List, Ok, Result, true, ℕ}
use Rattle.q_host.specs.Calls.{Stays}
use Rattle.q_host.specs.Faults.{Faults}
use Rattle.q_host.specs.View.{View}
use Rattle.q_model.specs.FaultCounts.{Rose}
use Rattle.q_model.specs.declared.limits.Bound.TheVariants as bounds
use Rattle.q_model.specs.declared.spot.Area.{Area}
use Rattle.q_replay.specs.DamagedSpools.{NamesDamage}
use Rattle.q_replay.specs.Named.{IsNamed}
use Rattle.q_replay.specs.Takings.{is_unreadable as is_life_unreadable}
use Rattle.q_replay.specs.declared.error.ReplayError.{ReplayError}
use Rattle.q_replay.specs.declared.error.ReplayError.TheVariants as errors
use Rattle.q_restart.specs.Damages.{IsDamage}
use Rattle.q_super.specs.declared.error.SuperError.TheVariants as acts
use Rattle.q_tools.specs.declared.error.ToolError.{ToolError}
use Rattle.q_tools.specs.declared.error.ToolError.TheVariants.{Act, Life}
use Rattle.q_tools.specs.declared.task.Task.{Task}
use Rattle.q_tools.specs.Tasks.{may_lack}

-- Its life takes no list and no mail: no line is at fault, and no limit is passed but that of generations.
abbrev pub IsLifeRefusal : ReplayError → Type 0
IsLifeRefusal errors.Source = ⊥
IsLifeRefusal (errors.BadEvent line) = ⊥
IsLifeRefusal (errors.Limit bounds.Generation) = IsNamed (errors.Limit bounds.Generation)
IsLifeRefusal (errors.Limit bound) = ⊥
IsLifeRefusal error = IsNamed error

-- the same of its life; a message isn't found only where the task names messages
abbrev pub IsToolRefusal : Task → ToolError → Type 0
IsToolRefusal task (Life error) = IsLifeRefusal error
IsToolRefusal task (Act acts.Absent) = may_lack task ≡ true
IsToolRefusal task (Act error) = Unit {0}

-- a queue file can't be read any longer
abbrev pub is_unreadable : ToolError → Bool
is_unreadable (Life error) = is_life_unreadable error
is_unreadable (Act error) = false

-- no count of faults fell, and each fault comes only where its count rose
pub record CarryCause {T : Type 0} (before after : Faults) (result : Result T ToolError) : Type 0 where
  pub disk_later : before.disk ≤ after.disk
  pub tell_later : before.tell ≤ after.tell
  pub disk : IsErrOf result (Life errors.Disk) ⊎ IsErrOf result (Act acts.Disk) → Rose before.disk after.disk
  pub tell : IsErrOf result (Life errors.Tell) ⊎ IsErrOf result (Act acts.Tell) → Rose before.tell after.tell

-- ---- damaged spools

-- where a damage shows, the life doesn't begin, and whatever is answered, nothing was told or changed
abbrev pub RefusesDamage : {T : Type 0} → Area → List ℕ → View → View → Result T ToolError → Type 0
RefusesDamage area name u v (Ok done) = ⊥
RefusesDamage area name u v (Err (Life error)) = NamesDamage area name error × Stays u v
RefusesDamage area name u v (Err (Act error)) = ⊥

-- of each damage that shows
abbrev pub FindsDamage : {T : Type 0} → View → View → Result T ToolError → Type 0
FindsDamage u v result = (area : Area) (name : List ℕ) → IsDamage u.files area name
    → RefusesDamage area name u v result

-- what is called a damage is one
abbrev pub NamesOnlyDamage : {T : Type 0} → View → Result T ToolError → Type 0
NamesOnlyDamage v result = (area : Area) (name : List ℕ) → IsErrOf result (Life (errors.Damaged area name))
    → IsDamage v.files area name
