-- Why a life that listens is refused, and what its refusals name.
use Rattle.std.specs.Prelude.{◌≡◌, ◌≤◌, Bool, Err, false, IsErrOf, List, Ok, Result, true, ℕ}
use Rattle.q_host.specs.Calls.{Stays}
use Rattle.q_host.specs.Faults.{Faults}
use Rattle.q_host.specs.View.{View}
use Rattle.q_listen.specs.declared.listened.ListenError.{ListenError}
use Rattle.q_listen.specs.declared.listened.ListenError.TheVariants as errors
use Rattle.q_model.specs.FaultCounts.{Rose}
use Rattle.q_model.specs.declared.limits.Bound.TheVariants as bounds
use Rattle.q_model.specs.declared.spot.Area.{Area}
use Rattle.q_replay.specs.declared.error.ReplayError.{ReplayError}
use Rattle.q_replay.specs.declared.error.ReplayError.TheVariants as replay_errors
use Rattle.q_restart.specs.Damages.{IsDamage}
use Rattle.q_restart.specs.Judgements.{IsRefusalOfSome}
use Rattle.q_restart.specs.declared.error.OpenError.TheVariants as open_errors

-- it is one of an event list
abbrev pub is_of_list : ReplayError → Bool
is_of_list replay_errors.Source = true
is_of_list (replay_errors.BadEvent line) = true
is_of_list _ = false

-- what becomes of a refusal of an event, of which none is of a list
abbrev pub listen_error : ReplayError → ListenError
listen_error replay_errors.Disk = errors.Disk
listen_error replay_errors.Tell = errors.Tell
listen_error replay_errors.Source = errors.NoMemory
listen_error replay_errors.NoMemory = errors.NoMemory
listen_error (replay_errors.BadEvent line) = errors.NoMemory
listen_error (replay_errors.Limit bound) = errors.Limit bound
listen_error (replay_errors.Damaged area name) = errors.Damaged area name
listen_error (replay_errors.Unreadable area name) = errors.Unreadable area name

-- a queue file can't be read any longer
abbrev pub is_unreadable : ListenError → Bool
is_unreadable (errors.Unreadable area name) = true
is_unreadable _ = false

-- It comes in a life that has begun: of the host or one of its files, of the door, or for want of a serial.
abbrev pub is_of_life : ListenError → Bool
is_of_life errors.Disk = true
is_of_life errors.Tell = true
is_of_life errors.Door = true
is_of_life errors.NoMemory = true
is_of_life (errors.Limit bounds.Serial) = true
is_of_life (errors.Unreadable area name) = true
is_of_life _ = false

-- A damage, and that no generation is left, are what some names of boot and some files of the queues
-- show. No message is beyond a limit but that of serials.
abbrev pub IsListenRefusal : ListenError → Type 0
IsListenRefusal (errors.Damaged area name) = IsRefusalOfSome (open_errors.Damaged area name)
IsListenRefusal (errors.Limit bounds.Generation) = IsRefusalOfSome open_errors.Spent
IsListenRefusal (errors.Limit bounds.Serial) = Unit {0}
IsListenRefusal (errors.Limit bound) = ⊥
IsListenRefusal error = Unit {0}

-- no count of faults of the host fell, and a fault of it comes only where its count rose
pub record ListenCause {T : Type 0} (before after : Faults) (result : Result T ListenError) : Type 0 where
  pub disk_later : before.disk ≤ after.disk
  pub tell_later : before.tell ≤ after.tell
  pub disk : IsErrOf result errors.Disk → Rose before.disk after.disk
  pub tell : IsErrOf result errors.Tell → Rose before.tell after.tell

-- the count of faults of the door didn't fall, and one comes only where it rose
pub record DoorCause {T : Type 0} (before after : ℕ) (result : Result T ListenError) : Type 0 where
  pub later : before ≤ after
  pub door : IsErrOf result errors.Door → Rose before after

-- ---- damaged spools

-- this damage is named, or the host failed, or memory ran out
abbrev pub NamesDamage : Area → List ℕ → ListenError → Type 0
NamesDamage area name (errors.Damaged a n) = (a ≡ area) × (n ≡ name)
NamesDamage area name errors.Disk = Unit {0}
NamesDamage area name errors.Tell = Unit {0}
NamesDamage area name errors.NoMemory = Unit {0}
NamesDamage area name errors.Door = ⊥
NamesDamage area name (errors.Limit bound) = ⊥
NamesDamage area name (errors.Unreadable a n) = ⊥

-- Where a damage shows, no life begins, and whatever is answered, nothing was told or changed.
abbrev pub RefusesDamage : {T : Type 0} → Area → List ℕ → View → View → Result T ListenError → Type 0
RefusesDamage area name u v (Ok done) = ⊥
RefusesDamage area name u v (Err error) = NamesDamage area name error × Stays u v

-- of each damage that shows
abbrev pub FindsDamage : {T : Type 0} → View → View → Result T ListenError → Type 0
FindsDamage u v result = (area : Area) (name : List ℕ) → IsDamage u.files area name
    → RefusesDamage area name u v result

-- what is called a damage is one
abbrev pub NamesOnlyDamage : {T : Type 0} → View → Result T ListenError → Type 0
NamesOnlyDamage v result = (area : Area) (name : List ℕ) → IsErrOf result (errors.Damaged area name)
    → IsDamage v.files area name
