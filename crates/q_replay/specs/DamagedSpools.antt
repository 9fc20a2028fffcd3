-- A spool that shows a damage is found so.
use Rattle.std.specs.Prelude.{◌≡◌, Err, IsErrOf, List, Ok, Result, ℕ}
use Rattle.q_host.specs.Calls.{Stays}
use Rattle.q_host.specs.View.{View}
use Rattle.q_model.specs.declared.spot.Area.{Area}
use Rattle.q_replay.specs.declared.error.ReplayError.{ReplayError}
use Rattle.q_replay.specs.declared.error.ReplayError.TheVariants as errors
use Rattle.q_restart.specs.Damages.{IsDamage}

-- this damage is named, or the host failed, or memory ran out
abbrev pub NamesDamage : Area → List ℕ → ReplayError → Type 0
NamesDamage area name (errors.Damaged a n) = (a ≡ area) × (n ≡ name)
NamesDamage area name errors.Disk = Unit {0}
NamesDamage area name errors.Tell = Unit {0}
NamesDamage area name errors.NoMemory = Unit {0}
NamesDamage area name errors.Source = ⊥
NamesDamage area name (errors.BadEvent line) = ⊥
NamesDamage area name (errors.Limit bound) = ⊥
NamesDamage area name (errors.Unreadable a n) = ⊥

-- Where a damage shows, a life doesn't begin, and whatever is answered, nothing was told or changed.
abbrev pub RefusesDamage : {T : Type 0} → Area → List ℕ → View → View → Result T ReplayError → Type 0
RefusesDamage area name u v (Ok done) = ⊥
RefusesDamage area name u v (Err error) = NamesDamage area name error × Stays u v

-- of each damage that shows
abbrev pub FindsDamage : {T : Type 0} → View → View → Result T ReplayError → Type 0
FindsDamage u v result = (area : Area) (name : List ℕ) → IsDamage u.files area name
    → RefusesDamage area name u v result

-- what is called a damage is one
abbrev pub NamesOnlyDamage : {T : Type 0} → View → Result T ReplayError → Type 0
NamesOnlyDamage v result = (area : Area) (name : List ℕ) → IsErrOf result (errors.Damaged area name)
    → IsDamage v.files area name
