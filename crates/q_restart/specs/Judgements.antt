-- Whether a spool with these names and files can be opened.
use Rattle.std.specs.Option.{option_map_or}
use Rattle.std.specs.Prelude.{◌≡◌, ◌+◌, ◌^◌, ◌-◌, ◌<◌, ◌&&◌, [], Bool, false, List, None, not, Some, true, ℕ}
use Rattle.q_model.specs.Ids.{cause_of}
use Rattle.q_model.specs.Places.{is_active, is_incoming}
use Rattle.q_model.specs.Texts.{is_name}
use Rattle.q_model.specs.SpoolFiles.{Files}
use Rattle.q_restart.specs.declared.error.OpenError.{OpenError}
use Rattle.q_restart.specs.declared.error.OpenError.TheVariants as errors
use Rattle.q_restart.specs.declared.looking.Sight.{Sight}
use Rattle.q_restart.specs.declared.places.Index.{Index}
use Rattle.q_restart.specs.declared.standing.Standing.{Standing}
use Rattle.q_restart.specs.Damages.{damage_of, repeated_behind, SpoolShows}
use Rattle.q_restart.specs.Generations.{boot_generation}
use Rattle.q_restart.specs.Places.{ArePlacesOfOnce, IdMap, place_at}

-- the places of a walk, and the first of its files whose id stands in front of it
pub record IsIndexOf (walk : List Standing) (index : Index) : Type 0 where
  pub repeated : index.repeated ≡ repeated_behind [] walk
  pub places : ArePlacesOfOnce walk index.repeated index.places

-- what was seen is what the files of a spool show
abbrev pub IsSightOf : Files → Sight → Type 0
IsSightOf f sight = SpoolShows f sight.boot.items sight.walk.items

-- `is_mispaired`, by a map of places
abbrev pub mispaired_at : IdMap → Standing → Bool
mispaired_at places s = s.id.bounce
    && option_map_or (λ cause. not (is_incoming s.place && is_active cause))
    (place_at places (cause_of s.id)) false

-- no damage, and this is the last generation, behind which another fits
pub record IsAllowed (boot : List (List ℕ)) (walk : List Standing) (generation : ℕ) : Type 0 where
  pub sound : damage_of boot walk ≡ None
  pub last : boot_generation boot ≡ generation
  pub fits : generation + 1 < 2 ^ 32

-- the spool is refused by its damage, or by its last generation
abbrev pub IsRefused : List (List ℕ) → List Standing → OpenError → Type 0
IsRefused boot walk errors.Disk = ⊥
IsRefused boot walk errors.NoMemory = ⊥
IsRefused boot walk (errors.Damaged area name) =
    (damage_of boot walk ≡ Some (record { area = area; name = name })) × (is_name name ≡ true)
IsRefused boot walk errors.Spent =
    (damage_of boot walk ≡ None) × (boot_generation boot ≡ 2 ^ 32 - 1)

-- some names of boot and some files of the queues are refused so
abbrev pub IsRefusalOfSome : OpenError → Type 0
IsRefusalOfSome errors.Disk = Unit {0}
IsRefusalOfSome errors.NoMemory = Unit {0}
IsRefusalOfSome (errors.Damaged area name) =
    (boot : List (List ℕ)) × (walk : List Standing) × IsRefused boot walk (errors.Damaged area name)
IsRefusalOfSome errors.Spent =
    (boot : List (List ℕ)) × (walk : List Standing) × IsRefused boot walk errors.Spent
