-- The damage for which a life on a spool is refused.
use Rattle.std.specs.Prelude.{◌≡◌, IfOk, None, Option, Result, Some}
use Rattle.q_model.specs.SpoolFiles.{Files}
use Rattle.q_model.specs.Values.{Spot}
use Rattle.q_model.specs.declared.no_memory.NoMemory.{NoMemory}
use Rattle.q_restart.specs.declared.error.OpenError.{OpenError}
use Rattle.q_restart.specs.declared.error.OpenError.TheVariants as errors
use Rattle.q_restart.specs.Damages.{IsDamage, IsUndamaged}
use Rattle.q_restart.specs.Judgements.{IsRefusalOfSome}

-- the damage that is named of these files, if there is one
abbrev pub IsDamageIn : Files → Option Spot → Type 0
IsDamageIn f None = IsUndamaged f
IsDamageIn f (Some spot) = IsDamage f spot.area spot.name

-- some names of boot and some files of the queues are refused so
abbrev pub IsDamageOfSome : Spot → Type 0
IsDamageOfSome spot = IsRefusalOfSome (errors.Damaged spot.area spot.name)

-- the damage that an error at opening names; another says nothing of it
abbrev pub IsDamageBy : OpenError → Result (Option Spot) NoMemory → Type 0
IsDamageBy (errors.Damaged area name) result =
    IfOk result (λ damage. damage ≡ Some (record { area = area; name = name }))
IsDamageBy errors.Spent result = IfOk result (λ damage. damage ≡ None)
IsDamageBy errors.Disk result = IfOk result (λ damage. ⊥)
IsDamageBy errors.NoMemory result = IfOk result (λ damage. ⊥)
