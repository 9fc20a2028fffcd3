-- What opening a copy says of its damage.
use Rattle.std.proofs.Common.{◌≡◌, Bool, Err, IsTrue, Ok, Option, Result, subst, sym}
use Rattle.std.specs.Option.{IfSome}
use Rattle.std.specs.Prelude.{IfErr, IfOk}
use Rattle.q_model.specs.SpoolFiles.{Files}
use Rattle.q_model.specs.Values.{Spot}
use Rattle.q_model.specs.declared.no_memory.NoMemory.{NoMemory}
use Rattle.q_restart.specs.Damages.{IsUndamaged}
use Rattle.q_restart.specs.Judgements.{IsRefusalOfSome}
use Rattle.q_restart.specs.Openings.{IsAccepted, NamesDamage}
use Rattle.q_restart.specs.declared.error.OpenError.{OpenError}
use Rattle.q_restart.specs.declared.error.OpenError.TheVariants as errors
use Rattle.q_restart.specs.declared.opening.Spool.{Spool}
use Rattle.q_check.specs.SpoolDamages.{IsDamageBy, IsDamageIn, IsDamageOfSome}

pub damage-found : (tells : Bool) (f : Files) (opened : Result Spool OpenError) (error : OpenError) (r : Result (Option Spot) NoMemory) → opened ≡ Err error → (IsTrue tells → NamesDamage f opened)
    → (IsTrue tells → IsAccepted opened → IsUndamaged f) → IsDamageBy error r → IfOk r (λ spot. IsTrue tells → IsDamageIn f spot)
damage-found tells f opened errors.Disk (Ok o) is named sound h = absurd h
damage-found tells f opened errors.NoMemory (Ok o) is named sound h = absurd h
damage-found tells f opened errors.Spent (Ok o) is named sound h = subst (λ (x : Option Spot). IsTrue tells → IsDamageIn f x) (sym h) (λ t. sound t (subst IsAccepted (sym is) tt))
damage-found tells f opened (errors.Damaged area name) (Ok o) is named sound h = subst (λ (x : Option Spot). IsTrue tells → IsDamageIn f x) (sym h) (λ t. named t area name is)
damage-found tells f opened error (Err e) is named sound h = tt

pub damage-some : (opened : Result Spool OpenError) (error : OpenError) (r : Result (Option Spot) NoMemory) → opened ≡ Err error → IfErr opened IsRefusalOfSome → IsDamageBy error r → IfOk r (λ spot. IfSome spot IsDamageOfSome)
damage-some opened errors.Disk (Ok o) is some h = absurd h
damage-some opened errors.NoMemory (Ok o) is some h = absurd h
damage-some opened errors.Spent (Ok o) is some h = subst (λ (x : Option Spot). IfSome x IsDamageOfSome) (sym h) tt
damage-some opened (errors.Damaged area name) (Ok o) is some h = subst (λ (x : Option Spot). IfSome x IsDamageOfSome) (sym h) (subst (λ (x : Result Spool OpenError). IfErr x IsRefusalOfSome) is some)
damage-some opened error (Err e) is some h = tt
