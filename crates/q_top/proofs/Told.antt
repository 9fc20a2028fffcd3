-- How a command ends that only tells.
use Rattle.std.proofs.Common.{[], inl, inr, refl}
use Rattle.std.specs.Prelude.{Err, IfOk, Ok, OnErr, OnOk, Result}
use Rattle.q_host.proofs.Moments.{goes_nowhere}
use Rattle.q_host.specs.Steps.{Stay}
use Rattle.q_host.specs.View.{View}
use Rattle.q_host.specs.declared.error.HostError.{HostError}
use Rattle.q_host.specs.declared.error.HostError.TheVariants as faults
use Rattle.q_telling.proofs.TellingLaws.{OnlyNow, tells_none}
use Rattle.q_telling.specs.Telling.{TellsMore}
use Rattle.q_top.specs.Statuses.{telling_status}
use Rattle.q_top.specs.Tellings.{EndsTelling}

pub ends_telling : {All Part : Type 0} (r : Result (Unit {0}) HostError) → OnOk r All → OnErr r Part → EndsTelling All Part (telling_status r)
ends_telling (Ok done) all part = inl (refl, all)
ends_telling (Err faults.Disk) all part = inr (inl refl, part)
ends_telling (Err faults.Tell) all part = inr (inr (inl refl), part)
ends_telling (Err faults.NoMemory) all part = inr (inr (inr refl), part)

pub on_ok_of : {T E : Type 0} {P Q : Type 0} (r : Result T E) → (P → Q) → OnOk r P → OnOk r Q
on_ok_of (Ok x) f p = f p
on_ok_of (Err e) f p = tt

pub on_err_of : {T E : Type 0} {P Q : Type 0} (r : Result T E) → (P → Q) → OnErr r P → OnErr r Q
on_err_of (Ok x) f p = tt
on_err_of (Err e) f p = f p

pub if_ok_of : {T E : Type 0} {P Q : T → Type 0} (r : Result T E) → ((x : T) → P x → Q x) → IfOk r P → IfOk r Q
if_ok_of (Ok x) f p = f x p
if_ok_of (Err e) f p = tt

pub when_ok : {T E P : Type 0} (r : Result T E) → P → OnOk r P
when_ok (Ok x) p = p
when_ok (Err e) p = tt

pub when_err : {T E P : Type 0} (r : Result T E) → P → OnErr r P
when_err (Ok x) p = tt
when_err (Err e) p = p

-- nothing was done
pub none_told : (u : View) → OnlyNow u → TellsMore [] u u
none_told u only = tells_none u u only (record { files = refl; told = refl; goes = goes_nowhere Stay Stay u (λ x. refl) })
