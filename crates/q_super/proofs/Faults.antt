-- Faults of the host, as tools answer them.
use Rattle.std.proofs.Common.{◌≡◌, ◌∙◌, refl, sym}
use Rattle.std.specs.Prelude.{Err, IsErrAnd, IsErrOf, Ok, Result}
use Rattle.q_host.specs.declared.error.HostError.{HostError}
use Rattle.q_host.specs.declared.error.HostError.TheVariants.{Disk, NoMemory, Tell}
use Rattle.q_super.specs.Refusals.{refusal_of}
use Rattle.q_super.specs.declared.error.SuperError.{SuperError}
use Rattle.q_super.specs.declared.error.SuperError.TheVariants as errors

-- each is answered by an error of its own
pub one_fault : (a b : HostError) → refusal_of a ≡ refusal_of b → a ≡ b
one_fault Disk Disk e = refl
one_fault Tell Tell e = refl
one_fault NoMemory NoMemory e = refl
one_fault Disk Tell e = cc
one_fault Disk NoMemory e = cc
one_fault Tell Disk e = cc
one_fault Tell NoMemory e = cc
one_fault NoMemory Disk e = cc
one_fault NoMemory Tell e = cc

-- the fault that was passed on
pub passed_error : {T : Type 0} (r : Result T SuperError) (inner error : HostError) → IsErrAnd r (λ x. x ≡ refusal_of inner) → IsErrOf r (refusal_of error) → inner ≡ error
passed_error (Ok v) inner error gives is = absurd gives
passed_error (Err x) inner error gives is =
    let same : x ≡ refusal_of error = cc in
    one_fault inner error (sym gives ∙ same)

absent_none : (e : HostError) → errors.Absent ≡ refusal_of e → ⊥
absent_none Disk e = cc
absent_none Tell e = cc
absent_none NoMemory e = cc

-- none is that of an id that stands nowhere
pub never_absent : {T : Type 0} (r : Result T SuperError) (inner : HostError) → IsErrAnd r (λ x. x ≡ refusal_of inner) → IsErrOf r errors.Absent → ⊥
never_absent (Ok v) inner gives is = absurd gives
never_absent (Err x) inner gives is =
    let same : x ≡ errors.Absent = cc in
    absent_none inner (sym same ∙ gives)

pub no_fault : {T : Type 0} (e : HostError) → IsErrOf {T = T} (Err errors.Absent) (refusal_of e) → ⊥
no_fault {T} e is =
    let same : errors.Absent ≡ refusal_of e = cc in
    absent_none e same
