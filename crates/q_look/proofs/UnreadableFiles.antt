-- A queue file that can't be read.
use Rattle.std.proofs.Common.{◌≡◌, ℕ, Option, None, refl, sym, subst}
use Rattle.std.specs.Prelude.{IfOk, IsErrOf, IsTrue, Bool, Result}
use Rattle.q_host.specs.declared.error.HostError.{HostError}
use Rattle.q_message.specs.declared.error.MessageError.{MessageError}
use Rattle.q_message.specs.declared.error.MessageError.TheVariants as errors
use Rattle.q_look.specs.Unreadable.{unreadable}

-- an error that is another
pub err_same : {X E : Type 0} (r : Result X E) (e x : E) → IsErrOf r e → e ≡ x → IsErrOf r x
err_same r e x h same = subst (λ y. IsErrOf r y) same h

unreadable_ok : {T : Type 0} (tells : Bool) (e : MessageError) (P : Option T → Type 0) → ((place : ℕ) → e ≡ errors.NotAMessage place → IsTrue tells → P None) → IfOk (unreadable e) (λ o. IsTrue tells → P o)
unreadable_ok tells errors.Disk P none = tt
unreadable_ok tells errors.NoMemory P none = tt
unreadable_ok tells (errors.NotAMessage place) P none = none place refl

-- what isn't read is nothing, and comes of a file that is no queue file
pub not_read : {T : Type 0} (tells : Bool) (r : Result (Option T) HostError) (e : MessageError) (P : Option T → Type 0) → r ≡ unreadable e → ((place : ℕ) → e ≡ errors.NotAMessage place → IsTrue tells → P None) → IfOk r (λ o. IsTrue tells → P o)
not_read {T = T} tells r e P is none = subst (λ (x : Result (Option T) HostError). IfOk x (λ o. IsTrue tells → P o)) (sym is) (unreadable_ok tells e P none)
