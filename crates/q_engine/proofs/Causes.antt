-- A refusal of the host becomes one of the engine, and has its cause.
use Rattle.std.proofs.Common.{◌≡◌, ◌≢◌, ◌∙◌, ap, arith, Bool, false, None, Option, refl, Some, subst, sym, true}
use Rattle.std.specs.Prelude.{◌||◌, Err, IsErrAnd, IsErrOf, Ok, Result}
use Rattle.q_entries.specs.Causes.{HostCause}
use Rattle.q_host.specs.Faults.{DiskCause, Faults, TellCause}
use Rattle.q_host.specs.declared.error.HostError.{HostError}
use Rattle.q_host.specs.declared.error.HostError.TheVariants as faults
use Rattle.q_engine.specs.Beginnings.{is_of_spool}
use Rattle.q_engine.specs.Refusals.{EngineCause, is_of_event, is_of_host, is_unreadable, refusal_of}
use Rattle.q_engine.specs.declared.error.EngineError.{EngineError}
use Rattle.q_engine.specs.declared.error.EngineError.TheVariants as errors

pub made_cause : {T S : Type 0} (before after : Faults) (inner : HostError) (made : EngineError) (r : Result T HostError) → r ≡ Err inner → made ≡ refusal_of inner → HostCause before after r → EngineCause {T = S} before after (Err made)
made_cause before after faults.Disk made r how is h = record { disk_later = h.disk_later; tell_later = h.tell_later; disk = λ of. h.disk how; tell = λ of. absurd cc }
made_cause before after faults.Tell made r how is h = record { disk_later = h.disk_later; tell_later = h.tell_later; disk = λ of. absurd cc; tell = λ of. h.tell how }
made_cause before after faults.NoMemory made r how is h = record { disk_later = h.disk_later; tell_later = h.tell_later; disk = λ of. absurd cc; tell = λ of. absurd cc }

-- the same of a refusal that is none of the disk
pub told_cause : {T S : Type 0} (before after : Faults) (inner : HostError) (made : EngineError) (r : Result T HostError) → r ≡ Err inner → made ≡ refusal_of inner → TellCause before after r → EngineCause {T = S} before after (Err made)
told_cause before after faults.Disk made r how is h = absurd (h.no_disk how)
told_cause before after faults.Tell made r how is h = record { disk_later = h.disk_later; tell_later = h.tell_later; disk = λ of. absurd cc; tell = λ of. h.tell how }
told_cause before after faults.NoMemory made r how is h = record { disk_later = h.disk_later; tell_later = h.tell_later; disk = λ of. absurd cc; tell = λ of. absurd cc }

-- what the disk or memory refused, and was passed on, is none of the output
pub never_told : {T S : Type 0} (before after : Faults) (r : Result T HostError) (inner error : HostError) → IsErrAnd r (λ x. x ≡ inner) → IsErrOf r error → DiskCause {T = S} before after (Err inner) → error ≢ faults.Tell
never_told before after (Ok v) inner error is of h told = is
never_told before after (Err x) inner error is of h told =
    let same : x ≡ error = cc in
    h.no_tell (ap (λ (y : HostError). Err y) (sym is ∙ same ∙ told))

-- Nothing was refused.
pub ok_cause : {T S : Type 0} (before after : Faults) (r : Result T HostError) (made : S) → TellCause before after r → EngineCause {T = S} before after (Ok made)
ok_cause before after r made h = record { disk_later = h.disk_later; tell_later = h.tell_later; disk = λ of. absurd cc; tell = λ of. absurd cc }

pub made_no_disk : {T S : Type 0} (before after : Faults) (inner : HostError) (made : EngineError) (r : Result T HostError) → r ≡ Err inner → made ≡ refusal_of inner → TellCause before after r → IsErrOf {T = S} (Err made) errors.Disk → ⊥
made_no_disk before after faults.Disk made r how is h of = h.no_disk how
made_no_disk before after faults.Tell made r how is h of = cc
made_no_disk before after faults.NoMemory made r how is h of = cc

-- it isn't one of the spool
not_of_spool : (inner : HostError) → is_of_spool (refusal_of inner) ≡ false
not_of_spool faults.Disk = refl
not_of_spool faults.Tell = refl
not_of_spool faults.NoMemory = refl

pub made_spool : {T : Type 0} (inner : HostError) (made error : EngineError) → made ≡ refusal_of inner → IsErrOf {T = T} (Err made) error → is_of_spool error ≡ false
made_spool inner made error is of = let same : error ≡ refusal_of inner = cc in ap is_of_spool same ∙ not_of_spool inner

-- a refusal of an event is none of the host
not_of_event : (inner : HostError) → is_of_event (refusal_of inner) ≡ false
not_of_event faults.Disk = refl
not_of_event faults.Tell = refl
not_of_event faults.NoMemory = refl

pub event_apart : {T : Type 0} (made : EngineError) (inner : HostError) → is_of_event made ≡ true → IsErrOf {T = T} (Err made) (refusal_of inner) → ⊥
event_apart made inner event of =
    let same : made ≡ refusal_of inner = cc in
    let bad : true ≡ false = sym event ∙ ap is_of_event same ∙ not_of_event inner in cc

-- a refusal of an event is one of those that may come
or_middle : (a b c : Bool) → b ≡ true → (a || (b || c)) ≡ true
or_middle true b c h = refl
or_middle false true c h = refl
or_middle false false c h = absurd cc

pub event_kind : {T : Type 0} (made error : EngineError) → is_of_event made ≡ true → IsErrOf {T = T} (Err made) error → (is_of_host error || (is_of_event error || is_unreadable error)) ≡ true
event_kind made error event of = let same : error ≡ made = cc in or_middle (is_of_host error) (is_of_event error) (is_unreadable error) (ap is_of_event same ∙ event)

-- where nothing was done no count rose
pub event_cause : {T : Type 0} (before : Faults) (made : EngineError) → is_of_event made ≡ true → EngineCause {T = T} before before (Err made)
event_cause before made event = record {
  disk_later = omega arith;
  tell_later = omega arith;
  disk = λ of. absurd (event_apart made faults.Disk event of);
  tell = λ of. absurd (event_apart made faults.Tell event of);
}

-- what was refused is what the ledger refuses

same_error : (o asked : Option EngineError) (made error : EngineError) → o ≡ Some made → o ≡ asked → asked ≡ Some error → made ≡ error
same_error o asked made error is agrees of = let both : Some made ≡ Some error = sym is ∙ agrees ∙ of in cc

pub none_asked : (o asked : Option EngineError) → o ≡ None → o ≡ asked → asked ≡ None
none_asked o asked none is = sym is ∙ none

pub none_refused : (o asked : Option EngineError) (error : EngineError) → o ≡ None → o ≡ asked → asked ≡ Some error → ⊥
none_refused o asked error none is some = cc

pub refused_so : {T : Type 0} (o asked : Option EngineError) (made error : EngineError) → o ≡ Some made → o ≡ asked → asked ≡ Some error → IsErrOf {T = T} (Err made) error
refused_so {T} o asked made error is agrees of = subst (λ (e : EngineError). IsErrOf {T = T} (Err made) e) (same_error o asked made error is agrees of) refl

pub asked_so : {T : Type 0} (o asked : Option EngineError) (made error : EngineError) → o ≡ Some made → o ≡ asked → IsErrOf {T = T} (Err made) error → asked ≡ Some error
asked_so o asked made error is agrees of = let same : made ≡ error = cc in sym agrees ∙ is ∙ ap Some same
