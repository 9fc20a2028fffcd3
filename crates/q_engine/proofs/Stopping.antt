-- What stopped a call is passed on: what was said of it, and its cause.
use Rattle.std.proofs.Common.{◌≡◌, ◌∙◌, ◌≤◌, Bool, List, ap, arith, false, refl, sym, true, ℕ}
use Rattle.std.specs.Prelude.{Err, IsErrOf, IsTrue, Ok, Result, ◌||◌}
use Rattle.std.specs.Result.{IsErrAnd}
use Rattle.q_entries.specs.Causes.{HostCause}
use Rattle.q_lines.proofs.LineParts.{rose_later}
use Rattle.q_host.specs.Faults.{DiskCause, Faults, TellCause}
use Rattle.q_host.specs.declared.error.HostError.{HostError}
use Rattle.q_host.specs.declared.error.HostError.TheVariants as faults
use Rattle.q_model.specs.Values.{Spot}
use Rattle.q_model.specs.declared.spot.Area.{Area}
use Rattle.q_engine.specs.Refusals.{EngineCause, is_of_event, is_of_host, is_unreadable, refusal_of}
use Rattle.q_engine.specs.Stops.{FindsReadable, StopCause, stopped_by, unreadable}
use Rattle.q_engine.specs.declared.error.EngineError.{EngineError}
use Rattle.q_engine.specs.declared.error.EngineError.TheVariants as errors
use Rattle.q_engine.specs.declared.stop.Stop.{Stop}
use Rattle.q_engine.specs.declared.stop.Stop.TheVariants as stops

-- ---- by a `?`

-- the error that it passes on
pub same_stop : {T S : Type 0} (r : Result T Stop) (inner e : Stop) → IsErrAnd r (λ x. x ≡ inner) → IsErrOf r e → IsErrOf {T = S} (Err inner) e
same_stop (Ok v) inner e is of = absurd is
same_stop (Err x) inner e is of = let same : x ≡ e = cc in ap (λ (y : Stop). Err y) (sym is ∙ same)

host_is : (inner e : HostError) → stops.Host inner ≡ stops.Host e → inner ≡ e
host_is inner e h = cc

-- the fault of the host that it passes on
pub same_host : {T S : Type 0} (r : Result T Stop) (inner e : HostError) → IsErrAnd r (λ x. x ≡ stops.Host inner) → IsErrOf r (stops.Host e) → IsErrOf {T = S} (Err inner) e
same_host (Ok v) inner e is of = absurd is
same_host (Err x) inner e is of =
    let same : x ≡ stops.Host e = cc in
    ap (λ (y : HostError). Err y) (host_is inner e (sym is ∙ same))

pub host_stopped : {T S : Type 0} (before after : Faults) (r : Result T Stop) (inner : HostError) → IsErrAnd r (λ x. x ≡ stops.Host inner) → HostCause {T = S} before after (Err inner) → StopCause before after r
host_stopped before after r inner is h = record {
  disk_later = h.disk_later;
  tell_later = h.tell_later;
  disk = λ of. h.disk (same_host r inner faults.Disk is of);
  tell = λ of. h.tell (same_host r inner faults.Tell is of);
}

pub disk_stopped : {T S : Type 0} (before after : Faults) (r : Result T Stop) (inner : HostError) → IsErrAnd r (λ x. x ≡ stops.Host inner) → DiskCause {T = S} before after (Err inner) → StopCause before after r
disk_stopped before after r inner is h = record {
  disk_later = h.disk_later;
  tell_later = h.tell_later;
  disk = λ of. h.disk (same_host r inner faults.Disk is of);
  tell = λ of. absurd (h.no_tell (same_host r inner faults.Tell is of));
}

pub tell_stopped : {T S : Type 0} (before after : Faults) (r : Result T Stop) (inner : HostError) → IsErrAnd r (λ x. x ≡ stops.Host inner) → TellCause {T = S} before after (Err inner) → StopCause before after r
tell_stopped before after r inner is h = record {
  disk_later = h.disk_later;
  tell_later = h.tell_later;
  disk = λ of. absurd (h.no_disk (same_host r inner faults.Disk is of));
  tell = λ of. h.tell (same_host r inner faults.Tell is of);
}

pub stop_passed : {T S : Type 0} (before after : Faults) (r : Result T Stop) (inner : Stop) → IsErrAnd r (λ x. x ≡ inner) → StopCause {T = S} before after (Err inner) → StopCause before after r
stop_passed before after r inner is h = record {
  disk_later = h.disk_later;
  tell_later = h.tell_later;
  disk = λ of. h.disk (same_stop r inner (stops.Host faults.Disk) is of);
  tell = λ of. h.tell (same_stop r inner (stops.Host faults.Tell) is of);
}

-- a fault of the host is no unreadable file
pub host_readable : {T : Type 0} (tells : Bool) (r : Result T Stop) (inner : HostError) → IsErrAnd r (λ x. x ≡ stops.Host inner) → FindsReadable tells r
host_readable tells (Ok v) inner is t area name of = absurd is
host_readable tells (Err x) inner is t area name of =
    let same : x ≡ stops.Unreadable area name = cc in
    let bad : stops.Host inner ≡ stops.Unreadable area name = sym is ∙ same in
    absurd cc

pub stop_readable : {T S : Type 0} (tells : Bool) (r : Result T Stop) (inner : Stop) → IsErrAnd r (λ x. x ≡ inner) → FindsReadable {T = S} tells (Err inner) → FindsReadable tells r
stop_readable tells r inner is h t area name of = h t area name (same_stop r inner (stops.Unreadable area name) is of)

-- ---- by other answers

-- no count falls in what goes before
pub stop_later : {T : Type 0} (a b c : Faults) (r : Result T Stop) → a.disk ≤ b.disk → a.tell ≤ b.tell → StopCause b c r → StopCause a c r
stop_later a b c r disk tell h = record {
  disk_later = omega (arith, disk, h.disk_later);
  tell_later = omega (arith, tell, h.tell_later);
  disk = λ is. rose_later a.disk b.disk c.disk disk (h.disk is);
  tell = λ is. rose_later a.tell b.tell c.tell tell (h.tell is);
}

-- where nothing failed, or a file is unreadable, no count has to rise
pub ok_stop : {T : Type 0} (before after : Faults) (made : T) → before.disk ≤ after.disk → before.tell ≤ after.tell → StopCause {T = T} before after (Ok made)
ok_stop before after made disk tell = record { disk_later = disk; tell_later = tell; disk = λ is. absurd cc; tell = λ is. absurd cc }

pub unreadable_stop : {T : Type 0} (before after : Faults) (spot : Spot) (made : Stop) → made ≡ unreadable spot → before.disk ≤ after.disk → before.tell ≤ after.tell → StopCause {T = T} before after (Err made)
unreadable_stop before after spot made is disk tell = record { disk_later = disk; tell_later = tell; disk = λ of. absurd cc; tell = λ of. absurd cc }

pub unreadable_apart : {T : Type 0} (spot : Spot) (made : Stop) (error : HostError) → made ≡ unreadable spot → IsErrOf {T = T} (Err made) (stops.Host error) → ⊥
unreadable_apart spot made error is of =
    let same : made ≡ stops.Host error = cc in
    let bad : unreadable spot ≡ stops.Host error = sym is ∙ same in
    cc

-- ---- as a refusal of an engine

err_is : {T : Type 0} (e f : EngineError) → IsErrOf {T = T} (Err e) f → e ≡ f
err_is e f h = cc

refusal_apart : (error : HostError) (area : Area) (name : List ℕ) → errors.Unreadable area name ≡ refusal_of error → ⊥
refusal_apart faults.Disk area name h = cc
refusal_apart faults.Tell area name h = cc
refusal_apart faults.NoMemory area name h = cc

stopped_host : (stop : Stop) (error : HostError) → stopped_by stop ≡ refusal_of error → stop ≡ stops.Host error
stopped_host (stops.Host faults.Disk) faults.Disk h = cc
stopped_host (stops.Host faults.Tell) faults.Tell h = cc
stopped_host (stops.Host faults.NoMemory) faults.NoMemory h = cc
stopped_host (stops.Host faults.Disk) faults.Tell h = absurd cc
stopped_host (stops.Host faults.Disk) faults.NoMemory h = absurd cc
stopped_host (stops.Host faults.Tell) faults.Disk h = absurd cc
stopped_host (stops.Host faults.Tell) faults.NoMemory h = absurd cc
stopped_host (stops.Host faults.NoMemory) faults.Disk h = absurd cc
stopped_host (stops.Host faults.NoMemory) faults.Tell h = absurd cc
stopped_host (stops.Unreadable area name) error h = absurd (refusal_apart error area name h)

-- the stop behind a refusal of the host
pub stop_behind : {T S : Type 0} (stop : Stop) (error : HostError) (made : EngineError) → made ≡ stopped_by stop → IsErrOf {T = T} (Err made) (refusal_of error) → IsErrOf {T = S} (Err stop) (stops.Host error)
stop_behind stop error made is of = ap (λ (y : Stop). Err y) (stopped_host stop error (sym is ∙ err_is made (refusal_of error) of))

pub made_cause : {T S : Type 0} (before after : Faults) (stop : Stop) (made : EngineError) (r : Result T Stop) → r ≡ Err stop → made ≡ stopped_by stop → StopCause before after r → EngineCause {T = S} before after (Err made)
made_cause before after (stops.Host faults.Disk) made r how is h = record { disk_later = h.disk_later; tell_later = h.tell_later; disk = λ of. h.disk how; tell = λ of. absurd cc }
made_cause before after (stops.Host faults.Tell) made r how is h = record { disk_later = h.disk_later; tell_later = h.tell_later; disk = λ of. absurd cc; tell = λ of. h.tell how }
made_cause before after (stops.Host faults.NoMemory) made r how is h = record { disk_later = h.disk_later; tell_later = h.tell_later; disk = λ of. absurd cc; tell = λ of. absurd cc }
made_cause before after (stops.Unreadable area name) made r how is h = record { disk_later = h.disk_later; tell_later = h.tell_later; disk = λ of. absurd cc; tell = λ of. absurd cc }

pub done_cause : {T S : Type 0} (before after : Faults) (r : Result T Stop) (made : S) → StopCause before after r → EngineCause {T = S} before after (Ok made)
done_cause before after r made h = record { disk_later = h.disk_later; tell_later = h.tell_later; disk = λ of. absurd cc; tell = λ of. absurd cc }

-- it is none of an event
stopped_kind : (stop : Stop) → (is_of_host (stopped_by stop) || (is_of_event (stopped_by stop) || is_unreadable (stopped_by stop))) ≡ true
stopped_kind (stops.Host faults.Disk) = refl
stopped_kind (stops.Host faults.Tell) = refl
stopped_kind (stops.Host faults.NoMemory) = refl
stopped_kind (stops.Unreadable area name) = refl

pub made_kind : {T : Type 0} (made error : EngineError) (stop : Stop) → made ≡ stopped_by stop → IsErrOf {T = T} (Err made) error → (is_of_host error || (is_of_event error || is_unreadable error)) ≡ true
made_kind {T} made error stop is of =
    let same : error ≡ stopped_by stop = sym (err_is {T = T} made error of) ∙ is in
    ap (λ e. is_of_host e || (is_of_event e || is_unreadable e)) same ∙ stopped_kind stop

stopped_event : (stop : Stop) → is_of_event (stopped_by stop) ≡ false
stopped_event (stops.Host faults.Disk) = refl
stopped_event (stops.Host faults.Tell) = refl
stopped_event (stops.Host faults.NoMemory) = refl
stopped_event (stops.Unreadable area name) = refl

pub stop_apart : {T : Type 0} (made error : EngineError) (stop : Stop) → made ≡ stopped_by stop → IsErrOf {T = T} (Err made) error → is_of_event error ≡ true → ⊥
stop_apart {T} made error stop is of event =
    let same : error ≡ stopped_by stop = sym (err_is {T = T} made error of) ∙ is in
    let bad : true ≡ false = sym event ∙ ap is_of_event same ∙ stopped_event stop in cc

stopped_readable : (stop : Stop) → ((area : Area) → (name : List ℕ) → stop ≡ stops.Unreadable area name → ⊥) → is_unreadable (stopped_by stop) ≡ false
stopped_readable (stops.Host faults.Disk) h = refl
stopped_readable (stops.Host faults.Tell) h = refl
stopped_readable (stops.Host faults.NoMemory) h = refl
stopped_readable (stops.Unreadable area name) h = absurd (h area name refl)

pub made_readable : {T S : Type 0} (tells : Bool) (made error : EngineError) (stop : Stop) → made ≡ stopped_by stop → FindsReadable {T = S} tells (Err stop) → IsTrue tells → IsErrOf {T = T} (Err made) error → is_unreadable error ≡ false
made_readable {T} tells made error stop is h t of =
    let same : error ≡ stopped_by stop = sym (err_is {T = T} made error of) ∙ is in
    ap is_unreadable same ∙ stopped_readable stop (λ area name stopped. h t area name (ap (λ (y : Stop). Err y) stopped))

-- a refusal of an event is readable
event_readable : (error : EngineError) → is_of_event error ≡ true → is_unreadable error ≡ false
event_readable (errors.Unreadable area name) h = absurd cc
event_readable errors.Disk h = refl
event_readable errors.Tell h = refl
event_readable errors.NoMemory h = refl
event_readable (errors.Unknown number) h = refl
event_readable (errors.WrongCount number want got) h = refl
event_readable errors.Untimed h = refl
event_readable (errors.Limit bound) h = refl
event_readable (errors.Damaged area name) h = refl

pub made_event_readable : {T : Type 0} (made error : EngineError) → is_of_event made ≡ true → IsErrOf {T = T} (Err made) error → is_unreadable error ≡ false
made_event_readable {T} made error event of = ap is_unreadable (sym (err_is {T = T} made error of)) ∙ event_readable made event

-- ---- where the host tells

or_told : (b c d : Bool) → (b || (c || d)) ≡ true → d ≡ false → (b || c) ≡ true
or_told true c d h none = refl
or_told false true d h none = refl
or_told false false true h none = absurd cc
or_told false false false h none = absurd cc

pub told_kinds : (error : EngineError) → (is_of_host error || (is_of_event error || is_unreadable error)) ≡ true → is_unreadable error ≡ false → (is_of_host error || is_of_event error) ≡ true
told_kinds error = or_told (is_of_host error) (is_of_event error) (is_unreadable error)
