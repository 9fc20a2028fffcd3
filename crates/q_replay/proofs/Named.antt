-- What refusals name.
use Rattle.std.proofs.Common.{◌≡◌, ℕ, Bool, true, false, if◌then◌else◌, List, length, Option, Some, None, inl, inr, refl, sym, ap, ◌∙◌, subst, ltb-true}
use Rattle.std.specs.Prelude.{◌||◌, ◌==◌, ◌^◌, ◌-◌, Err, IfErr, nat_lt, not, Ok, Result}
use Rattle.q_drain.specs.Drained.{IsDrainError}
use Rattle.q_engine.specs.Beginnings.{is_of_spool, IsRefusalOfSomeSpool}
use Rattle.q_engine.specs.Refusals.{is_early, is_of_event, is_of_host as is_engine_host, is_unreadable, kind_refused_by, refused_by, refused_mail, refused_reply, told_count}
use Rattle.q_engine.specs.declared.engine.Engine.{Engine}
use Rattle.q_engine.specs.declared.error.EngineError.{EngineError}
use Rattle.q_engine.specs.declared.error.EngineError.TheVariants as engine_errors
use Rattle.q_events.specs.declared.error.EventError.{EventError}
use Rattle.q_events.specs.declared.error.EventError.TheVariants as event_errors
use Rattle.q_model.specs.declared.event.Event.{Event}
use Rattle.q_model.specs.declared.event.Event.TheVariants as events
use Rattle.q_model.specs.declared.limits.Bound.{Bound}
use Rattle.q_model.specs.declared.limits.Bound.TheVariants as bounds
use Rattle.q_model.specs.declared.outcome.Outcome.{Outcome}
use Rattle.q_model.specs.declared.rows.Delivery.{Delivery}
use Rattle.q_model.specs.Values.{Receiver}
use Rattle.q_replay.proofs.AnyLists.{HasBound}
use Rattle.q_replay.specs.Named.{is_of_host, IsDeliveryRefusal, IsLetterRefusal, IsNamed, IsRefusedBy, IsUnbegun}
use Rattle.q_replay.specs.Takings.{list_error, replay_error}
use Rattle.q_replay.specs.declared.error.ReplayError.{ReplayError}
use Rattle.q_replay.specs.declared.error.ReplayError.TheVariants as errors

-- ---- a life that doesn't begin

pub unbegun : (line : ℕ) (error : EngineError) → (is_engine_host error || is_of_spool error) ≡ true → IsRefusalOfSomeSpool error → IsUnbegun (replay_error line error)
unbegun line (engine_errors.Damaged area name) kinds h = inr (inl (area, name, refl, h))
unbegun line (engine_errors.Limit bound) kinds h = inr (inr (ap (λ (b : Bound). errors.Limit b) h.0, h.1))
unbegun line engine_errors.Disk kinds h = inl refl
unbegun line engine_errors.Tell kinds h = inl refl
unbegun line engine_errors.NoMemory kinds h = inl refl
unbegun line (engine_errors.Unknown n) kinds h = absurd cc
unbegun line (engine_errors.WrongCount n want got) kinds h = absurd cc
unbegun line engine_errors.Untimed kinds h = absurd cc
unbegun line (engine_errors.Unreadable area name) kinds h = absurd cc

-- ---- an event that is refused

-- by a fault of the host, or by what the engine keeps
pub why_heard : (line : ℕ) (engine : Engine) (event : Event) (error : EngineError) → (is_engine_host error || (is_of_event error || is_unreadable error)) ≡ true
    → (is_of_event error ≡ true → refused_by engine event ≡ Some error) → IsRefusedBy line engine event (replay_error line error)
why_heard line engine event engine_errors.Disk kinds own = inl refl
why_heard line engine event engine_errors.Tell kinds own = inl refl
why_heard line engine event engine_errors.NoMemory kinds own = inl refl
why_heard line engine event (engine_errors.Unreadable area name) kinds own = inl refl
why_heard line engine event (engine_errors.Unknown n) kinds own = inr (engine_errors.Unknown n, own refl, refl)
why_heard line engine event (engine_errors.WrongCount n want got) kinds own = inr (engine_errors.WrongCount n want got, own refl, refl)
why_heard line engine event engine_errors.Untimed kinds own = inr (engine_errors.Untimed, own refl, refl)
why_heard line engine event (engine_errors.Limit bound) kinds own = inr (engine_errors.Limit bound, own refl, refl)
why_heard line engine event (engine_errors.Damaged area name) kinds own = absurd cc

-- a mail passes a limit, or no serial is left
mail_refused : (arrived : ℕ) (to : List Receiver) (content : List ℕ) (why : EngineError) → refused_mail arrived to content ≡ Some why → IsLetterRefusal to content (replay_error 2 why)
mail_refused arrived to content why is = long (nat_lt 10240000 (length content)) refl is
  where
    serial : (b : Bool) → (if b then None else Some (engine_errors.Limit bounds.Serial)) ≡ Some why → IsLetterRefusal to content (replay_error 2 why)
    serial true h = cc
    serial false h = let same : engine_errors.Limit bounds.Serial ≡ why = cc in subst (λ (e : EngineError). IsLetterRefusal to content (replay_error 2 e)) same tt

    many : (b : Bool) → nat_lt 50000 (length to) ≡ b → (if b then Some (engine_errors.Limit bounds.Recipients) else (if nat_lt arrived (2 ^ 32 - 1) then None else Some (engine_errors.Limit bounds.Serial))) ≡ Some why
        → IsLetterRefusal to content (replay_error 2 why)
    many true over h = let same : engine_errors.Limit bounds.Recipients ≡ why = cc in subst (λ (e : EngineError). IsLetterRefusal to content (replay_error 2 e)) same (ltb-true 50000 (length to) over)
    many false over h = serial (nat_lt arrived (2 ^ 32 - 1)) h

    long : (b : Bool) → nat_lt 10240000 (length content) ≡ b
        → (if b then Some (engine_errors.Limit bounds.Content) else (if nat_lt 50000 (length to) then Some (engine_errors.Limit bounds.Recipients) else (if nat_lt arrived (2 ^ 32 - 1) then None else Some (engine_errors.Limit bounds.Serial)))) ≡ Some why
        → IsLetterRefusal to content (replay_error 2 why)
    long true over h = let same : engine_errors.Limit bounds.Content ≡ why = cc in subst (λ (e : EngineError). IsLetterRefusal to content (replay_error 2 e)) same (ltb-true 10240000 (length content) over)
    long false over h = many (nat_lt 50000 (length to)) refl h

of_host_letter : (to : List Receiver) (content : List ℕ) (error : ReplayError) → is_of_host error ≡ true → IsLetterRefusal to content error
of_host_letter to content errors.Disk h = tt
of_host_letter to content errors.Tell h = tt
of_host_letter to content errors.NoMemory h = tt
of_host_letter to content (errors.Unreadable area name) h = tt
of_host_letter to content errors.Source h = absurd cc
of_host_letter to content (errors.BadEvent n) h = absurd cc
of_host_letter to content (errors.Limit bound) h = absurd cc
of_host_letter to content (errors.Damaged area name) h = absurd cc

-- the moment of a letter is never refused
pub moment_letter : (to : List Receiver) (content : List ℕ) (engine : Engine) (moment : ℕ) (error : ReplayError) → IsRefusedBy 1 engine (events.At moment) error → IsLetterRefusal to content error
moment_letter to content engine moment error (inl host) = of_host_letter to content error host
moment_letter to content engine moment error (inr (why, is, made)) = absurd cc

-- its mail is, by its length or the number of its recipients
pub mail_letter : (sender : Option (List ℕ)) (to : List Receiver) (content : List ℕ) (engine : Engine) (error : ReplayError) → engine.core.value.timed ≡ true → IsRefusedBy 2 engine (events.Mail sender to content) error → IsLetterRefusal to content error
mail_letter sender to content engine error timed (inl host) = of_host_letter to content error host
mail_letter sender to content engine error timed (inr (why, is, made)) =
    let mail : refused_by engine (events.Mail sender to content) ≡ refused_mail engine.arrivals to content = ap (λ (b : Bool). if not b then Some engine_errors.Untimed else refused_mail engine.arrivals to content) timed in
    subst (IsLetterRefusal to content) (sym made) (mail_refused engine.arrivals to content why (sym mail ∙ is))

-- no event is refused for a generation
of_host_named : (error : ReplayError) → is_of_host error ≡ true → IsNamed error
of_host_named errors.Disk h = tt
of_host_named errors.Tell h = tt
of_host_named errors.NoMemory h = tt
of_host_named (errors.Unreadable area name) h = tt
of_host_named errors.Source h = absurd cc
of_host_named (errors.BadEvent n) h = absurd cc
of_host_named (errors.Limit bound) h = absurd cc
of_host_named (errors.Damaged area name) h = absurd cc

mail_named : (arrived : ℕ) (to : List Receiver) (content : List ℕ) (line : ℕ) (why : EngineError) → refused_mail arrived to content ≡ Some why → IsNamed (replay_error line why)
mail_named arrived to content line why is = long (nat_lt 10240000 (length content)) is
  where
    serial : (b : Bool) → (if b then None else Some (engine_errors.Limit bounds.Serial)) ≡ Some why → IsNamed (replay_error line why)
    serial true h = cc
    serial false h = let same : engine_errors.Limit bounds.Serial ≡ why = cc in subst (λ (e : EngineError). IsNamed (replay_error line e)) same tt

    many : (b : Bool) → (if b then Some (engine_errors.Limit bounds.Recipients) else (if nat_lt arrived (2 ^ 32 - 1) then None else Some (engine_errors.Limit bounds.Serial))) ≡ Some why → IsNamed (replay_error line why)
    many true h = let same : engine_errors.Limit bounds.Recipients ≡ why = cc in subst (λ (e : EngineError). IsNamed (replay_error line e)) same tt
    many false h = serial (nat_lt arrived (2 ^ 32 - 1)) h

    long : (b : Bool) → (if b then Some (engine_errors.Limit bounds.Content) else (if nat_lt 50000 (length to) then Some (engine_errors.Limit bounds.Recipients) else (if nat_lt arrived (2 ^ 32 - 1) then None else Some (engine_errors.Limit bounds.Serial)))) ≡ Some why
        → IsNamed (replay_error line why)
    long true h = let same : engine_errors.Limit bounds.Content ≡ why = cc in subst (λ (e : EngineError). IsNamed (replay_error line e)) same tt
    long false h = many (nat_lt 50000 (length to)) h

reply_named : (number : ℕ) (os : List Outcome) (o : Option Delivery) (line : ℕ) (why : EngineError) → refused_reply number os o ≡ Some why → IsNamed (replay_error line why)
reply_named number os None line why is = let same : engine_errors.Unknown number ≡ why = cc in subst (λ (e : EngineError). IsNamed (replay_error line e)) same tt
reply_named number os (Some f) line why is = fits (length os == length f.row.positions) is
  where
    fits : (b : Bool) → (if b then None else Some (engine_errors.WrongCount number (told_count (length f.row.positions)) (told_count (length os)))) ≡ Some why → IsNamed (replay_error line why)
    fits true h = cc
    fits false h =
        let same : engine_errors.WrongCount number (told_count (length f.row.positions)) (told_count (length os)) ≡ why = cc in
        subst (λ (e : EngineError). IsNamed (replay_error line e)) same tt

kind_named : (engine : Engine) (event : Event) (line : ℕ) (why : EngineError) → kind_refused_by engine event ≡ Some why → IsNamed (replay_error line why)
kind_named engine (events.At moment) line why is = cc
kind_named engine (events.Mail sender to content) line why is = mail_named engine.arrivals to content line why is
kind_named engine (events.Reply number site os) line why is = reply_named number os _ line why is
kind_named engine (events.Trigger kind) line why is = cc

pub heard_named : (line : ℕ) (engine : Engine) (event : Event) (error : ReplayError) → IsRefusedBy line engine event error → IsNamed error
heard_named line engine event error (inl host) = of_host_named error host
heard_named line engine event error (inr (why, is, made)) = subst IsNamed (sym made) (early (is_early engine.core.value.timed event) is)
  where
    early : (b : Bool) → (if b then Some engine_errors.Untimed else kind_refused_by engine event) ≡ Some why → IsNamed (replay_error line why)
    early true h = let same : engine_errors.Untimed ≡ why = cc in subst (λ (e : EngineError). IsNamed (replay_error line e)) same tt
    early false h = kind_named engine event line why h

-- ---- other ends

-- a life that doesn't end
pub ended_host : (line : ℕ) (error : EngineError) → is_engine_host error ≡ true → is_of_host (replay_error line error) ≡ true
ended_host line engine_errors.Disk h = refl
ended_host line engine_errors.Tell h = refl
ended_host line engine_errors.NoMemory h = refl
ended_host line (engine_errors.Unknown n) h = absurd cc
ended_host line (engine_errors.WrongCount n want got) h = absurd cc
ended_host line engine_errors.Untimed h = absurd cc
ended_host line (engine_errors.Limit bound) h = absurd cc
ended_host line (engine_errors.Damaged area name) h = absurd cc
ended_host line (engine_errors.Unreadable area name) h = absurd cc

-- what a drain is given up for
pub drained_named : (error : EngineError) → IsDrainError error → IsDeliveryRefusal (replay_error 0 error)
drained_named error (inl host) = on error host
  where
    on : (e : EngineError) → is_engine_host e ≡ true → IsDeliveryRefusal (replay_error 0 e)
    on engine_errors.Disk h = tt
    on engine_errors.Tell h = tt
    on engine_errors.NoMemory h = tt
    on (engine_errors.Unknown n) h = absurd cc
    on (engine_errors.WrongCount n want got) h = absurd cc
    on engine_errors.Untimed h = absurd cc
    on (engine_errors.Limit bound) h = absurd cc
    on (engine_errors.Damaged area name) h = absurd cc
    on (engine_errors.Unreadable area name) h = absurd cc
drained_named error (inr (inl is)) = subst (λ (e : EngineError). IsDeliveryRefusal (replay_error 0 e)) (sym is) tt
drained_named error (inr (inr unreadable)) = on error unreadable
  where
    on : (e : EngineError) → is_unreadable e ≡ true → IsDeliveryRefusal (replay_error 0 e)
    on (engine_errors.Unreadable area name) h = tt
    on engine_errors.Disk h = absurd cc
    on engine_errors.Tell h = absurd cc
    on engine_errors.NoMemory h = absurd cc
    on (engine_errors.Unknown n) h = absurd cc
    on (engine_errors.WrongCount n want got) h = absurd cc
    on engine_errors.Untimed h = absurd cc
    on (engine_errors.Limit bound) h = absurd cc
    on (engine_errors.Damaged area name) h = absurd cc

-- a list that has no next item
pub list_named : (error : EventError) → HasBound error → IsNamed (list_error error)
list_named event_errors.NoMemory h = tt
list_named event_errors.Source h = tt
list_named (event_errors.BadEvent n) h = tt
list_named (event_errors.Limit bound) h = subst (λ (b : Bound). IsNamed (errors.Limit b)) (sym h) tt

-- what an end of a life is to a letter, and to a delivery
pub ended_letter : (to : List Receiver) (content : List ℕ) (error : ReplayError) → is_of_host error ≡ true → IsLetterRefusal to content error
ended_letter to content error h = of_host_letter to content error h

pub ended_delivery : (error : ReplayError) → is_of_host error ≡ true → IsDeliveryRefusal error
ended_delivery errors.Disk h = tt
ended_delivery errors.Tell h = tt
ended_delivery errors.NoMemory h = tt
ended_delivery (errors.Unreadable area name) h = tt
ended_delivery errors.Source h = absurd cc
ended_delivery (errors.BadEvent n) h = absurd cc
ended_delivery (errors.Limit bound) h = absurd cc
ended_delivery (errors.Damaged area name) h = absurd cc

-- a life that doesn't begin is refused so for a letter, and for a delivery
pub letter_begins : (to : List Receiver) (content : List ℕ) (error : ReplayError) → IsUnbegun error → IsLetterRefusal to content error
letter_begins to content error (inl host) = of_host_letter to content error host
letter_begins to content error (inr (inl (area, name, is, some))) = subst (IsLetterRefusal to content) (sym is) some
letter_begins to content error (inr (inr (is, some))) = subst (IsLetterRefusal to content) (sym is) some

pub delivery_begins : (error : ReplayError) → IsUnbegun error → IsDeliveryRefusal error
delivery_begins error (inl host) = ended_delivery error host
delivery_begins error (inr (inl (area, name, is, some))) = subst IsDeliveryRefusal (sym is) some
delivery_begins error (inr (inr (is, some))) = subst IsDeliveryRefusal (sym is) some

pub named_begins : (error : ReplayError) → IsUnbegun error → IsNamed error
named_begins error (inl host) = of_host_named error host
named_begins error (inr (inl (area, name, is, some))) = subst IsNamed (sym is) some
named_begins error (inr (inr (is, some))) = subst IsNamed (sym is) some

-- and the end of a life
pub host_named : (error : ReplayError) → is_of_host error ≡ true → IsNamed error
host_named error h = of_host_named error h

pub each_ended : {T : Type 0} (r : Result T ReplayError) (P : ReplayError → Type 0) → ((error : ReplayError) → is_of_host error ≡ true → P error) → IfErr r (λ error. is_of_host error ≡ true) → IfErr r P
each_ended (Ok x) P h named = tt
each_ended (Err error) P h named = h error named
