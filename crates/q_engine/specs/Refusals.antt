-- Which events are refused, and why; and what becomes of a refusal of the host.
use Rattle.std.specs.Prelude.{◌≡◌, ◌≤◌, ◌<◌, IsErrOf, IsSome, Result, ◌-◌, ◌^◌, ◌&&◌, ◌==◌, Bool, if◌then◌else◌, length, List, min, nat_lt, None, not, Option, Some, true, false, ℕ}
use Rattle.q_model.specs.declared.event.Event.{Event}
use Rattle.q_model.specs.declared.event.Event.TheVariants as events
use Rattle.q_model.specs.declared.outcome.Outcome.{Outcome}
use Rattle.q_model.specs.declared.rows.Delivery.{Delivery}
use Rattle.q_model.specs.Deliveries.{flight_of}
use Rattle.q_model.specs.Ledger.{Ledger}
use Rattle.q_model.specs.Past.{arrivals}
use Rattle.q_model.specs.Settings.{World}
use Rattle.q_model.specs.Values.{Receiver}
use Rattle.q_model.specs.declared.limits.Bound.TheVariants as bounds
use Rattle.q_model.specs.FaultCounts.{Rose}
use Rattle.q_host.specs.Faults.{Faults}
use Rattle.q_host.specs.declared.error.HostError.{HostError}
use Rattle.q_host.specs.declared.error.HostError.TheVariants.{Disk, NoMemory, Tell}
use Rattle.q_core.specs.Agrees.{Agrees}
use Rattle.q_core.specs.Queries.{flight_in}
use Rattle.q_engine.specs.Heard.{is_moment}
use Rattle.q_engine.specs.Stands.{HasCounts}
use Rattle.q_engine.specs.declared.engine.Engine.{Engine}
use Rattle.q_engine.specs.declared.error.EngineError.{EngineError}
use Rattle.q_engine.specs.declared.error.EngineError.TheVariants as errors

abbrev pub refusal_of : HostError → EngineError
refusal_of Disk = errors.Disk
refusal_of Tell = errors.Tell
refusal_of NoMemory = errors.NoMemory

-- the refusal is one of the host: a fault, or want of memory
abbrev pub is_of_host : EngineError → Bool
is_of_host errors.Disk = true
is_of_host errors.Tell = true
is_of_host errors.NoMemory = true
is_of_host _ = false

-- a file can't be read any longer
abbrev pub is_unreadable : EngineError → Bool
is_unreadable (errors.Unreadable area name) = true
is_unreadable _ = false

-- a count, of which no more than 2^32 - 1 is told
abbrev pub told_count : ℕ → ℕ
told_count n = min n (2 ^ 32 - 1)

-- a reply has an outcome for each recipient of a delivery in flight
abbrev pub refused_reply : ℕ → List Outcome → Option Delivery → Option EngineError
refused_reply number os None = Some (errors.Unknown number)
refused_reply number os (Some f) = if length os == length f.row.positions then None
    else Some (errors.WrongCount number (told_count (length f.row.positions)) (told_count (length os)))

-- a message is within the limits, and has a serial left
abbrev pub refused_mail : ℕ → List Receiver → List ℕ → Option EngineError
refused_mail arrived to content = if nat_lt 10240000 (length content) then Some (errors.Limit bounds.Content)
    else (if nat_lt 50000 (length to) then Some (errors.Limit bounds.Recipients)
    else (if nat_lt arrived (2 ^ 32 - 1) then None else Some (errors.Limit bounds.Serial)))

-- why an event is refused that comes after a moment
abbrev pub refused_kind : Ledger → Event → Option EngineError
refused_kind l (events.At t) = None
refused_kind l (events.Mail sender to content) = refused_mail (arrivals l) to content
refused_kind l (events.Reply number state os) = refused_reply number os (flight_of l number)
refused_kind l (events.Trigger kind) = None

-- no moment came yet, and the event is none
abbrev pub is_early : Bool → Event → Bool
is_early timed event = not (is_moment event) && not timed

-- Why an event is refused: before the first moment of a life every other event is.
abbrev pub refused_event : Ledger → Event → Option EngineError
refused_event l event = if is_early l.timed event then Some errors.Untimed
    else refused_kind l event

-- the same by what the engine keeps itself
abbrev pub kind_refused_by : Engine → Event → Option EngineError
kind_refused_by e (events.At t) = None
kind_refused_by e (events.Mail sender to content) = refused_mail e.arrivals to content
kind_refused_by e (events.Reply number state os) =
    refused_reply number os (flight_in e.core.value number)
kind_refused_by e (events.Trigger kind) = None

abbrev pub refused_by : Engine → Event → Option EngineError
refused_by e event = if is_early e.core.value.timed event then Some errors.Untimed
    else kind_refused_by e event

-- for each ledger with which the engine agrees
abbrev pub ForAgreed : Engine → (World → Ledger → Type 0) → Type 0
ForAgreed engine says = (w : World) → (l : Ledger) → Agrees w engine.core.value l → HasCounts engine l → says w l

-- the delivery of this number is in flight
abbrev pub Flies : Engine → ℕ → Type 0
Flies engine number = IsSome (flight_in engine.core.value number)

-- a message is within the limits, and has a serial left
pub record MayArrive (arrived : ℕ) (to : List Receiver) (content : List ℕ) : Type 0 where
  pub short : length content ≤ 10240000
  pub few : length to ≤ 50000
  pub serial : arrived < 2 ^ 32 - 1

-- a message may arrive, and a reply has a delivery in flight
abbrev pub IsPossible : Engine → Event → Type 0
IsPossible engine (events.At t) = Unit {0}
IsPossible engine (events.Mail sender to content) = MayArrive engine.arrivals to content
IsPossible engine (events.Reply number state os) = Flies engine number
IsPossible engine (events.Trigger kind) = Unit {0}

-- an event that isn't refused: a moment came, and it is possible
abbrev pub IsAdmissible : Engine → Event → Type 0
IsAdmissible engine (events.At t) = Unit {0}
IsAdmissible engine (events.Mail sender to content) =
    (engine.core.value.timed ≡ true) × MayArrive engine.arrivals to content
IsAdmissible engine (events.Reply number state os) =
    (engine.core.value.timed ≡ true) × Flies engine number
IsAdmissible engine (events.Trigger kind) = engine.core.value.timed ≡ true

-- the refusal is one of an event, and not of the host
abbrev pub is_of_event : EngineError → Bool
is_of_event (errors.Unknown number) = true
is_of_event (errors.WrongCount number want got) = true
is_of_event errors.Untimed = true
is_of_event (errors.Limit bound) = true
is_of_event _ = false

-- no count of faults fell, and each fault comes only where its count rose
pub record EngineCause {T : Type 0} (before after : Faults) (result : Result T EngineError) : Type 0 where
  pub disk_later : before.disk ≤ after.disk
  pub tell_later : before.tell ≤ after.tell
  pub disk : IsErrOf result errors.Disk → Rose before.disk after.disk
  pub tell : IsErrOf result errors.Tell → Rose before.tell after.tell
