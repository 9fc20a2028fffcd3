-- What doors count, and what those that tell tell.
use Rattle.std.specs.Prelude.{◌+◌, ◌++◌, ◌-◌, ◌≡◌, ◌≤◌, [], ◌∷◌, Bool, Err, false, IsErrOf, List, Ok, Option, Result, Some, ℕ}
use Rattle.q_model.specs.FaultCounts.{Rose}
use Rattle.q_link.specs.Records.{counted}
use Rattle.q_link.specs.Views.{NoWait, Told, View}
use Rattle.q_link.specs.WaitsLeft.{Spares, waits_sum}
use Rattle.q_link.specs.declared.usage.Usage.TheVariants.{Open}
use Rattle.q_door.specs.declared.door.DoorError.{DoorError}
use Rattle.q_door.specs.declared.door.DoorError.TheVariants.{Failed}

-- A link that was closed: what it told, whether it ended, its faults, the rests since its accept, and
-- the accept calls so far.
pub record Closed : Type 0 where
  pub received : List ℕ
  pub sent : List ℕ
  pub ended : Bool
  pub faults : ℕ
  pub not_yets : ℕ
  pub rests : ℕ
  pub accepts : ℕ

-- The binds, whatever they answered, and the ports of those that answered Ok, in order; the accept
-- calls, whatever they answered; the rests; and a record for each link that was closed.
pub record ToldDoor : Type 0 where
  pub binds : ℕ
  pub ports : List ℕ
  pub accepts : ℕ
  pub rests : ℕ
  pub records : List Closed

-- Faults of binds and accepts, rests, and the faults of the links that were closed, each of which
-- stands at its last value where it would pass that; whether a bind answered Ok; and how often all links
-- that are still to be accepted may answer `NotYet`, where that is known.
pub record DoorView : Type 0 where
  pub door_faults : ℕ
  pub rests : ℕ
  pub link_faults : ℕ
  pub bound : Bool
  pub waits_left : Option ℕ
  pub told : Option ToldDoor

-- where it still tells, it told before, and this was changed
abbrev pub AddsDoor : (ToldDoor → ToldDoor) → DoorView → DoorView → Type 0
AddsDoor change old new = (now : ToldDoor) → new.told ≡ Some now
    → (before : ToldDoor) × (old.told ≡ Some before) × (now ≡ change before)

-- a bind, whose port counts where it answered Ok
abbrev pub with_bind : ℕ → Result (Unit {0}) DoorError → ToldDoor → ToldDoor
with_bind port (Ok done) t = record t { binds = t.binds + 1; ports = t.ports ++ port ∷ [] }
with_bind port (Err error) t = record t { binds = t.binds + 1 }

abbrev pub with_accept : ToldDoor → ToldDoor
with_accept t = record t { accepts = t.accepts + 1 }

abbrev pub with_rest : ToldDoor → ToldDoor
with_rest t = record t { rests = t.rests + 1 }

-- a bind counts nothing but its own fault
pub record Binds (port : ℕ) (answer : Result (Unit {0}) DoorError) (old new : DoorView) : Type 0 where
  pub door_faults : old.door_faults ≤ new.door_faults
  pub rests : new.rests ≡ old.rests
  pub link_faults : new.link_faults ≡ old.link_faults
  pub waits_left : new.waits_left ≡ old.waits_left
  pub told : AddsDoor (with_bind port answer) old new

-- so does an accept, and the door stays bound
pub record Accepts (old new : DoorView) : Type 0 where
  pub door_faults : old.door_faults ≤ new.door_faults
  pub rests : new.rests ≡ old.rests
  pub link_faults : new.link_faults ≡ old.link_faults
  pub bound : new.bound ≡ old.bound
  pub told : AddsDoor with_accept old new

-- a failure is counted
abbrev pub CountsFailure : {L : Type 0} → Result L DoorError → DoorView → DoorView → Type 0
CountsFailure result old new = IsErrOf result Failed → Rose old.door_faults new.door_faults

-- What a link may answer isn't left to those that are still to be accepted.
abbrev pub MovesWaits : {L : Type 0} → (L → View) → Result L DoorError → DoorView → DoorView → Type 0
MovesWaits view (Ok link) old new =
    Spares 0 old.waits_left (waits_sum new.waits_left (view link).waits_left)
MovesWaits view (Err error) old new = Spares 0 old.waits_left new.waits_left

-- a link over which nothing came or went yet
pub record IsFresh (door : DoorView) (v : View) : Type 0 where
  pub faults : v.faults ≡ 0
  pub wait : v.wait ≡ NoWait
  pub ended : v.ended ≡ false
  pub usage : v.usage ≡ Open
  pub told : (t : Told) → v.told ≡ Some t → (t.received ≡ []) × (t.sent ≡ []) × (t.not_yets ≡ 0)
  pub rests : (t : Told) (now : ToldDoor) → v.told ≡ Some t → door.told ≡ Some now → t.rests_before ≡ now.rests

-- a rest counts one, and is told
abbrev pub Rests : DoorView → DoorView → Type 0
Rests old new = AddsDoor with_rest old new
    × (record new { told = old.told } ≡ record old { rests = counted old.rests 1 })

abbrev pub closed : View → Told → ToldDoor → Closed
closed v t door = record {
  received = t.received;
  sent = t.sent;
  ended = v.ended;
  faults = v.faults;
  not_yets = t.not_yets;
  rests = door.rests - t.rests_before;
  accepts = door.accepts;
}

abbrev pub with_record : Closed → ToldDoor → ToldDoor
with_record c t = record t { records = t.records ++ c ∷ [] }

-- The record of this link is added; where the door still tells, the link told.
abbrev pub AddsRecord : View → DoorView → DoorView → Type 0
AddsRecord link old new = (now : ToldDoor) → new.told ≡ Some now
    → (before : ToldDoor) × (t : Told) × (old.told ≡ Some before)
    × (link.told ≡ Some t) × (now ≡ with_record (closed link t before) before)

-- a link was closed, and its faults are counted
abbrev pub Closes : View → DoorView → DoorView → Type 0
Closes link old new = AddsRecord link old new
    × (record new { told = old.told } ≡ record old { link_faults = counted old.link_faults link.faults })

-- nothing was closed, and at most the telling ended
abbrev pub StaysOpen : DoorView → DoorView → Type 0
StaysOpen old new = AddsDoor (λ t. t) old new × (record new { told = old.told } ≡ old)
