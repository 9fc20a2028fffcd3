-- What hops count, and what those that tell tell.
use Rattle.std.specs.Prelude.{◌+◌, ◌++◌, ◌-◌, ◌≡◌, ◌≤◌, ◌^◌, [], ◌∷◌, Bool, Err, false, if◌then◌else◌, IsErrOf, List, min, Ok, Option, Result, Some, ℕ}
use Rattle.q_model.specs.FaultCounts.{Rose}
use Rattle.q_link.specs.declared.hops.NoLink.{NoLink}
use Rattle.q_link.specs.declared.hops.NoLink.TheVariants.{Failed, NoMemory}
use Rattle.q_link.specs.declared.usage.Usage.TheVariants.{Open}
use Rattle.q_link.specs.Views.{NoWait, Told, View}
use Rattle.q_link.specs.WaitsLeft.{Spares, waits_sum}

-- A link that was closed: what it told, whether it ended, its faults, the rests since its connect,
-- and the connect calls so far.
pub record Closed : Type 0 where
  pub hop : List ℕ
  pub received : List ℕ
  pub sent : List ℕ
  pub ended : Bool
  pub faults : ℕ
  pub not_yets : ℕ
  pub rests : ℕ
  pub connects : ℕ

-- The connect calls, whatever they answered; the next hops of those that `NoMemory` didn't answer,
-- in order; the rests; and a record for each link that was closed.
pub record ToldHops : Type 0 where
  pub connects : ℕ
  pub hops : List (List ℕ)
  pub rests : ℕ
  pub records : List Closed

-- Faults of connects, rests, and the faults and ends of the links that were closed. Each count
-- stands at its last value where it would pass that. And how often all links that are still to be
-- opened may answer `NotYet`, where that is known.
pub record HopsView : Type 0 where
  pub connect_faults : ℕ
  pub rests : ℕ
  pub link_faults : ℕ
  pub link_ends : ℕ
  pub waits_left : Option ℕ
  pub told : Option ToldHops

-- a count with so many more, up to its last value
abbrev pub counted : ℕ → ℕ → ℕ
counted count more = min (count + more) (2 ^ 64 - 1)

-- where they still tell, they told before, and this was changed
abbrev pub AddsHops : (ToldHops → ToldHops) → HopsView → HopsView → Type 0
AddsHops change old new = (now : ToldHops) → new.told ≡ Some now
    → (before : ToldHops) × (old.told ≡ Some before) × (now ≡ change before)

abbrev pub with_connect : ToldHops → ToldHops
with_connect t = record t { connects = t.connects + 1 }

abbrev pub with_hop : List ℕ → ToldHops → ToldHops
with_hop hop t = record t { connects = t.connects + 1; hops = t.hops ++ hop ∷ [] }

abbrev pub with_rest : ToldHops → ToldHops
with_rest t = record t { rests = t.rests + 1 }

-- A connect counts nothing but its own fault.
pub record Connects (old new : HopsView) : Type 0 where
  pub connect_faults : old.connect_faults ≤ new.connect_faults
  pub rests : new.rests ≡ old.rests
  pub link_faults : new.link_faults ≡ old.link_faults
  pub link_ends : new.link_ends ≡ old.link_ends

-- unless memory ran out, a connect is told, and its next hop
abbrev pub TellsHop : {L : Type 0} → List ℕ → Result L NoLink → HopsView → HopsView → Type 0
TellsHop hop result old new = (IsErrOf result NoMemory → ⊥) → AddsHops (with_hop hop) old new

-- where memory ran out, a connect is told without it
abbrev pub TellsConnect : {L : Type 0} → Result L NoLink → HopsView → HopsView → Type 0
TellsConnect result old new = IsErrOf result NoMemory → AddsHops with_connect old new

-- a connect that failed is counted
abbrev pub CountsFailure : {L : Type 0} → Result L NoLink → HopsView → HopsView → Type 0
CountsFailure result old new = IsErrOf result Failed → Rose old.connect_faults new.connect_faults

-- What a link may answer isn't left to those that are still to be opened.
abbrev pub MovesWaits : {L : Type 0} → (L → View) → Result L NoLink → HopsView → HopsView → Type 0
MovesWaits view (Ok link) old new =
    Spares 0 old.waits_left (waits_sum new.waits_left (view link).waits_left)
MovesWaits view (Err error) old new = Spares 0 old.waits_left new.waits_left

-- a link over which nothing came or went yet
pub record IsFresh (hop : List ℕ) (hops : HopsView) (v : View) : Type 0 where
  pub faults : v.faults ≡ 0
  pub wait : v.wait ≡ NoWait
  pub ended : v.ended ≡ false
  pub usage : v.usage ≡ Open
  pub told : (t : Told) → v.told ≡ Some t → (now : ToldHops) × (hops.told ≡ Some now)
      × (t ≡ record { hop = hop; received = []; sent = []; not_yets = 0; rests_before = now.rests })

-- a rest counts one, and is told
abbrev pub Rests : HopsView → HopsView → Type 0
Rests old new = AddsHops with_rest old new
    × (record new { told = old.told } ≡ record old { rests = counted old.rests 1 })

-- what a rest does to its link
pub record IsRested (old new : View) : Type 0 where
  pub faults : new.faults ≡ old.faults
  pub wait : new.wait ≡ NoWait
  pub ended : new.ended ≡ old.ended
  pub usage : new.usage ≡ old.usage
  pub waits_left : new.waits_left ≡ old.waits_left
  pub told : new.told ≡ old.told

abbrev pub closed : View → Told → ToldHops → Closed
closed v t hops = record {
  hop = t.hop;
  received = t.received;
  sent = t.sent;
  ended = v.ended;
  faults = v.faults;
  not_yets = t.not_yets;
  rests = hops.rests - t.rests_before;
  connects = hops.connects;
}

abbrev pub with_record : Closed → ToldHops → ToldHops
with_record c t = record t { records = t.records ++ c ∷ [] }

-- The record of this link is added; where the hops still tell, the link told.
abbrev pub AddsRecord : View → HopsView → HopsView → Type 0
AddsRecord link old new = (now : ToldHops) → new.told ≡ Some now
    → (before : ToldHops) × (t : Told) × (old.told ≡ Some before)
    × (link.told ≡ Some t) × (now ≡ with_record (closed link t before) before)

-- the faults of a link that is closed are counted, and its end
abbrev pub with_closed : View → HopsView → HopsView
with_closed link h = record h {
  link_faults = counted h.link_faults link.faults;
  link_ends = counted h.link_ends (if link.ended then 1 else 0);
}

-- a link was closed
abbrev pub Closes : View → HopsView → HopsView → Type 0
Closes link old new = AddsRecord link old new
    × (record new { told = old.told } ≡ with_closed link old)

-- nothing was closed, and at most the telling ended
abbrev pub StaysOpen : HopsView → HopsView → Type 0
StaysOpen old new = AddsHops (λ t. t) old new × (record new { told = old.told } ≡ old)
