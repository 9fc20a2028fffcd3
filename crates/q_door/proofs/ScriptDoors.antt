-- What a door in memory tells, by what its hops tell.
use Rattle.std.proofs.Common.{◌≡◌, ℕ, ◌+◌, Bool, true, false, if◌then◌else◌, List, [], ◌∷◌, ◌++◌, Option, Some, None, refl, sym, ap, ◌∙◌, arith, inl, inr, ◌⊎◌, Result, Ok, Err, OnOk}
use Rattle.std.specs.Prelude.{option_map}
use Rattle.std.proofs.lemmas.List.{map-append}
use Rattle.q_link.specs.Records.{AddsHops, Closes as HopsClose, Connects, HopsView, IsFresh as HopFresh, Rests as HopsRest, TellsConnect, TellsHop, ToldHops, closed as closed_hop, with_connect, with_hop, with_record as with_hop_record, with_rest as with_hop_rest}
use Rattle.q_link.specs.Routes.{has_route}
use Rattle.q_link.specs.declared.hops.NoLink.{NoLink}
use Rattle.q_link.specs.declared.hops.NoLink.TheVariants.{Failed, NoMemory, NoRoute}
use Rattle.q_numbers.specs.Pieces.{cut}
use Rattle.q_link.specs.Views.{Told, View}
use Rattle.q_door.specs.Doors.{Accepts, Binds, Closed, Closes, DoorView, IsFresh, Rests, ToldDoor, closed, with_accept, with_record, with_rest}
use Rattle.q_door.specs.ScriptDoors.{record_of, told_with}

-- what a door tells whose hops tell this
abbrev pub told_by : Bool → ℕ → List ℕ → Option ToldHops → Option ToldDoor
told_by tells binds ports told = if tells then option_map (told_with binds ports) told else None

-- where it tells, its hops do
told_hops : (tells : Bool) (binds : ℕ) (ports : List ℕ) (told : Option ToldHops) (now : ToldDoor) → told_by tells binds ports told ≡ Some now
    → (t : ToldHops) × (told ≡ Some t) × (now ≡ told_with binds ports t) × (tells ≡ true)
told_hops false binds ports told now e = cc
told_hops true binds ports None now e = cc
told_hops true binds ports (Some t) now e = (t, refl, cc, refl)

still_told : (tells : Bool) (binds : ℕ) (ports : List ℕ) (told : Option ToldHops) (t : ToldHops) → tells ≡ true → told ≡ Some t → told_by tells binds ports told ≡ Some (told_with binds ports t)
still_told tells binds ports told t on is = rw (on, is) refl

-- a change of what the hops tell is one of what the door tells
pub adds : (tells : Bool) (binds : ℕ) (ports : List ℕ) (old new : HopsView) (change : ToldHops → ToldHops) (own : ToldDoor → ToldDoor) → ((t : ToldHops) → told_with binds ports (change t) ≡ own (told_with binds ports t))
    → AddsHops change old new → (now : ToldDoor) → told_by tells binds ports new.told ≡ Some now
    → (before : ToldDoor) × (told_by tells binds ports old.told ≡ Some before) × (now ≡ own before)
adds tells binds ports old new change own same added now e =
    let t = told_hops tells binds ports new.told now e in
    let a = added t.0 t.1 in (
      told_with binds ports a.0,
      still_told tells binds ports old.told a.0 t.3 a.1,
      t.2 ∙ ap (told_with binds ports) a.2 ∙ same a.0,
    )

-- what is known of a door whose hops are these
abbrev pub door_of : Bool → ℕ → List ℕ → Bool → HopsView → DoorView
door_of tells binds ports bound v = record {
  door_faults = v.connect_faults;
  rests = v.rests;
  link_faults = v.link_faults;
  bound = bound;
  waits_left = v.waits_left;
  told = told_by tells binds ports v.told;
}

pub rests : (tells : Bool) (binds : ℕ) (ports : List ℕ) (bound : Bool) (old new : HopsView) → HopsRest old new → Rests (door_of tells binds ports bound old) (door_of tells binds ports bound new)
rests tells binds ports bound old new h = (
  adds tells binds ports old new with_hop_rest with_rest (λ t. refl) h.0,
  ap (λ (v : HopsView). record { door_faults = v.connect_faults; rests = v.rests; link_faults = v.link_faults; bound = bound; waits_left = v.waits_left; told = told_by tells binds ports old.told }) h.1,
)

same_record : (binds : ℕ) (ports : List ℕ) (link : View) (t : Told) (b : ToldHops)
    → told_with binds ports (with_hop_record (closed_hop link t b) b) ≡ with_record (closed link t (told_with binds ports b)) (told_with binds ports b)
same_record binds ports link t b =
    ap (λ (rs : List Closed). record { binds = binds; ports = ports; accepts = b.connects; rests = b.rests; records = rs }) (map-append record_of b.records (closed_hop link t b ∷ []))

pub closes : (tells : Bool) (binds : ℕ) (ports : List ℕ) (bound : Bool) (link : View) (old new : HopsView) → HopsClose link old new → Closes link (door_of tells binds ports bound old) (door_of tells binds ports bound new)
closes tells binds ports bound link old new h = (
  λ now e.
      let t = told_hops tells binds ports new.told now e in
      let a = h.0 t.0 t.1 in (
        told_with binds ports a.0,
        a.1,
        still_told tells binds ports old.told a.0 t.3 a.2,
        a.3,
        t.2 ∙ ap (told_with binds ports) a.4 ∙ same_record binds ports link a.1 a.0,
      ),
  ap (λ (v : HopsView). record { door_faults = v.connect_faults; rests = v.rests; link_faults = v.link_faults; bound = bound; waits_left = v.waits_left; told = told_by tells binds ports old.told }) h.1,
)

pub accepts : (tells : Bool) (binds : ℕ) (ports : List ℕ) (bound : Bool) (old new : HopsView) → Connects old new → (AddsHops with_connect old new) ⊎ ((hop : List ℕ) × AddsHops (with_hop hop) old new)
    → Accepts (door_of tells binds ports bound old) (door_of tells binds ports bound new)
accepts tells binds ports bound old new c told = record {
  door_faults = c.connect_faults;
  rests = c.rests;
  link_faults = c.link_faults;
  bound = refl;
  told = elim told [
    | inl alone ↦ adds tells binds ports old new with_connect with_accept (λ t. refl) alone
    | inr hop ↦ adds tells binds ports old new (with_hop hop.0) with_accept (λ t. refl) hop.1
  ];
}

pub fresh : (tells : Bool) (binds : ℕ) (ports : List ℕ) (bound : Bool) (hop : List ℕ) (hops : HopsView) (v : View) → HopFresh hop hops v → IsFresh (door_of tells binds ports bound hops) v
fresh tells binds ports bound hop hops v f = record {
  faults = f.faults;
  wait = f.wait;
  ended = f.ended;
  usage = f.usage;
  told = λ t is. let a = f.told t is in (ap (λ (x : Told). x.received) a.2, ap (λ (x : Told). x.sent) a.2, ap (λ (x : Told). x.not_yets) a.2);
  rests = λ t now is door.
      let a = f.told t is in
      let h = told_hops tells binds ports hops.told now door in
      let same : a.0 ≡ h.0 = cc (a.1, h.1) in
      ap (λ (x : Told). x.rests_before) a.2 ∙ ap (λ (x : ToldHops). x.rests) same ∙ sym (ap (λ (x : ToldDoor). x.rests) h.2);
}

pub binds_ok : (binds : ℕ) (ports : List ℕ) (bound : Bool) (tells : Bool) (port : ℕ) (old : HopsView)
    → Binds port (Ok tt) (door_of tells binds ports bound old) (door_of tells (binds + 1) (ports ++ port ∷ []) true old)
binds_ok binds ports bound tells port old = record {
  door_faults = omega arith;
  rests = refl;
  link_faults = refl;
  waits_left = refl;
  told = λ now e. let h = told_hops tells (binds + 1) (ports ++ port ∷ []) old.told now e in (told_with binds ports h.0, still_told tells binds ports old.told h.0 h.3 h.1, h.2);
}

pub route : has_route (91 ∷ 49 ∷ 50 ∷ 55 ∷ 46 ∷ 48 ∷ 46 ∷ 48 ∷ 46 ∷ 49 ∷ 93 ∷ 58 ∷ 50 ∷ 53 ∷ []) ≡ true
unfolding cut
route = refl

pub on_ok : {T E : Type 0} (r : Result T E) (P Q : Type 0) → (P → Q) → OnOk r P → OnOk r Q
on_ok (Ok x) P Q f p = f p
on_ok (Err e) P Q f p = tt

-- an accept is a connect, whatever is told of its hop
pub told_some : {L : Type 0} (r : Result L NoLink) (hop : List ℕ) (old new : HopsView) → TellsHop hop r old new → TellsConnect r old new
    → (AddsHops with_connect old new) ⊎ ((hop : List ℕ) × AddsHops (with_hop hop) old new)
told_some (Ok link) hop old new told none = inr (hop, told (λ e. cc))
told_some (Err NoRoute) hop old new told none = inr (hop, told (λ e. cc))
told_some (Err Failed) hop old new told none = inr (hop, told (λ e. cc))
told_some (Err NoMemory) hop old new told none = inl (none refl)
