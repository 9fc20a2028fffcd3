-- Rests, answers `NotYet` and faults of a door, from call to call.
use Rattle.std.proofs.Common.{◌≡◌, ◌≤◌, ◌<◌, ◌+◌, ℕ, Option, Some, None, refl, sym, ap, ◌∙◌, arith, subst}
use Rattle.std.specs.Prelude.{Err, Ok, Result}
use Rattle.q_door.specs.Doors.{Accepts, Binds, DoorView}
use Rattle.q_door.specs.declared.door.DoorError.{DoorError}
use Rattle.q_link.proofs.Sparing.{spares_then}
use Rattle.q_link.specs.Records.{counted}
use Rattle.q_link.specs.Views.{View as LinkView}
use Rattle.q_link.specs.WaitsLeft.{Spares, waits_sum}
use Rattle.q_listen.specs.ListenEnds.{CountsRests}
use Rattle.q_listen.specs.Phases.{CountedPoll, CountedTo, IsCounted, KeepsDoor, RestsOnce}
use Rattle.q_listen.specs.Refusals.{DoorCause}
use Rattle.q_listen.specs.declared.hearing.Life.{Life}
use Rattle.q_listen.specs.declared.listened.ListenError.{ListenError}
use Rattle.q_listen.specs.declared.listened.ListenError.TheVariants as errors
use Rattle.q_listen.specs.declared.polling.Polled.{Polled}
use Rattle.q_listen.specs.declared.polling.Polled.TheVariants.{Onward, Over, Spent}
use Rattle.q_model.specs.FaultCounts.{Rose}

-- ---- answers `NotYet`

-- of the open link
spares_link : (a b : ℕ) (x d l m : Option ℕ) → Spares a x (waits_sum d l) → Spares b l m → Spares (a + b) x (waits_sum d m)
spares_link a b None d l m h less = tt
spares_link a b (Some n) None l m h less = let bad : None ≡ Some h.0 = h.1 in absurd cc
spares_link a b (Some n) (Some p) None m h less = let bad : None ≡ Some h.0 = h.1 in absurd cc
spares_link a b (Some n) (Some p) (Some q) m h less =
    let left : p + q ≡ h.0 = same_some (p + q) h.0 h.1 in
    let most = h.2 in
    let fewer = less.2 in
    (p + less.0, ap (waits_sum (Some p)) less.1, omega (arith, left, most, fewer))
  where
    same_some : (a b : ℕ) → Some a ≡ Some b → a ≡ b
    same_some a b h = cc

-- the open link is closed, or over
pub spares_door : (a : ℕ) (x d l : Option ℕ) → Spares a x (waits_sum d l) → Spares a x d
spares_door a None d l h = tt
spares_door a (Some n) None l h = let bad : None ≡ Some h.0 = h.1 in absurd cc
spares_door a (Some n) (Some p) None h = let bad : None ≡ Some h.0 = h.1 in absurd cc
spares_door a (Some n) (Some p) (Some q) h =
    let left : p + q ≡ h.0 = same_some (p + q) h.0 h.1 in
    let most = h.2 in
    (p, refl, omega (arith, left, most))
  where
    same_some : (a b : ℕ) → Some a ≡ Some b → a ≡ b
    same_some a b h = cc

spares_few : (rests : ℕ) (x y : Option ℕ) → Spares (rests + 1) x y → (most : ℕ) → x ≡ Some most → rests < most
spares_few rests x y h most is = let s = subst (λ (o : Option ℕ). Spares (rests + 1) o y) is h in let less = s.2 in omega (arith, less)

spares_plus : (a b : ℕ) (x y : Option ℕ) → a ≡ b → Spares a x y → Spares b x y
spares_plus a b x y is h = subst (λ (n : ℕ). Spares n x y) is h

-- ---- a poll

rests_more : (first d e given : ℕ) → counted d 0 ≡ counted first given → e ≡ counted d 1 → counted e 0 ≡ counted first (given + 1)
rests_more first d e given was is = omega (arith, was, is)

abbrev left_with : DoorView → LinkView → Option ℕ
left_with d l = waits_sum d.waits_left l.waits_left

-- it waited
pub waits_counted : (first d e : DoorView) (l m n : LinkView) (life : Life) (rests : ℕ) (polled : Polled) → Spares 1 l.waits_left m.waits_left → RestsOnce d e m n life rests polled → IsCounted first d (left_with d l) life.given → CountedPoll first e n rests (Ok polled)
waits_counted first d e l m n life rests (Onward next) less (is, few, rest, link) c =
    let kept = ap (λ (x : DoorView). x.waits_left) rest.1 in
    let spares = spares_link life.given 1 first.waits_left d.waits_left l.waits_left m.waits_left c.spares less in
    subst (λ (x : Life). IsCounted first e (left_with e n) x.given) (sym is) (record {
      rests = rests_more first.rests d.rests e.rests life.given c.rests (ap (λ (x : DoorView). x.rests) rest.1);
      spares = subst (λ (o : Option ℕ). Spares (life.given + 1) first.waits_left (waits_sum o n.waits_left)) (sym kept)
          (subst (λ (o : Option ℕ). Spares (life.given + 1) first.waits_left (waits_sum d.waits_left o)) (sym link.waits_left) spares);
    })
waits_counted first d e l m n life rests (Over next) less h c = absurd h
waits_counted first d e l m n life rests Spent less (all, door, link) c =
    let spares = spares_link life.given 1 first.waits_left d.waits_left l.waits_left m.waits_left c.spares less in
    record {
      rests_are = subst (λ (x : DoorView). CountsRests first x rests) (sym door) (subst (CountsRests first d) all c.rests);
      few = spares_few rests first.waits_left (left_with d m) (spares_plus (life.given + 1) (rests + 1) first.waits_left (left_with d m) (ap (λ (n : ℕ). n + 1) all) spares);
    }

-- it gave a message
pub mail_counted : (first d : DoorView) (l m : LinkView) (given : ℕ) → Spares 0 l.waits_left m.waits_left → IsCounted first d (left_with d l) given → IsCounted first d (left_with d m) given
mail_counted first d l m given less c = record {
  rests = c.rests;
  spares = spares_plus (given + 0) given first.waits_left (left_with d m) (omega arith) (spares_link given 0 first.waits_left d.waits_left l.waits_left m.waits_left c.spares less);
}

pub mail_counted_at : (first d : DoorView) (l m : LinkView) (given more : ℕ) → more ≡ given → Spares 0 l.waits_left m.waits_left → IsCounted first d (left_with d l) given → IsCounted first d (left_with d m) more
mail_counted_at first d l m given more is less c = subst (IsCounted first d (left_with d m)) (sym is) (mail_counted first d l m given less c)

-- the session is over
pub over_counted : (first d : DoorView) (l : LinkView) (given : ℕ) → IsCounted first d (left_with d l) given → IsCounted first d d.waits_left given
over_counted first d l given c = record { rests = c.rests; spares = spares_door given first.waits_left d.waits_left l.waits_left c.spares }

pub keeps_rested : (d e : DoorView) (l m : LinkView) (life : Life) (rests : ℕ) (polled : Polled) → RestsOnce d e l m life rests polled → KeepsDoor d e
keeps_rested d e l m life rests (Onward next) (is, few, rest, link) = record { door_faults = ap (λ (x : DoorView). x.door_faults) rest.1; bound = ap (λ (x : DoorView). x.bound) rest.1 }
keeps_rested d e l m life rests (Over next) h = absurd h
keeps_rested d e l m life rests Spent (all, door, link) = record { door_faults = ap (λ (x : DoorView). x.door_faults) door; bound = ap (λ (x : DoorView). x.bound) door }

pub keeps_then : (d e f : DoorView) → KeepsDoor d e → KeepsDoor e f → KeepsDoor d f
keeps_then d e f a b = record { door_faults = b.door_faults ∙ a.door_faults; bound = b.bound ∙ a.bound }

pub keeps_same : (d : DoorView) → KeepsDoor d d
keeps_same d = record { door_faults = refl; bound = refl }

-- ---- a link

pub accept_counted : (first d e : DoorView) (l : LinkView) (given : ℕ) → Accepts d e → Spares 0 d.waits_left (left_with e l) → IsCounted first d d.waits_left given → IsCounted first e (left_with e l) given
accept_counted first d e l given a moves c = record {
  rests = subst (λ (n : ℕ). counted n 0 ≡ counted first.rests given) (sym a.rests) c.rests;
  spares = spares_plus (given + 0) given first.waits_left (left_with e l) (omega arith) (spares_then given 0 first.waits_left d.waits_left (left_with e l) c.spares moves);
}

-- closed or not, the counts of rests and waits stay
pub closed_counts : (first d e : DoorView) (rests : ℕ) (served : Result _ ListenError) → e.rests ≡ d.rests → e.waits_left ≡ d.waits_left → CountedTo first d rests served → CountedTo first e rests served
closed_counts first d e rests (Ok (Some life)) same waits c = record {
  rests = subst (λ (n : ℕ). counted n 0 ≡ counted first.rests life.given) (sym same) c.rests;
  spares = subst (Spares life.given first.waits_left) (sym waits) c.spares;
}
closed_counts first d e rests (Ok None) same waits c = record { rests_are = subst (λ (n : ℕ). counted n 0 ≡ counted first.rests rests) (sym same) c.rests_are; few = c.few }
closed_counts first d e rests (Err error) same waits c = tt

pub bound_counted : (d e : DoorView) (port : ℕ) (answer : Result (Unit {0}) DoorError) → Binds port answer d e → IsCounted d e e.waits_left 0
bound_counted d e port answer b = record {
  rests = let same = b.rests in omega (arith, same);
  spares = subst (λ (o : Option ℕ). Spares 0 d.waits_left o) (sym b.waits_left) (spares_here d.waits_left);
}
  where
    spares_here : (x : Option ℕ) → Spares 0 x x
    spares_here None = tt
    spares_here (Some n) = (n, refl, omega arith)

-- ---- faults of the door

pub door_ok : {T : Type 0} (old new : ℕ) (made : T) → old ≤ new → DoorCause {T = T} old new (Ok made)
door_ok old new made later = record { later = later; door = λ is. absurd cc }

pub door_other : {T : Type 0} (old new : ℕ) (made : ListenError) → (made ≡ errors.Door → ⊥) → old ≤ new → DoorCause {T = T} old new (Err made)
door_other old new made other later = record { later = later; door = λ is. let same : made ≡ errors.Door = cc in absurd (other same) }

pub door_failed : {T : Type 0} (old new : ℕ) → old ≤ new → Rose old new → DoorCause {T = T} old new (Err errors.Door)
door_failed old new later rose = record { later = later; door = λ is. rose }

-- a call that gives no rest
pub given_counted : (first d : DoorView) (left : Option ℕ) (given more : ℕ) → more ≡ given → IsCounted first d left given → IsCounted first d left more
given_counted first d left given more is c = subst (IsCounted first d left) (sym is) c
