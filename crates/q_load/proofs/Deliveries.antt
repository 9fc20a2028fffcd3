-- How many deliveries a ledger of a load has begun, and how many replies came.
use Rattle.std.proofs.Common.{◌+◌, ◌<◌, ◌^◌, ◌≡◌, ◌≤◌, ◌∙◌, ◌∷◌, [], ap, arith, Bool, false, if◌then◌else◌, length, length-append, List, Option, refl, Some, suc, true, ℕ}
use Rattle.std.proofs.lemmas.List.{length-map}
use Rattle.std.specs.Prelude.{◌==◌, find, map, not}
use Rattle.q_laws.proofs.Deciding.{AreDecisions, decisions_are, IsDecision}
use Rattle.q_drain.proofs.Flying.{at_flights, inside_flights, reply_flights}
use Rattle.q_drain.proofs.Numbering.{entry_starts}
use Rattle.q_drain.proofs.Silent.{is_inside}
use Rattle.q_drain.specs.Flights.{flight, without_flight}
use Rattle.q_drain.specs.Told.{begun_of}
use Rattle.q_laws.proofs.Living.{start_flights}
use Rattle.q_load.specs.Ended.{HasEnded}
use Rattle.q_model.specs.declared.entry.Entry.{Entry}
use Rattle.q_model.specs.declared.entry.Entry.TheVariants as entries
use Rattle.q_model.specs.declared.id.Id.{Id}
use Rattle.q_model.specs.declared.outcome.Outcome.{Outcome}
use Rattle.q_model.specs.declared.outcome.SiteState.{SiteState}
use Rattle.q_model.specs.declared.rows.Delivery.{Delivery}
use Rattle.q_model.specs.Deliveries.{flight_of}
use Rattle.q_model.specs.Ledger.{Ledger}
use Rattle.q_model.specs.Past.{starts}
use Rattle.q_model.specs.Run.{decisions}
use Rattle.q_model.specs.Settings.{World}
use Rattle.q_model.specs.Step.{after, after_all}
use Rattle.q_model.specs.Values.{Receiver}

-- ---- decisions

begun_few : (l : Ledger) (e : Entry) → IsDecision l e → starts l ≤ 2 ^ 48 → starts l + length (begun_of 0 e) ≤ 2 ^ 48
begun_few l (entries.Life generation mode) d few = omega (arith, few)
begun_few l (entries.At t) d few = omega (arith, few)
begun_few l (entries.Arrive id sender to content) d few = omega (arith, few)
begun_few l (entries.Reply number site outcomes) d few = omega (arith, few)
begun_few l (entries.Trigger kind) d few = omega (arith, few)
begun_few l entries.End d few = omega (arith, few)
begun_few l (entries.Back id) d few = omega (arith, few)
begun_few l (entries.Admit id) d few = omega (arith, few)
begun_few l (entries.Load id from to) d few = omega (arith, few)
begun_few l (entries.Start number id site positions) d few = let less = d.1 in omega (arith, less)
begun_few l (entries.Preempt child parent transport need) d few = omega (arith, few)
begun_few l (entries.Skip id site positions) d few = omega (arith, few)
begun_few l (entries.Log id failure) d few = omega (arith, few)
begun_few l (entries.Mark id position) d few = omega (arith, few)
begun_few l (entries.Sync id) d few = omega (arith, few)
begun_few l (entries.Defer id due) d few = omega (arith, few)
begun_few l (entries.Bounce id) d few = omega (arith, few)
begun_few l (entries.Remove id) d few = omega (arith, few)
begun_few l (entries.Corrupt id) d few = omega (arith, few)

decision_ends : (w : World) (l : Ledger) (e : Entry) (ended : ℕ) → IsDecision l e → HasEnded ended l → HasEnded ended (after w l e)
decision_ends w l e ended d h =
    let inside = is_inside l e d in
    let flights = ap (λ (fs : List Delivery). length fs) (inside_flights w l 0 e inside) ∙ length-append l.flights (map flight (begun_of 0 e)) in
    let same = length-map (begun_of 0 e) flight in
    let begun = entry_starts w l 0 e inside.life in
    let few = begun_few l e d h.few in
    let began = h.began in
    record { began = omega (arith, began, flights, same, begun); few = omega (arith, few, begun) }

decided_ends : (w : World) (l : Ledger) (es : List Entry) (ended : ℕ) → AreDecisions w l es → HasEnded ended l → HasEnded ended (after_all w l es)
unfolding after_all
decided_ends w l [] ended d h = h
decided_ends w l (e ∷ es) ended d h = decided_ends w (after w l e) es ended d.2 (decision_ends w l e ended d.1 h)

-- no decision ends a delivery
pub decisions_end_none : (w : World) (l : Ledger) (ended : ℕ) → HasEnded ended l → HasEnded ended (after_all w l (decisions w l))
decisions_end_none w l ended h = decided_ends w l (decisions w l) ended (decisions_are w l) h

-- ---- events

pub moment_ends_none : (w : World) (l : Ledger) (t : ℕ) (ended : ℕ) → HasEnded ended l → HasEnded ended (after w l (entries.At t))
moment_ends_none w l t ended h =
    let flights = ap (λ (fs : List Delivery). length fs) (at_flights w l t) in
    let begun = entry_starts w l 0 (entries.At t) refl in
    let began = h.began in
    let few = h.few in
    record { began = omega (arith, began, flights, begun); few = omega (arith, few, begun) }

pub mail_ends_none : (w : World) (l : Ledger) (id : Id) (sender : Option (List ℕ)) (to : List Receiver) (content : List ℕ) (ended : ℕ) → HasEnded ended l → HasEnded ended (after w l (entries.Arrive id sender to content))
mail_ends_none w l id sender to content ended h =
    let flights = ap (λ (fs : List Delivery). length fs) (start_flights w l (entries.Arrive id sender to content) l.flights refl) in
    let begun = entry_starts w l 0 (entries.Arrive id sender to content) refl in
    let began = h.began in
    let few = h.few in
    record { began = omega (arith, began, flights, begun); few = omega (arith, few, begun) }

no_more : (number : ℕ) (fs : List Delivery) → length (without_flight number fs) ≤ length fs
no_more number [] = omega arith
no_more number (f ∷ fs) = by (f.number == number) (no_more number fs)
  where
    by : (b : Bool) → length (without_flight number fs) ≤ length fs → length (if not b then f ∷ without_flight number fs else without_flight number fs) ≤ suc (length fs)
    by true h = omega (arith, h)
    by false h = omega (arith, h)

one_less : (number : ℕ) (fs : List Delivery) (f : Delivery) → find (λ (g : Delivery). g.number == number) fs ≡ Some f → length (without_flight number fs) + 1 ≤ length fs
one_less number [] f h = absurd cc
one_less number (g ∷ gs) f h = by (g.number == number) h (one_less number gs f)
  where
    by : (b : Bool) → (if b then Some g else find (λ (x : Delivery). x.number == number) gs) ≡ Some f → (find (λ (x : Delivery). x.number == number) gs ≡ Some f → length (without_flight number gs) + 1 ≤ length gs)
        → length (if not b then g ∷ without_flight number gs else without_flight number gs) + 1 ≤ suc (length gs)
    by true e rest = let less = no_more number gs in omega (arith, less)
    by false e rest = let less = rest e in omega (arith, less)

-- the reply to a delivery in flight ends it
pub reply_ends_one : (w : World) (l : Ledger) (number : ℕ) (site : SiteState) (os : List Outcome) (f : Delivery) (ended : ℕ) → flight_of l number ≡ Some f → HasEnded ended l → HasEnded (ended + 1) (after w l (entries.Reply number site os))
reply_ends_one w l number site os f ended there h =
    let flights = ap (λ (fs : List Delivery). length fs) (reply_flights w l number site os) in
    let less = one_less number l.flights f there in
    let begun = entry_starts w l 0 (entries.Reply number site os) refl in
    let began = h.began in
    let few = h.few in
    record { began = omega (arith, began, flights, less, begun); few = omega (arith, few, begun) }

-- where one is in flight, fewer than 2^48 have ended
pub fewer_ended : (l : Ledger) (number : ℕ) (f : Delivery) (ended : ℕ) → flight_of l number ≡ Some f → HasEnded ended l → ended < 2 ^ 48
fewer_ended l number f ended there h =
    let less = one_less number l.flights f there in
    let began = h.began in
    let few = h.few in
    omega (arith, less, began, few)
