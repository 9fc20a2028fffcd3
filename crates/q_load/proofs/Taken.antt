-- A ledger of a load stays timed behind its first moment, and counts the mails that came.
use Rattle.std.proofs.Common.{◌+◌, ◌++◌, ◌≡◌, ◌∙◌, ◌∷◌, [], ap, arith, Bool, cond, false, if◌then◌else◌, length, List, None, Option, refl, replicate, Some, subst, sym, true, ℕ}
use Rattle.std.proofs.lemmas.List.Sums.{sum_by-cons}
use Rattle.std.specs.Option.{option_map_or}
use Rattle.std.specs.Prelude.{count_by, max, nat_le}
use Rattle.q_drain.proofs.Silent.{AreInside, decisions_inside, IsInside}
use Rattle.q_engine.proofs.Counting.{after_past}
use Rattle.q_laws.proofs.Loaded.{records_is}
use Rattle.q_laws.proofs.Tidied.{tidy_scan_is}
use Rattle.q_laws.specs.Traces.{is_outside}
use Rattle.q_load.proofs.Bounds.{behind_is, more}
use Rattle.q_load.specs.Due.{is_mail}
use Rattle.q_load.specs.Loads.{begun, behind, first, load_world}
use Rattle.q_load.specs.Taken.{HasTaken}
use Rattle.q_model.specs.Alternation.{after_pick, passed, Pick, pick}
use Rattle.q_model.specs.Alternation.Pick.{from_deferred, from_incoming}
use Rattle.q_model.specs.Arrivals.{next_id}
use Rattle.q_model.specs.Batches.{load_rows}
use Rattle.q_model.specs.Book.{empty_book, message_of}
use Rattle.q_model.specs.BookChanges.{add_message}
use Rattle.q_model.specs.Clock.{scheduled, woken}
use Rattle.q_model.specs.declared.entry.Entry.{Entry}
use Rattle.q_model.specs.declared.entry.Entry.TheVariants as entries
use Rattle.q_model.specs.declared.event.Event.{Event}
use Rattle.q_model.specs.declared.event.Event.TheVariants as events
use Rattle.q_model.specs.declared.event.Mode.TheVariants.{Deliver}
use Rattle.q_model.specs.declared.event.Trigger.{Trigger}
use Rattle.q_model.specs.declared.event.Trigger.TheVariants as triggers
use Rattle.q_model.specs.declared.id.Id.{Id}
use Rattle.q_model.specs.declared.outcome.Outcome.{Outcome}
use Rattle.q_model.specs.declared.outcome.Outcome.TheVariants as outcomes
use Rattle.q_model.specs.declared.rows.Request.{Request}
use Rattle.q_model.specs.declared.rows.Request.TheVariants as requests
use Rattle.q_model.specs.declared.rows.Scan.{Scan}
use Rattle.q_model.specs.Deliveries.{flight_of}
use Rattle.q_model.specs.Leftovers.{is_next_leftover}
use Rattle.q_model.specs.Ledger.{Ledger, opening}
use Rattle.q_model.specs.Loads.{loaded}
use Rattle.q_model.specs.Notices.{bounce_message}
use Rattle.q_model.specs.Past.{arrivals, is_arrive, is_life}
use Rattle.q_model.specs.Replies.{landed, replied}
use Rattle.q_model.specs.Run.{decisions, event_entry}
use Rattle.q_model.specs.Scans.{ask_scan, joined_request, new_scan}
use Rattle.q_model.specs.Settings.{World}
use Rattle.q_model.specs.Settling.{needs_of, with_outcomes}
use Rattle.q_model.specs.Skips.{unqueued}
use Rattle.q_model.specs.Step.{after, after_all, change, noted}

-- ---- a moment came

option_timed : {A : Type 0} (l : Ledger) (f : A → Ledger) → ((x : A) → (f x).timed ≡ l.timed) → (o : Option A) → (option_map_or f o l).timed ≡ l.timed
option_timed l f h None = refl
option_timed l f h (Some x) = h x

if_timed : (b : Bool) (x y : Ledger) (t : Bool) → x.timed ≡ t → y.timed ≡ t → (if b then x else y).timed ≡ t
if_timed true x y t h k = h
if_timed false x y t h k = k

passed_timed : (l : Ledger) (p : Pick) → (passed p l).timed ≡ l.timed
passed_timed l (from_incoming id) = refl
passed_timed l (from_deferred name) = refl

pick_timed : (l : Ledger) → (after_pick l).timed ≡ l.timed
pick_timed l = option_timed l (λ p. passed p l) (passed_timed l) (pick l)

asked_timed : (l : Ledger) (request : Request) (o : Option Scan) →
    (option_map_or (λ s. record l { asked = Some (joined_request l.asked request); ignores = false }) o (record l { scan = Some (new_scan l.now request); ignores = false })).timed ≡ l.timed
asked_timed l request None = refl
asked_timed l request (Some s) = refl

ask_timed : (l : Ledger) → (ask_scan l).timed ≡ l.timed
ask_timed l = asked_timed l (if l.ignores then requests.All else requests.Due) l.scan

outcomes_timed : (w : World) (id : Id) (positions : List ℕ) (os : List Outcome) (l : Ledger) → (with_outcomes w id positions os l).timed ≡ l.timed
outcomes_timed w id positions os l = option_timed l (λ m. record l { unsettled = l.unsettled ++ needs_of w l.now m positions os }) (λ m. refl) (message_of l.book id)

trigger_timed : (w : World) (l : Ledger) (kind : Trigger) → (change w l (entries.Trigger kind)).timed ≡ l.timed
trigger_timed w l triggers.D = ask_timed l
trigger_timed w l triggers.A = refl
trigger_timed w l triggers.F = refl

at_timed : (w : World) (l : Ledger) (t : ℕ) → (change w l (entries.At t)).timed ≡ true
at_timed w l t = if_timed (nat_le l.next_run t) (ask_scan (scheduled w l t)) (woken w l t) true (ask_timed (scheduled w l t)) refl

change_timed : (w : World) (l : Ledger) (e : Entry) → is_life e ≡ false → l.timed ≡ true → (change w l e).timed ≡ true
change_timed w l (entries.Life generation mode) h t = absurd cc
change_timed w l (entries.At moment) h t = at_timed w l moment
change_timed w l entries.End h t = t
change_timed w l (entries.Arrive id sender to content) h t = t
change_timed w l (entries.Back id) h t = t
change_timed w l (entries.Admit id) h t = pick_timed l ∙ t
change_timed w l (entries.Load id from to) h t = option_timed l (λ m. loaded w l id to (load_rows w m from to)) (λ m. let r = records_is w (load_rows w m from to) l in ap (λ (k : Ledger). k.timed) r.1) (message_of l.book id) ∙ t
change_timed w l (entries.Start number id site positions) h t = t
change_timed w l (entries.Preempt child parent transport need) h t = t
change_timed w l (entries.Reply number site os) h t = option_timed l (λ f. replied w l site os f) (λ f. outcomes_timed w f.row.id f.row.positions os (landed w l site f)) (flight_of l number) ∙ t
change_timed w l (entries.Skip id site positions) h t = outcomes_timed w id positions (replicate (length positions) (outcomes.Later 0)) (unqueued l id site positions) ∙ t
change_timed w l (entries.Log id failure) h t = t
change_timed w l (entries.Mark id position) h t = t
change_timed w l (entries.Sync id) h t = t
change_timed w l (entries.Defer id due) h t = t
change_timed w l (entries.Bounce id) h t = option_timed l (λ m. record l { book = add_message l.book (bounce_message l.now m) }) (λ m. refl) (message_of l.book id) ∙ t
change_timed w l (entries.Remove id) h t = t
change_timed w l (entries.Corrupt id) h t = if_timed (is_next_leftover l id) l (after_pick l) l.timed refl (pick_timed l) ∙ t
change_timed w l (entries.Trigger kind) h t = trigger_timed w l kind ∙ t

after_timed : (w : World) (l : Ledger) (e : Entry) → (change w l e).timed ≡ true → (after w l e).timed ≡ true
unfolding after
after_timed w l e h = let t = tidy_scan_is (noted e (change w l e)) in ap (λ (k : Ledger). k.timed) t.2 ∙ h

-- ---- mails

after_arrivals : (w : World) (l : Ledger) (e : Entry) (n : ℕ) → is_life e ≡ false → arrivals l ≡ n → arrivals (after w l e) ≡ cond (is_arrive e) 1 0 + n
after_arrivals w l e n life h =
    ap (count_by is_arrive) (after_past w l e life)
    ∙ sum_by-cons (λ (x : Entry). cond (is_arrive x) 1 0) e l.past
    ∙ ap (λ (m : ℕ). cond (is_arrive e) 1 0 + m) h

-- ---- both, behind an entry

entry_takes : (w : World) (l : Ledger) (e : Entry) (n : ℕ) → is_life e ≡ false → HasTaken n l → HasTaken (cond (is_arrive e) 1 0 + n) (after w l e)
entry_takes w l e n life h = record {
  timed = after_timed w l e (change_timed w l e life h.timed);
  arrived = after_arrivals w l e n life h.arrived;
}

taken_as : (m n : ℕ) (l : Ledger) → m ≡ n → HasTaken m l → HasTaken n l
taken_as m n l same h = subst (λ (k : ℕ). HasTaken k l) same h

no_arrival : (e : Entry) → is_outside e ≡ false → is_arrive e ≡ false
no_arrival (entries.Life generation mode) h = refl
no_arrival (entries.At t) h = refl
no_arrival entries.End h = refl
no_arrival (entries.Arrive id sender to content) h = absurd cc
no_arrival (entries.Back id) h = refl
no_arrival (entries.Admit id) h = refl
no_arrival (entries.Load id from to) h = refl
no_arrival (entries.Start number id site positions) h = refl
no_arrival (entries.Preempt child parent transport need) h = refl
no_arrival (entries.Reply number site os) h = refl
no_arrival (entries.Skip id site positions) h = refl
no_arrival (entries.Log id failure) h = refl
no_arrival (entries.Mark id position) h = refl
no_arrival (entries.Sync id) h = refl
no_arrival (entries.Defer id due) h = refl
no_arrival (entries.Bounce id) h = refl
no_arrival (entries.Remove id) h = refl
no_arrival (entries.Corrupt id) h = refl
no_arrival (entries.Trigger kind) h = refl

inside_takes : (w : World) (l : Ledger) (e : Entry) (n : ℕ) → IsInside e → HasTaken n l → HasTaken n (after w l e)
inside_takes w l e n inside h =
    let same : cond (is_arrive e) 1 0 + n ≡ n = ap (λ (b : Bool). cond b 1 0 + n) (no_arrival e inside.outside) ∙ omega arith in
    taken_as (cond (is_arrive e) 1 0 + n) n (after w l e) same (entry_takes w l e n inside.life h)

-- decisions take nothing
decided_take : (w : World) (l : Ledger) (es : List Entry) (n : ℕ) → AreInside es → HasTaken n l → HasTaken n (after_all w l es)
unfolding after_all
decided_take w l [] n h taken = taken
decided_take w l (e ∷ es) n h taken = decided_take w (after w l e) es n h.1 (inside_takes w l e n h.0 taken)

event_takes : (l : Ledger) (e : Event) (n : ℕ) → HasTaken n l → HasTaken (cond (is_mail e) 1 0 + n) (after load_world l (event_entry l e))
event_takes l (events.At t) n h = entry_takes load_world l (entries.At (max l.now t)) n refl h
event_takes l (events.Mail sender to content) n h = entry_takes load_world l (entries.Arrive (next_id l) sender to content) n refl h
event_takes l (events.Reply number site os) n h = entry_takes load_world l (entries.Reply number site os) n refl h
event_takes l (events.Trigger kind) n h = entry_takes load_world l (entries.Trigger kind) n refl h

behind_takes : (l : Ledger) (e : Event) (n : ℕ) → HasTaken n (after load_world l (event_entry l e)) → HasTaken n (behind l e)
behind_takes l e n h =
    let k : Ledger = after load_world l (event_entry l e) in
    subst (λ (m : Ledger). HasTaken n m) (sym (behind_is l e)) (decided_take load_world k (decisions load_world k) n (decisions_inside load_world k) h)

-- an event more, behind those that came
pub one_taken : (l : Ledger) (e : Event) (heard : List Event) → HasTaken (count_by is_mail heard) l → HasTaken (count_by is_mail (e ∷ heard)) (behind l e)
one_taken l e heard h =
    taken_as (cond (is_mail e) 1 0 + count_by is_mail heard) (count_by is_mail (e ∷ heard)) (behind l e) (sym (more is_mail e heard))
    (behind_takes l e _ (event_takes l e (count_by is_mail heard) h))

-- ---- the first ledger

none_arrived : arrivals begun ≡ 0
unfolding after
none_arrived = ap (λ (k : Ledger). arrivals k) (tidy_scan_is (noted (entries.Life 1 Deliver) (change load_world (opening Deliver empty_book) (entries.Life 1 Deliver)))).2

-- behind the first event no mail came
pub first_taken : HasTaken 0 (behind begun first)
first_taken =
    let e : Entry = event_entry begun first in
    behind_takes begun first 0 (record {
      timed = after_timed load_world begun e (at_timed load_world begun (max begun.now 1000));
      arrived = after_arrivals load_world begun e 0 refl none_arrived;
    })
