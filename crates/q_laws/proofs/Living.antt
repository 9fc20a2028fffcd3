-- A life goes on after each entry but its end; its clock is that of the last `at`; a delivery that started is in flight.
use Rattle.std.proofs.Common.{◌≡◌, ℕ, ◌++◌, Bool, true, false, List, Option, Some, None, refl, ap, ◌∙◌}
use Rattle.std.specs.Option.{option_map_or}
use Rattle.std.specs.Prelude.{if◌then◌else◌, nat_le, length, not, replicate, slice_get}
use Rattle.q_laws.proofs.Tidied.{tidy_scan_is}
use Rattle.q_laws.specs.Traces.{is_inner}
use Rattle.q_model.specs.Book.{message_of}
use Rattle.q_model.specs.Clock.{after_at, scheduled, woken}
use Rattle.q_model.specs.Ledger.{Ledger}
use Rattle.q_model.specs.Leftovers.{is_next_leftover}
use Rattle.q_model.specs.Past.{is_end, is_living}
use Rattle.q_model.specs.BookChanges.{add_message}
use Rattle.q_laws.proofs.Loaded.{records_is}
use Rattle.q_model.specs.Notices.{bounce_message}
use Rattle.q_model.specs.Batches.{load_rows}
use Rattle.q_model.specs.Loads.{loaded}
use Rattle.q_model.specs.Replies.{landed, replied}
use Rattle.q_model.specs.Skips.{unqueued}
use Rattle.q_model.specs.Settling.{needs_of, with_outcomes}
use Rattle.q_model.specs.Deliveries.{flight_of}
use Rattle.q_model.specs.Scans.{ask_scan, joined_request, new_scan}
use Rattle.q_model.specs.declared.id.Id.{Id}
use Rattle.q_model.specs.declared.outcome.Outcome.{Outcome}
use Rattle.q_model.specs.declared.outcome.Outcome.TheVariants as outcomes
use Rattle.q_model.specs.declared.rows.Request.{Request}
use Rattle.q_model.specs.declared.rows.Request.TheVariants as requests
use Rattle.q_model.specs.Settings.{World}
use Rattle.q_model.specs.Step.{after, change, noted, tidied}
use Rattle.q_model.specs.Alternation.{Pick, after_pick, passed, pick}
use Rattle.q_model.specs.Alternation.Pick.{from_deferred, from_incoming}
use Rattle.q_model.specs.declared.entry.Entry.{Entry}
use Rattle.q_model.specs.declared.entry.Entry.TheVariants as entries
use Rattle.q_model.specs.declared.event.Trigger.{Trigger}
use Rattle.q_model.specs.declared.event.Trigger.TheVariants as triggers
use Rattle.q_model.specs.declared.rows.Delivery.{Delivery}
use Rattle.q_model.specs.declared.rows.Scan.{Scan}

-- what is tidied keeps the entries, the clock and the flights
tidied_past : (w : World) (l k : Ledger) → (tidied w l k).past ≡ k.past
tidied_past w l k = let t = tidy_scan_is k in ap (λ (x : Ledger). x.past) t.2

tidied_now : (w : World) (l k : Ledger) → (tidied w l k).now ≡ k.now
tidied_now w l k = let t = tidy_scan_is k in ap (λ (x : Ledger). x.now) t.2

tidied_flights : (w : World) (l k : Ledger) → (tidied w l k).flights ≡ k.flights
tidied_flights w l k = let t = tidy_scan_is k in ap (λ (x : Ledger). x.flights) t.2

abbrev lives : List Entry → Bool
lives past = option_map_or (λ e. not (is_end e)) (slice_get past 0) false

-- a life goes on after any entry but its end
pub entry_living : (w : World) (l : Ledger) (e : Entry) → is_end e ≡ false → is_living (after w l e) ≡ true
unfolding after
entry_living w l e h = ap lives (tidied_past w l (noted e (change w l e))) ∙ ap not h

-- ---- the clock

option_now : {A : Type 0} (l : Ledger) (f : A → Ledger) → ((x : A) → (f x).now ≡ l.now) → (o : Option A) → (option_map_or f o l).now ≡ l.now
option_now l f h None = refl
option_now l f h (Some x) = h x

passed_now : (l : Ledger) (p : Pick) → (passed p l).now ≡ l.now
passed_now l (from_incoming id) = refl
passed_now l (from_deferred name) = refl

pick_now : (l : Ledger) → (after_pick l).now ≡ l.now
pick_now l = option_now l (λ p. passed p l) (passed_now l) (pick l)

if_now : (b : Bool) (x y l : Ledger) → x.now ≡ l.now → y.now ≡ l.now → (if b then x else y).now ≡ l.now
if_now true x y l h k = h
if_now false x y l h k = k

asked_now : (l : Ledger) (request : Request) (o : Option Scan) →
    (option_map_or (λ s. record l { asked = Some (joined_request l.asked request); ignores = false }) o (record l { scan = Some (new_scan l.now request); ignores = false })).now ≡ l.now
asked_now l request None = refl
asked_now l request (Some s) = refl

ask_now : (l : Ledger) → (ask_scan l).now ≡ l.now
ask_now l = asked_now l (if l.ignores then requests.All else requests.Due) l.scan

outcomes_now : (w : World) (id : Id) (positions : List ℕ) (outcomes : List Outcome) (l : Ledger) → (with_outcomes w id positions outcomes l).now ≡ l.now
outcomes_now w id positions outcomes l = option_now l (λ m. record l { unsettled = l.unsettled ++ needs_of w l.now m positions outcomes }) (λ m. refl) (message_of l.book id)

trigger_now : (w : World) (l : Ledger) (kind : Trigger) → (change w l (entries.Trigger kind)).now ≡ l.now
trigger_now w l triggers.D = ask_now l
trigger_now w l triggers.A = refl
trigger_now w l triggers.F = refl

change_now : (w : World) (l : Ledger) (e : Entry) → is_inner e ≡ true → (change w l e).now ≡ l.now
change_now w l (entries.Life generation mode) h = cc
change_now w l (entries.At t) h = cc
change_now w l entries.End h = cc
change_now w l (entries.Arrive id sender to content) h = refl
change_now w l (entries.Back id) h = refl
change_now w l (entries.Admit id) h = pick_now l
change_now w l (entries.Load id from to) h = option_now l (λ m. loaded w l id to (load_rows w m from to)) (λ m. let r = records_is w (load_rows w m from to) l in ap (λ (x : Ledger). x.now) r.1) (message_of l.book id)
change_now w l (entries.Start number id site positions) h = refl
change_now w l (entries.Preempt child parent transport need) h = refl
change_now w l (entries.Reply number state os) h = option_now l (λ f. replied w l state os f) (λ f. outcomes_now w f.row.id f.row.positions os (landed w l state f)) (flight_of l number)
change_now w l (entries.Skip id site positions) h = outcomes_now w id positions (replicate (length positions) (outcomes.Later 0)) (unqueued l id site positions)
change_now w l (entries.Log id failure) h = refl
change_now w l (entries.Mark id position) h = refl
change_now w l (entries.Sync id) h = refl
change_now w l (entries.Defer id due) h = refl
change_now w l (entries.Bounce id) h = option_now l (λ m. record l { book = add_message l.book (bounce_message l.now m) }) (λ m. refl) (message_of l.book id)
change_now w l (entries.Remove id) h = refl
change_now w l (entries.Corrupt id) h = if_now (is_next_leftover l id) l (after_pick l) l refl (pick_now l)
change_now w l (entries.Trigger kind) h = trigger_now w l kind

-- an entry that isn't an `at`, nor begins or ends a life, leaves the clock
pub inner_now : (w : World) (l : Ledger) (e : Entry) → is_inner e ≡ true → (after w l e).now ≡ l.now
unfolding after
inner_now w l e h = tidied_now w l (noted e (change w l e)) ∙ change_now w l e h

pub at_change : (w : World) (l : Ledger) (t : ℕ) → (after_at w l t).now ≡ t
at_change w l t = if_now (nat_le l.next_run t) (ask_scan (scheduled w l t)) (woken w l t) (woken w l t) (ask_now (scheduled w l t)) refl

-- an `at` sets it
pub at_now : (w : World) (l : Ledger) (t : ℕ) → (after w l (entries.At t)).now ≡ t
unfolding after
at_now w l t = tidied_now w l (noted (entries.At t) (change w l (entries.At t))) ∙ at_change w l t

-- ---- flights

-- the deliveries after one more started
pub start_flights : (w : World) (l : Ledger) (e : Entry) (fs : List Delivery) → (change w l e).flights ≡ fs → (after w l e).flights ≡ fs
unfolding after
start_flights w l e fs h = tidied_flights w l (noted e (change w l e)) ∙ h
