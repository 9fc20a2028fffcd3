-- The deliveries in flight: a start adds one at the end, a reply takes its own away, and all else leaves them.
use Rattle.std.proofs.Common.{◌≡◌, ℕ, Bool, true, false, if◌then◌else◌, List, [], ◌∷◌, ◌++◌, Option, Some, None, find, map, replicate, length, refl, sym, ap, ◌∙◌, append_assoc, eqb-true}
use Rattle.std.proofs.lemmas.List.{append-nil, map-append}
use Rattle.std.specs.Option.{option_map_or}
use Rattle.std.specs.Prelude.{◌==◌, nat_le, not}
use Rattle.q_drain.proofs.Silent.{AreInside, IsInside}
use Rattle.q_drain.specs.Flights.{flight, flights_begun, without_flight}
use Rattle.q_drain.specs.Told.{begun_from, begun_of, moment_behind}
use Rattle.q_laws.proofs.Living.{start_flights}
use Rattle.q_laws.proofs.Loaded.{records_is}
use Rattle.q_laws.proofs.Members.{find_in}
use Rattle.q_laws.specs.Traces.{is_outside}
use Rattle.q_model.specs.declared.entry.Entry.{Entry}
use Rattle.q_model.specs.declared.entry.Entry.TheVariants as entries
use Rattle.q_model.specs.declared.id.Id.{Id}
use Rattle.q_model.specs.declared.outcome.Outcome.{Outcome}
use Rattle.q_model.specs.declared.outcome.Outcome.TheVariants as outcomes
use Rattle.q_model.specs.declared.outcome.SiteState.{SiteState}
use Rattle.q_model.specs.declared.rows.Delivery.{Delivery}
use Rattle.q_model.specs.declared.rows.Request.{Request}
use Rattle.q_model.specs.declared.rows.Request.TheVariants as requests
use Rattle.q_model.specs.declared.rows.Scan.{Scan}
use Rattle.q_model.specs.Batches.{load_rows}
use Rattle.q_model.specs.Book.{message_of}
use Rattle.q_model.specs.BookChanges.{add_message}
use Rattle.q_model.specs.Clock.{after_at, scheduled, woken}
use Rattle.q_model.specs.Deliveries.{flight_of}
use Rattle.q_model.specs.Ledger.{Ledger}
use Rattle.q_model.specs.Leftovers.{is_next_leftover}
use Rattle.q_model.specs.Loads.{loaded}
use Rattle.q_model.specs.Notices.{bounce_message}
use Rattle.q_model.specs.Replies.{landed, replied}
use Rattle.q_model.specs.Scans.{ask_scan, joined_request, new_scan}
use Rattle.q_model.specs.Settings.{World}
use Rattle.q_model.specs.Settling.{needs_of, with_outcomes}
use Rattle.q_model.specs.Skips.{unqueued}
use Rattle.q_model.specs.Step.{after, after_all, change}
use Rattle.q_model.specs.Alternation.{Pick, after_pick, passed, pick}
use Rattle.q_model.specs.Alternation.Pick.{from_deferred, from_incoming}

kept_of : {A : Type 0} (l : Ledger) (f : A → Ledger) → ((x : A) → (f x).flights ≡ l.flights) → (o : Option A) → (option_map_or f o l).flights ≡ l.flights
kept_of l f h None = refl
kept_of l f h (Some x) = h x

passed_flights : (l : Ledger) (p : Pick) → (passed p l).flights ≡ l.flights
passed_flights l (from_incoming id) = refl
passed_flights l (from_deferred name) = refl

pick_flights : (l : Ledger) → (after_pick l).flights ≡ l.flights
pick_flights l = kept_of l (λ p. passed p l) (passed_flights l) (pick l)

kept_if : (b : Bool) (x y : Ledger) (fs : List Delivery) → x.flights ≡ fs → y.flights ≡ fs → (if b then x else y).flights ≡ fs
kept_if true x y fs h k = h
kept_if false x y fs h k = k

outcomes_flights : (w : World) (id : Id) (positions : List ℕ) (os : List Outcome) (l : Ledger) → (with_outcomes w id positions os l).flights ≡ l.flights
outcomes_flights w id positions os l = kept_of l (λ m. record l { unsettled = l.unsettled ++ needs_of w l.now m positions os }) (λ m. refl) (message_of l.book id)

-- an entry that leaves them
stays : (l : Ledger) (fs : List Delivery) → fs ≡ l.flights → fs ≡ l.flights ++ []
stays l fs h = h ∙ sym (append-nil l.flights)

-- a decision adds the delivery that it begins
change_flights : (w : World) (l : Ledger) (t : ℕ) (e : Entry) → is_outside e ≡ false → (change w l e).flights ≡ l.flights ++ map flight (begun_of t e)
change_flights w l t (entries.Life generation mode) h = cc
change_flights w l t (entries.At moment) h = cc
change_flights w l t (entries.Arrive id sender to content) h = cc
change_flights w l t (entries.Reply number state os) h = cc
change_flights w l t (entries.Trigger kind) h = cc
change_flights w l t entries.End h = cc
change_flights w l t (entries.Start number id site positions) h = refl
change_flights w l t (entries.Back id) h = stays l l.flights refl
change_flights w l t (entries.Admit id) h = stays l (after_pick l).flights (pick_flights l)
change_flights w l t (entries.Load id from to) h = stays l _ (kept_of l (λ m. loaded w l id to (load_rows w m from to)) (λ m. let r = records_is w (load_rows w m from to) l in ap (λ (k : Ledger). k.flights) r.1) (message_of l.book id))
change_flights w l t (entries.Preempt child parent transport need) h = stays l l.flights refl
change_flights w l t (entries.Skip id site positions) h = stays l _ (outcomes_flights w id positions (replicate (length positions) (outcomes.Later 0)) (unqueued l id site positions))
change_flights w l t (entries.Log id failure) h = stays l l.flights refl
change_flights w l t (entries.Mark id position) h = stays l l.flights refl
change_flights w l t (entries.Sync id) h = stays l l.flights refl
change_flights w l t (entries.Defer id due) h = stays l l.flights refl
change_flights w l t (entries.Bounce id) h = stays l _ (kept_of l (λ m. record l { book = add_message l.book (bounce_message l.now m) }) (λ m. refl) (message_of l.book id))
change_flights w l t (entries.Remove id) h = stays l l.flights refl
change_flights w l t (entries.Corrupt id) h = stays l _ (kept_if (is_next_leftover l id) l (after_pick l) l.flights refl (pick_flights l))

pub inside_flights : (w : World) (l : Ledger) (t : ℕ) (e : Entry) → IsInside e → (after w l e).flights ≡ l.flights ++ map flight (begun_of t e)
inside_flights w l t e h = start_flights w l e (l.flights ++ map flight (begun_of t e)) (change_flights w l t e h.outside)

-- behind decisions those that they begin are added, in order
pub decided_flights : (w : World) (l : Ledger) (t : ℕ) (es : List Entry) → AreInside es → (after_all w l es).flights ≡ l.flights ++ flights_begun t es
unfolding after_all
decided_flights w l t [] h = sym (append-nil l.flights)
decided_flights w l t (e ∷ es) h =
    let s : ℕ = moment_behind t e in
    decided_flights w (after w l e) s es h.1
    ∙ ap (λ (fs : List Delivery). fs ++ flights_begun s es) (inside_flights w l t e h.0)
    ∙ append_assoc l.flights (map flight (begun_of t e)) (flights_begun s es)
    ∙ ap (λ (fs : List Delivery). l.flights ++ fs) (sym (map-append flight (begun_of t e) (begun_from s es)))

-- ---- events

asked_flights : (l : Ledger) (request : Request) (o : Option Scan) →
    (option_map_or (λ s. record l { asked = Some (joined_request l.asked request); ignores = false }) o (record l { scan = Some (new_scan l.now request); ignores = false })).flights ≡ l.flights
asked_flights l request None = refl
asked_flights l request (Some s) = refl

ask_flights : (l : Ledger) → (ask_scan l).flights ≡ l.flights
ask_flights l = asked_flights l (if l.ignores then requests.All else requests.Due) l.scan

at_change : (w : World) (l : Ledger) (t : ℕ) → (after_at w l t).flights ≡ l.flights
at_change w l t = kept_if (nat_le l.next_run t) (ask_scan (scheduled w l t)) (woken w l t) l.flights (ask_flights (scheduled w l t)) refl

-- a moment leaves them
pub at_flights : (w : World) (l : Ledger) (t : ℕ) → (after w l (entries.At t)).flights ≡ l.flights
at_flights w l t = start_flights w l (entries.At t) l.flights (at_change w l t)

keep_all : (b : Bool) (f : Delivery) (fs gs : List Delivery) (o : Option Delivery) → (if b then Some f else o) ≡ None → (o ≡ None → gs ≡ fs) → (if not b then f ∷ gs else gs) ≡ f ∷ fs
keep_all true f fs gs o h rest = cc
keep_all false f fs gs o h rest = ap (λ (xs : List Delivery). f ∷ xs) (rest h)

-- where none has this number, all are left
none_without : (number : ℕ) (fs : List Delivery) → find (λ (f : Delivery). f.number == number) fs ≡ None → without_flight number fs ≡ fs
none_without number [] h = refl
none_without number (f ∷ fs) h = keep_all (f.number == number) f fs (without_flight number fs) (find (λ (g : Delivery). g.number == number) fs) h (none_without number fs)

found_number : (number : ℕ) (fs : List Delivery) (f : Delivery) → find (λ (g : Delivery). g.number == number) fs ≡ Some f → f.number ≡ number
found_number number fs f h = eqb-true f.number number (find_in (λ (g : Delivery). g.number == number) f fs h).1

reply_change : (w : World) (l : Ledger) (number : ℕ) (site : SiteState) (os : List Outcome) (o : Option Delivery) → flight_of l number ≡ o → (option_map_or (λ f. replied w l site os f) o l).flights ≡ without_flight number l.flights
reply_change w l number site os None h = sym (none_without number l.flights h)
reply_change w l number site os (Some f) h = outcomes_flights w f.row.id f.row.positions os (landed w l site f) ∙ ap (λ (n : ℕ). without_flight n l.flights) (found_number number l.flights f h)

-- a reply takes its own away
pub reply_flights : (w : World) (l : Ledger) (number : ℕ) (site : SiteState) (os : List Outcome) → (after w l (entries.Reply number site os)).flights ≡ without_flight number l.flights
reply_flights w l number site os = start_flights w l (entries.Reply number site os) (without_flight number l.flights) (reply_change w l number site os (flight_of l number) refl)
