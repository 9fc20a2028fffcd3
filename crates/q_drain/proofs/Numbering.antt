-- The numbers of a life's deliveries: each start has the next one.
use Rattle.std.proofs.Common.{◌≡◌, ◌+◌, ℕ, Bool, true, false, if◌then◌else◌, List, [], ◌∷◌, ◌++◌, Option, Some, None, length, length-append, add-zero, replicate, refl, ap, ◌∙◌, subst, arith}
use Rattle.std.proofs.lemmas.List.Sums.{sum_by-cons}
use Rattle.std.specs.Option.{option_map_or}
use Rattle.std.specs.Prelude.{count_by, nat_le}
use Rattle.q_laws.proofs.Deciding.{AreDecisions, IsDecision}
use Rattle.q_drain.proofs.Silent.{AreInside, is_inside}
use Rattle.q_drain.specs.Flights.{AreNumbered}
use Rattle.q_drain.specs.Told.{Begun, begun_from, begun_of, moment_behind}
use Rattle.q_laws.proofs.Loaded.{records_is}
use Rattle.q_laws.proofs.Tidied.{tidy_scan_is}
use Rattle.q_model.specs.declared.entry.Entry.{Entry}
use Rattle.q_model.specs.declared.entry.Entry.TheVariants as entries
use Rattle.q_model.specs.declared.event.Trigger.{Trigger}
use Rattle.q_model.specs.declared.event.Trigger.TheVariants as triggers
use Rattle.q_model.specs.declared.id.Id.{Id}
use Rattle.q_model.specs.declared.outcome.Outcome.{Outcome}
use Rattle.q_model.specs.declared.outcome.Outcome.TheVariants as outcomes
use Rattle.q_model.specs.declared.rows.Request.{Request}
use Rattle.q_model.specs.declared.rows.Request.TheVariants as requests
use Rattle.q_model.specs.declared.rows.Scan.{Scan}
use Rattle.q_model.specs.Batches.{load_rows}
use Rattle.q_model.specs.Book.{message_of}
use Rattle.q_model.specs.BookChanges.{add_message}
use Rattle.q_model.specs.Clock.{scheduled, woken}
use Rattle.q_model.specs.Deliveries.{flight_of}
use Rattle.q_model.specs.Ledger.{Ledger}
use Rattle.q_model.specs.Leftovers.{is_next_leftover}
use Rattle.q_model.specs.Loads.{loaded}
use Rattle.q_model.specs.Notices.{bounce_message}
use Rattle.q_model.specs.Past.{is_life, is_start, starts}
use Rattle.q_model.specs.Replies.{landed, replied}
use Rattle.q_model.specs.Scans.{ask_scan, joined_request, new_scan}
use Rattle.q_model.specs.Settings.{World}
use Rattle.q_model.specs.Settling.{needs_of, with_outcomes}
use Rattle.q_model.specs.Skips.{unqueued}
use Rattle.q_model.specs.Step.{after, after_all, change, noted}
use Rattle.q_model.specs.Alternation.{Pick, after_pick, passed, pick}
use Rattle.q_model.specs.Alternation.Pick.{from_deferred, from_incoming}

-- ---- an entry is added to the past, and nothing else

kept_of : {A : Type 0} (l : Ledger) (f : A → Ledger) → ((x : A) → (f x).past ≡ l.past) → (o : Option A) → (option_map_or f o l).past ≡ l.past
kept_of l f h None = refl
kept_of l f h (Some x) = h x

passed_past : (l : Ledger) (p : Pick) → (passed p l).past ≡ l.past
passed_past l (from_incoming id) = refl
passed_past l (from_deferred name) = refl

pick_past : (l : Ledger) → (after_pick l).past ≡ l.past
pick_past l = kept_of l (λ p. passed p l) (passed_past l) (pick l)

kept_if : (b : Bool) (x y : Ledger) (es : List Entry) → x.past ≡ es → y.past ≡ es → (if b then x else y).past ≡ es
kept_if true x y es h k = h
kept_if false x y es h k = k

asked_past : (l : Ledger) (request : Request) (o : Option Scan) →
    (option_map_or (λ s. record l { asked = Some (joined_request l.asked request); ignores = false }) o (record l { scan = Some (new_scan l.now request); ignores = false })).past ≡ l.past
asked_past l request None = refl
asked_past l request (Some s) = refl

ask_past : (l : Ledger) → (ask_scan l).past ≡ l.past
ask_past l = asked_past l (if l.ignores then requests.All else requests.Due) l.scan

outcomes_past : (w : World) (id : Id) (positions : List ℕ) (os : List Outcome) (l : Ledger) → (with_outcomes w id positions os l).past ≡ l.past
outcomes_past w id positions os l = kept_of l (λ m. record l { unsettled = l.unsettled ++ needs_of w l.now m positions os }) (λ m. refl) (message_of l.book id)

trigger_past : (w : World) (l : Ledger) (kind : Trigger) → (change w l (entries.Trigger kind)).past ≡ l.past
trigger_past w l triggers.D = ask_past l
trigger_past w l triggers.A = refl
trigger_past w l triggers.F = refl

change_past : (w : World) (l : Ledger) (e : Entry) → is_life e ≡ false → (change w l e).past ≡ l.past
change_past w l (entries.Life generation mode) h = cc
change_past w l (entries.At t) h = kept_if (nat_le l.next_run t) (ask_scan (scheduled w l t)) (woken w l t) l.past (ask_past (scheduled w l t)) refl
change_past w l entries.End h = refl
change_past w l (entries.Arrive id sender to content) h = refl
change_past w l (entries.Back id) h = refl
change_past w l (entries.Admit id) h = pick_past l
change_past w l (entries.Load id from to) h = kept_of l (λ m. loaded w l id to (load_rows w m from to)) (λ m. let r = records_is w (load_rows w m from to) l in ap (λ (k : Ledger). k.past) r.1) (message_of l.book id)
change_past w l (entries.Start number id site positions) h = refl
change_past w l (entries.Preempt child parent transport need) h = refl
change_past w l (entries.Reply number site os) h = kept_of l (λ f. replied w l site os f) (λ f. outcomes_past w f.row.id f.row.positions os (landed w l site f)) (flight_of l number)
change_past w l (entries.Skip id site positions) h = outcomes_past w id positions (replicate (length positions) (outcomes.Later 0)) (unqueued l id site positions)
change_past w l (entries.Log id failure) h = refl
change_past w l (entries.Mark id position) h = refl
change_past w l (entries.Sync id) h = refl
change_past w l (entries.Defer id due) h = refl
change_past w l (entries.Bounce id) h = kept_of l (λ m. record l { book = add_message l.book (bounce_message l.now m) }) (λ m. refl) (message_of l.book id)
change_past w l (entries.Remove id) h = refl
change_past w l (entries.Corrupt id) h = kept_if (is_next_leftover l id) l (after_pick l) l.past refl (pick_past l)
change_past w l (entries.Trigger kind) h = trigger_past w l kind

after_past : (w : World) (l : Ledger) (e : Entry) → is_life e ≡ false → (after w l e).past ≡ e ∷ l.past
unfolding after
after_past w l e h = let t = tidy_scan_is (noted e (change w l e)) in ap (λ (k : Ledger). k.past) t.2 ∙ ap (λ (es : List Entry). e ∷ es) (change_past w l e h)

-- ---- starts

begins_one : (t : ℕ) (e : Entry) → length (begun_of t e) ≡ (if is_start e then 1 else 0)
begins_one t entries.End = refl
begins_one t (entries.Life generation mode) = refl
begins_one t (entries.At now) = refl
begins_one t (entries.Arrive id sender to content) = refl
begins_one t (entries.Reply number site os) = refl
begins_one t (entries.Trigger kind) = refl
begins_one t (entries.Start number id site positions) = refl
begins_one t (entries.Back id) = refl
begins_one t (entries.Admit id) = refl
begins_one t (entries.Load id from to) = refl
begins_one t (entries.Preempt child parent transport need) = refl
begins_one t (entries.Skip id site positions) = refl
begins_one t (entries.Log id failure) = refl
begins_one t (entries.Mark id position) = refl
begins_one t (entries.Sync id) = refl
begins_one t (entries.Defer id due) = refl
begins_one t (entries.Bounce id) = refl
begins_one t (entries.Remove id) = refl
begins_one t (entries.Corrupt id) = refl

counted : (e : Entry) (t : ℕ) (es : List Entry) → count_by is_start (e ∷ es) ≡ count_by is_start es + length (begun_of t e)
counted e t es =
    let step = sum_by-cons (λ x. if is_start x then 1 else 0) e es in
    let one = begins_one t e in
    omega (arith, step, one)

pub entry_starts : (w : World) (l : Ledger) (t : ℕ) (e : Entry) → is_life e ≡ false → starts (after w l e) ≡ starts l + length (begun_of t e)
entry_starts w l t e h = ap (count_by is_start) (after_past w l e h) ∙ counted e t l.past

-- what entries from inside begin is counted
pub inside_starts : (w : World) (l : Ledger) (t : ℕ) (es : List Entry) → AreInside es → starts (after_all w l es) ≡ starts l + length (begun_from t es)
unfolding after_all
inside_starts w l t [] h = omega arith
inside_starts w l t (e ∷ es) h =
    let rest = inside_starts w (after w l e) (moment_behind t e) es h.1 in
    let one = entry_starts w l t e h.0.life in
    let all = length-append (begun_of t e) (begun_from (moment_behind t e) es) in
    omega (arith, rest, one, all)

-- decisions begin deliveries under the next numbers
first_numbered : (l : Ledger) (t : ℕ) (e : Entry) (bs : List Begun) → IsDecision l e → AreNumbered (starts l + length (begun_of t e)) bs → AreNumbered (starts l) (begun_of t e ++ bs)
first_numbered l t entries.End bs h rest = cc
first_numbered l t (entries.Life generation mode) bs h rest = cc
first_numbered l t (entries.At now) bs h rest = cc
first_numbered l t (entries.Arrive id sender to content) bs h rest = cc
first_numbered l t (entries.Reply number site os) bs h rest = cc
first_numbered l t (entries.Trigger kind) bs h rest = cc
first_numbered l t (entries.Start number id site positions) bs h rest = (h.0, rest)
first_numbered l t (entries.Back id) bs h rest = subst (λ n. AreNumbered n bs) (add-zero (starts l)) rest
first_numbered l t (entries.Admit id) bs h rest = subst (λ n. AreNumbered n bs) (add-zero (starts l)) rest
first_numbered l t (entries.Load id from to) bs h rest = subst (λ n. AreNumbered n bs) (add-zero (starts l)) rest
first_numbered l t (entries.Preempt child parent transport need) bs h rest = subst (λ n. AreNumbered n bs) (add-zero (starts l)) rest
first_numbered l t (entries.Skip id site positions) bs h rest = subst (λ n. AreNumbered n bs) (add-zero (starts l)) rest
first_numbered l t (entries.Log id failure) bs h rest = subst (λ n. AreNumbered n bs) (add-zero (starts l)) rest
first_numbered l t (entries.Mark id position) bs h rest = subst (λ n. AreNumbered n bs) (add-zero (starts l)) rest
first_numbered l t (entries.Sync id) bs h rest = subst (λ n. AreNumbered n bs) (add-zero (starts l)) rest
first_numbered l t (entries.Defer id due) bs h rest = subst (λ n. AreNumbered n bs) (add-zero (starts l)) rest
first_numbered l t (entries.Bounce id) bs h rest = subst (λ n. AreNumbered n bs) (add-zero (starts l)) rest
first_numbered l t (entries.Remove id) bs h rest = subst (λ n. AreNumbered n bs) (add-zero (starts l)) rest
first_numbered l t (entries.Corrupt id) bs h rest = subst (λ n. AreNumbered n bs) (add-zero (starts l)) rest

pub decided_numbers : (w : World) (l : Ledger) (t : ℕ) (es : List Entry) → AreDecisions w l es → AreNumbered (starts l) (begun_from t es)
decided_numbers w l t [] h = tt
decided_numbers w l t (e ∷ es) h =
    first_numbered l t e (begun_from (moment_behind t e) es) h.1
    (subst (λ n. AreNumbered n (begun_from (moment_behind t e) es)) (entry_starts w l t e (is_inside l e h.1).life) (decided_numbers w (after w l e) (moment_behind t e) es h.2))
