-- Each transport has its line, after each entry.
use Rattle.std.proofs.Common.{◌≡◌, ℕ, zero, suc, Bool, true, false, List, [], length, replicate, refl, ap, ◌∙◌, Option, Some, None, if◌then◌else◌}
use Rattle.std.specs.Option.{option_map_or}
use Rattle.q_bare.specs.Bare.{bare}
use Rattle.q_ledger.proofs.ListLaws.{length-numbered}
use Rattle.q_ledger.specs.Ruling.{HasLines}
use Rattle.q_model.specs.Admissions.{after_admit}
use Rattle.q_model.specs.Alternation.{Pick, after_pick, from_deferred, from_incoming, passed, pick}
use Rattle.q_model.specs.Batches.{load_rows}
use Rattle.q_model.specs.Book.{message_of}
use Rattle.q_model.specs.Clock.{after_at, scheduled, woken}
use Rattle.q_model.specs.Deliveries.{flight_of}
use Rattle.q_model.specs.Ledger.{Ledger}
use Rattle.q_model.specs.Leftovers.{is_next_leftover}
use Rattle.q_model.specs.Loads.{joins, loaded}
use Rattle.q_model.specs.Message.{Message}
use Rattle.q_model.specs.Notices.{bounce_message}
use Rattle.q_model.specs.BookChanges.{add_message}
use Rattle.q_model.specs.Preemptions.{preempt_line}
use Rattle.q_model.specs.Replies.{landed, replied}
use Rattle.q_model.specs.Scans.{ask_scan, open_scan, remember_scan}
use Rattle.q_model.specs.Settings.{World}
use Rattle.q_model.specs.Settling.{with_outcomes}
use Rattle.q_model.specs.Skips.{unqueued}
use Rattle.q_model.specs.Step.{after, change, noted, tidy_line}
use Rattle.q_model.specs.declared.entry.Entry.{Entry}
use Rattle.q_model.specs.declared.entry.Entry.TheVariants as entries
use Rattle.q_model.specs.declared.event.Trigger.TheVariants as triggers
use Rattle.q_model.specs.declared.id.Id.{Id}
use Rattle.q_model.specs.declared.outcome.Outcome.{Outcome}
use Rattle.q_model.specs.declared.outcome.SiteState.{SiteState}
use Rattle.q_model.specs.declared.rows.Delivery.{Delivery}
use Rattle.q_model.specs.declared.rows.Request.{Request}
use Rattle.q_model.specs.declared.rows.Request.TheVariants as requests
use Rattle.q_model.specs.declared.rows.Scan.{Scan}

-- ---- what is chosen between ledgers

given_lines : {A : Type 0} (f : A → Ledger) (o : Option A) (l : Ledger) (ls : List (List Id)) → l.lines ≡ ls → ((x : A) → (f x).lines ≡ ls) → (option_map_or f o l).lines ≡ ls
given_lines f None l ls e h = e
given_lines f (Some x) l ls e h = h x

either_lines : (b : Bool) (k l : Ledger) (ls : List (List Id)) → k.lines ≡ ls → l.lines ≡ ls → (if b then k else l).lines ≡ ls
either_lines true k l ls h g = h
either_lines false k l ls h g = g

-- the scan that is asked for
abbrev asked_of : Ledger → Request
asked_of l = if l.ignores then requests.All else requests.Due

scan_lines : (l : Ledger) → (ask_scan l).lines ≡ l.lines
scan_lines l = given_lines (λ (s : Scan). remember_scan l (asked_of l)) l.scan (open_scan l (asked_of l)) l.lines refl (λ s. refl)

passed_lines : (p : Pick) (l : Ledger) → (passed p l).lines ≡ l.lines
passed_lines (from_incoming id) l = refl
passed_lines (from_deferred name) l = refl

pick_lines : (l : Ledger) → (after_pick l).lines ≡ l.lines
pick_lines l = given_lines (λ (p : Pick). passed p l) (pick l) l l.lines refl (λ p. passed_lines p l)

outcome_lines : (w : World) (id : Id) (ps : List ℕ) (os : List Outcome) (l : Ledger) → (with_outcomes w id ps os l).lines ≡ l.lines
outcome_lines w id ps os l = given_lines _ (message_of l.book id) l l.lines refl (λ m. refl)

reply_lines : (w : World) (l : Ledger) (state : SiteState) (os : List Outcome) (o : Option Delivery) → (option_map_or (λ f. replied w l state os f) o l).lines ≡ l.lines
reply_lines w l state os o = given_lines (λ f. replied w l state os f) o l l.lines refl (λ f. outcome_lines w f.row.id f.row.positions os (landed w l state f))

-- ---- as many lines

load_length : (w : World) (l : Ledger) (id : Id) (from to : ℕ) (o : Option Message) → length (option_map_or (λ m. loaded w l id to (load_rows w m from to)) o l).lines ≡ length l.lines
load_length w l id from to None = refl
load_length w l id from to (Some m) = length-numbered (joins id (load_rows w m from to)) 0 l.lines

kept : (k l : Ledger) → k.lines ≡ l.lines → length k.lines ≡ length l.lines
kept k l e = ap length e

length-replicate : {A : Type 0} (n : ℕ) (x : A) → length (replicate n x) ≡ n
length-replicate zero x = refl
length-replicate (suc n) x = ap suc (length-replicate n x)

changed_lines : (w : World) (l : Ledger) (e : Entry) → HasLines w l → length (change w l e).lines ≡ length w.table.transports
changed_lines w l (entries.Life generation mode) h = length-replicate (length w.table.transports) []
changed_lines w l (entries.At t) h = kept (after_at w l t) l (either_lines _ (ask_scan (scheduled w l t)) (woken w l t) l.lines (scan_lines (scheduled w l t)) refl) ∙ h
changed_lines w l (entries.Arrive id sender to content) h = h
changed_lines w l (entries.Back id) h = h
changed_lines w l (entries.Admit id) h = kept (after_admit l id) l (pick_lines l) ∙ h
changed_lines w l (entries.Load id from to) h = load_length w l id from to (message_of l.book id) ∙ h
changed_lines w l (entries.Start number id site positions) h = h
changed_lines w l (entries.Preempt child parent transport need) h = length-numbered (preempt_line child parent transport) 0 l.lines ∙ h
changed_lines w l (entries.Reply number state outcomes) h = ap length (reply_lines w l state outcomes (flight_of l number)) ∙ h
changed_lines w l (entries.Skip id site positions) h = ap length (outcome_lines w id positions _ (unqueued l id site positions)) ∙ h
changed_lines w l (entries.Log id failure) h = h
changed_lines w l (entries.Mark id position) h = h
changed_lines w l (entries.Sync id) h = h
changed_lines w l (entries.Defer id due) h = h
changed_lines w l (entries.Bounce id) h = ap length (given_lines (λ (m : Message). record l { book = add_message l.book (bounce_message l.now m) }) (message_of l.book id) l l.lines refl (λ m. refl)) ∙ h
changed_lines w l (entries.Remove id) h = h
changed_lines w l (entries.Corrupt id) h = ap length (either_lines (is_next_leftover l id) l (after_pick l) l.lines refl (pick_lines l)) ∙ h
changed_lines w l (entries.Trigger triggers.D) h = ap length (scan_lines l) ∙ h
changed_lines w l (entries.Trigger triggers.A) h = h
changed_lines w l (entries.Trigger triggers.F) h = h
changed_lines w l entries.End h = h

pub lines_after : (w : World) (l : Ledger) (e : Entry) → HasLines w l → HasLines w (bare (after w l e))
unfolding after
lines_after w l e h = length-numbered (tidy_line (noted e (change w l e))) 0 (change w l e).lines ∙ changed_lines w l e h
