-- A life keeps its mode: no decision begins a life, and a restart begins the next one in the same mode.
use Rattle.std.proofs.Common.{◌≡◌, ℕ, zero, suc, ◌+◌, ◌++◌, ◌^◌, Bool, true, false, List, [], ◌∷◌, Option, Some, None, refl, sym, ap, ◌∙◌, if◌then◌else◌}
use Rattle.std.specs.List.{enumerate_from}
use Rattle.std.specs.Option.{option_map_or}
use Rattle.std.specs.Prelude.{find, length, nat_le, nat_lt, not, replicate, slice_get}
use Rattle.q_laws.proofs.Loaded.{records_is}
use Rattle.q_laws.proofs.Tidied.{tidy_scan_is}
use Rattle.q_model.specs.Accounts.{job_left}
use Rattle.q_model.specs.Admissions.{has_room, may_admit}
use Rattle.q_model.specs.Batches.{load_end, load_rows}
use Rattle.q_laws.specs.Laws.{opened_ledger}
use Rattle.q_model.specs.Book.{Book, message_of}
use Rattle.q_model.specs.BookChanges.{add_message}
use Rattle.q_model.specs.Bounces.{may_bounce}
use Rattle.q_model.specs.Candidates.{best}
use Rattle.q_model.specs.Choice.{choice_by, next_row, preempt_by, start_next, start_of}
use Rattle.q_model.specs.Clock.{scheduled, woken}
use Rattle.q_model.specs.Deliveries.{flight_of}
use Rattle.q_model.specs.Leaving.{may_back, may_corrupt, may_defer, may_remove}
use Rattle.q_model.specs.Ledger.{Ledger, opening}
use Rattle.q_model.specs.Leftovers.{is_next_leftover, next_leftover, was_synced}
use Rattle.q_model.specs.Loads.{loaded, may_read}
use Rattle.q_model.specs.Memory.{free, is_idle}
use Rattle.q_model.specs.Message.{Message, unmarked_logged}
use Rattle.q_model.specs.Next.{admission_rule, admit_or_corrupt, choice_of, clear_damaged, clear_leftover, clear_marked, finish, finish_message, finishing_rule, first_rule, leftover_decision, leftover_rule, load_entry, load_of, load_rule, mark_logged, needed, next, settling_rule, skip_of, skip_rule, start_rule, sync_rule, wants_sync}
use Rattle.q_model.specs.Notices.{bounce_message}
use Rattle.q_model.specs.Past.{is_life, starts}
use Rattle.q_model.specs.Replies.{landed, replied}
use Rattle.q_model.specs.Run.{decide, decisions, entry_of, goes_on, run, turn}
use Rattle.q_model.specs.Scans.{ask_scan, joined_request, new_scan}
use Rattle.q_model.specs.Settings.{World}
use Rattle.q_model.specs.Settling.{needs_of, with_outcomes}
use Rattle.q_model.specs.SiteRecords.{is_dead_site}
use Rattle.q_model.specs.Skips.{unqueued}
use Rattle.q_model.specs.Startable.{current}
use Rattle.q_model.specs.Step.{after, after_all, change, noted, tidied}
use Rattle.q_model.specs.Times.{due}
use Rattle.q_model.specs.Alternation.{after_pick, passed, pick, Pick, pick_id}
use Rattle.q_model.specs.Alternation.Pick.{from_deferred, from_incoming}
use Rattle.q_model.proofs.RunLaws.{after_all-append}
use Rattle.q_model.specs.declared.entry.Entry.{Entry}
use Rattle.q_model.specs.declared.entry.Entry.TheVariants as entries
use Rattle.q_model.specs.declared.event.Event.TheVariants as events
use Rattle.q_model.specs.declared.event.LifeEvent.{LifeEvent}
use Rattle.q_model.specs.declared.event.LifeEvent.TheVariants.{Begin, Finish, Heard}
use Rattle.q_model.specs.declared.event.Mode.{Mode}
use Rattle.q_model.specs.declared.event.Trigger.{Trigger}
use Rattle.q_model.specs.declared.event.Trigger.TheVariants as triggers
use Rattle.q_model.specs.declared.id.Id.{Id}
use Rattle.q_model.specs.declared.outcome.Outcome.{Outcome}
use Rattle.q_model.specs.declared.outcome.Outcome.TheVariants as outcomes
use Rattle.q_model.specs.declared.rows.Admitted.{Admitted}
use Rattle.q_model.specs.declared.rows.Need.{Need}
use Rattle.q_model.specs.declared.rows.Need.TheVariants as needs
use Rattle.q_model.specs.declared.rows.Request.{Request}
use Rattle.q_model.specs.declared.rows.Request.TheVariants as requests
use Rattle.q_model.specs.declared.rows.Row.{Row}
use Rattle.q_model.specs.declared.rows.Scan.{Scan}
use Rattle.q_model.specs.declared.rows.Unsettled.{Unsettled}
use Rattle.q_replay.proofs.NextEntries.{and_then, choose, given, Has, if_so, map_or, mapped, or_else}

-- ---- no decision begins a life

-- the entry begins no life
abbrev Spares : Entry → Type 0
Spares e = is_life e ≡ false

needed_spares : (id : Id) (position : ℕ) (n : Need) → is_life (needed id position n) ≡ false
needed_spares id position (needs.Log why code) = refl
needed_spares id position needs.Mark = refl

preempt_spares : (l : Ledger) (transport : ℕ) (parent child : Id) → Has Spares (preempt_by l transport parent child)
preempt_spares l transport parent child e is = let same : entries.Preempt child parent transport (job_left l child transport) ≡ e = cc in ap is_life (sym same)

load_spares : (w : World) (l : Ledger) (a : Admitted) (m : Message) → Has Spares (load_entry w l a m)
load_spares w l a m e is = let same : entries.Load a.id a.unread (load_end m a.unread (free w l)) ≡ e = cc in ap is_life (sym same)

module _ (w : World) (l : Ledger) where
  finished : (id : Id) (m : Message) → Has Spares (finish_message w l id m)
  finished id m = choose Spares ((may_defer w l id (due w l.now m), entries.Defer id (due w l.now m)) ∷ (may_bounce l id, entries.Bounce id) ∷ (may_remove l id, entries.Remove id) ∷ []) (refl, (refl, (refl, tt)))

  cleared : (m : Message) → Has Spares (clear_leftover w l m)
  cleared m = or_else Spares (mark_logged m) (clear_marked l m) (mapped Spares (λ p. entries.Mark m.id p) (λ p. refl) (slice_get (unmarked_logged m) 0))
      (choose Spares ((not (was_synced l m.id), entries.Sync m.id) ∷ (may_bounce l m.id, entries.Bounce m.id) ∷ (may_remove l m.id, entries.Remove m.id) ∷ (may_back l m.id, entries.Back m.id) ∷ []) (refl, (refl, (refl, (refl, tt)))))

  leftover : (id : Id) → Has Spares (leftover_decision w l id)
  leftover id = map_or Spares (clear_leftover w l) (clear_damaged w l id) cleared (choose Spares ((may_corrupt w l id, entries.Corrupt id) ∷ []) (refl, tt)) (message_of l.book id)

  admitted : (p : Pick) → Has Spares (admit_or_corrupt w l p)
  admitted p = choose Spares ((may_admit w l (pick_id p), entries.Admit (pick_id p)) ∷ (may_corrupt w l (pick_id p), entries.Corrupt (pick_id p)) ∷ []) (refl, (refl, tt))

  loading : (a : Admitted) → Has Spares (load_of w l a)
  loading a = and_then Spares (load_entry w l a) (λ m. load_spares w l a m) (message_of l.book a.id)

  chosen_by : (transport : ℕ) (parent : Id) → Has Spares (choice_by w l transport parent)
  chosen_by transport parent = map_or Spares (preempt_by l transport parent) (start_next w l transport parent) (λ child. preempt_spares l transport parent child) (mapped Spares (start_of l) (λ r. refl) (next_row w l transport parent)) (best w l transport parent)

  choosing : (line : ℕ × List Id) → Has Spares (choice_of w l line)
  choosing line = and_then Spares (choice_by w l line.0) (chosen_by line.0) (current w l line.0)

  rules_spare : Has Spares (first_rule w l)
  rules_spare =
      or_else Spares (settling_rule l) _ (mapped Spares (λ (u : Unsettled). needed u.id u.position u.need) (λ u. needed_spares u.id u.position u.need) (slice_get l.unsettled 0))
      (or_else Spares (sync_rule w l) _ (mapped Spares (λ (a : Admitted). entries.Sync a.id) (λ a. refl) (find (wants_sync w l) l.admitted))
      (or_else Spares (skip_rule l) _ (mapped Spares skip_of (λ r. refl) (find (λ (r : Row). is_dead_site l r.site) l.waiting))
      (or_else Spares (finishing_rule w l) _ (and_then Spares (λ (a : Admitted). finish w l a.id) (λ a. and_then Spares (finish_message w l a.id) (finished a.id) (message_of l.book a.id)) (find (λ (a : Admitted). is_idle l a.id) l.admitted))
      (or_else Spares (leftover_rule w l) _ (and_then Spares (leftover_decision w l) leftover (next_leftover l))
      (or_else Spares (admission_rule w l) _ (if_so Spares (has_room w l) _ (and_then Spares (admit_or_corrupt w l) admitted (pick l)))
      (or_else Spares (load_rule w l) (start_rule w l) (and_then Spares (load_of w l) loading (find (may_read w l) l.admitted))
      (if_so Spares (nat_lt (starts l) (2 ^ 48)) _ (given Spares (choice_of w l) choosing (enumerate_from 0 l.lines)))))))))

  next_spares : Has Spares (next w l)
  unfolding next
  next_spares = if_so Spares l.timed (first_rule w l) rules_spare

-- ---- an entry that begins no life keeps the mode

tidied_mode : (w : World) (l k : Ledger) → (tidied w l k).mode ≡ k.mode
tidied_mode w l k = let t = tidy_scan_is k in ap (λ (x : Ledger). x.mode) t.2

option_mode : {A : Type 0} (l : Ledger) (f : A → Ledger) → ((x : A) → (f x).mode ≡ l.mode) → (o : Option A) → (option_map_or f o l).mode ≡ l.mode
option_mode l f h None = refl
option_mode l f h (Some x) = h x

passed_mode : (l : Ledger) (p : Pick) → (passed p l).mode ≡ l.mode
passed_mode l (from_incoming id) = refl
passed_mode l (from_deferred name) = refl

pick_mode : (l : Ledger) → (after_pick l).mode ≡ l.mode
pick_mode l = option_mode l (λ p. passed p l) (passed_mode l) (pick l)

if_mode : (b : Bool) (x y l : Ledger) → x.mode ≡ l.mode → y.mode ≡ l.mode → (if b then x else y).mode ≡ l.mode
if_mode true x y l h k = h
if_mode false x y l h k = k

asked_mode : (l : Ledger) (request : Request) (o : Option Scan) →
    (option_map_or (λ s. record l { asked = Some (joined_request l.asked request); ignores = false }) o (record l { scan = Some (new_scan l.now request); ignores = false })).mode ≡ l.mode
asked_mode l request None = refl
asked_mode l request (Some s) = refl

ask_mode : (l : Ledger) → (ask_scan l).mode ≡ l.mode
ask_mode l = asked_mode l (if l.ignores then requests.All else requests.Due) l.scan

outcomes_mode : (w : World) (id : Id) (positions : List ℕ) (outcomes : List Outcome) (l : Ledger) → (with_outcomes w id positions outcomes l).mode ≡ l.mode
outcomes_mode w id positions outcomes l = option_mode l (λ m. record l { unsettled = l.unsettled ++ needs_of w l.now m positions outcomes }) (λ m. refl) (message_of l.book id)

trigger_mode : (w : World) (l : Ledger) (kind : Trigger) → (change w l (entries.Trigger kind)).mode ≡ l.mode
trigger_mode w l triggers.D = ask_mode l
trigger_mode w l triggers.A = refl
trigger_mode w l triggers.F = refl

change_mode : (w : World) (l : Ledger) (e : Entry) → is_life e ≡ false → (change w l e).mode ≡ l.mode
change_mode w l (entries.Life generation mode) h = absurd cc
change_mode w l (entries.At t) h = if_mode (nat_le l.next_run t) (ask_scan (scheduled w l t)) (woken w l t) l (ask_mode (scheduled w l t)) refl
change_mode w l entries.End h = refl
change_mode w l (entries.Arrive id sender to content) h = refl
change_mode w l (entries.Back id) h = refl
change_mode w l (entries.Admit id) h = pick_mode l
change_mode w l (entries.Load id from to) h = option_mode l (λ m. loaded w l id to (load_rows w m from to)) (λ m. let r = records_is w (load_rows w m from to) l in ap (λ (x : Ledger). x.mode) r.1) (message_of l.book id)
change_mode w l (entries.Start number id site positions) h = refl
change_mode w l (entries.Preempt child parent transport need) h = refl
change_mode w l (entries.Reply number state os) h = option_mode l (λ f. replied w l state os f) (λ f. outcomes_mode w f.row.id f.row.positions os (landed w l state f)) (flight_of l number)
change_mode w l (entries.Skip id site positions) h = outcomes_mode w id positions (replicate (length positions) (outcomes.Later 0)) (unqueued l id site positions)
change_mode w l (entries.Log id failure) h = refl
change_mode w l (entries.Mark id position) h = refl
change_mode w l (entries.Sync id) h = refl
change_mode w l (entries.Defer id due) h = refl
change_mode w l (entries.Bounce id) h = option_mode l (λ m. record l { book = add_message l.book (bounce_message l.now m) }) (λ m. refl) (message_of l.book id)
change_mode w l (entries.Remove id) h = refl
change_mode w l (entries.Corrupt id) h = if_mode (is_next_leftover l id) l (after_pick l) l refl (pick_mode l)
change_mode w l (entries.Trigger kind) h = trigger_mode w l kind

entry_mode : (w : World) (l : Ledger) (e : Entry) → is_life e ≡ false → (after w l e).mode ≡ l.mode
unfolding after
entry_mode w l e h = tidied_mode w l (noted e (change w l e)) ∙ change_mode w l e h

-- ---- a turn keeps it

decided_mode : (n : ℕ) (w : World) (l : Ledger) (o : Option Entry) → Has Spares o → ((k : Ledger) → (after_all w k (decide n w k)).mode ≡ k.mode) → (after_all w l (elim o [ None ↦ [] | Some e ↦ e ∷ decide n w (after w l e) ])).mode ≡ l.mode
unfolding after_all
decided_mode n w l None h rest = refl
decided_mode n w l (Some e) h rest = rest (after w l e) ∙ entry_mode w l e (h e refl)

decide_mode : (n : ℕ) (w : World) (l : Ledger) → (after_all w l (decide n w l)).mode ≡ l.mode
unfolding decide after_all
decide_mode zero w l = refl
decide_mode (suc n) w l = decided_mode n w l (next w l) (next_spares w l) (λ k. decide_mode n w k)

decisions_mode : (w : World) (l : Ledger) → (after_all w l (decisions w l)).mode ≡ l.mode
unfolding decisions
decisions_mode w l = decide_mode (2 ^ 60) w l

-- the first entry of an item
own_mode : (w : World) (l : Ledger) (item : LifeEvent) → (after w l (entry_of l item)).mode ≡ l.mode
unfolding after
own_mode w l Begin = tidied_mode w l (noted (entry_of l Begin) (change w l (entry_of l Begin)))
own_mode w l Finish = entry_mode w l entries.End refl
own_mode w l (Heard (events.At t)) = entry_mode w l (entry_of l (Heard (events.At t))) refl
own_mode w l (Heard (events.Mail sender to content)) = entry_mode w l (entry_of l (Heard (events.Mail sender to content))) refl
own_mode w l (Heard (events.Reply number state os)) = entry_mode w l (entry_of l (Heard (events.Reply number state os))) refl
own_mode w l (Heard (events.Trigger kind)) = entry_mode w l (entry_of l (Heard (events.Trigger kind))) refl

rest_mode : (w : World) (l : Ledger) (b : Bool) → (after_all w l (if b then decisions w l else [])).mode ≡ l.mode
unfolding after_all
rest_mode w l true = decisions_mode w l
rest_mode w l false = refl

turn_mode : (w : World) (l : Ledger) (item : LifeEvent) → (after_all w l (turn w l item)).mode ≡ l.mode
unfolding turn after_all
turn_mode w l item = rest_mode w (after w l (entry_of l item)) (goes_on item) ∙ own_mode w l item

-- and so does a run
pub run_mode : (w : World) (l : Ledger) (items : List LifeEvent) → (after_all w l (run w l items)).mode ≡ l.mode
unfolding run after_all
run_mode w l [] = refl
run_mode w l (item ∷ items) =
    let es = turn w l item in
    ap (λ (k : Ledger). k.mode) (after_all-append w l es (run w (after_all w l es) items)) ∙ run_mode w (after_all w l es) items ∙ turn_mode w l item

-- ---- a life that begins

-- nothing is known of what went before but the book and the mode
pub begins_on : (w : World) (l : Ledger) → after w l (entry_of l Begin) ≡ opened_ledger w l.mode l.book
unfolding after
begins_on w l = refl

pub begun_timed : (w : World) (mode : Mode) (b : Book) → (opened_ledger w mode b).timed ≡ false
unfolding after
begun_timed w mode b = let t = tidy_scan_is (noted (entries.Life (b.generation + 1) mode) (change w (opening mode b) (entries.Life (b.generation + 1) mode))) in ap (λ (x : Ledger). x.timed) t.2

-- no decision follows before the first moment
quiet_by : (w : World) (l : Ledger) (n : ℕ) → l.timed ≡ false → decide n w l ≡ []
unfolding decide next
quiet_by w l zero h = refl
quiet_by w l (suc n) h = ap (λ b. elim (if b then first_rule w l else None) [ None ↦ [] | Some e ↦ e ∷ decide n w (after w l e) ]) h

pub untimed_quiet : (w : World) (l : Ledger) → l.timed ≡ false → decisions w l ≡ []
unfolding decisions
untimed_quiet w l h = quiet_by w l (2 ^ 60) h
