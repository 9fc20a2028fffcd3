-- An entry is the newest of the past; of those before it only the beginning of a life takes any away.
use Rattle.std.proofs.Common.{◌≡◌, ℕ, Bool, true, false, List, [], ◌∷◌, ◌++◌, Option, Some, None, refl, if◌then◌else◌}
use Rattle.std.specs.Option.{option_map_or}
use Rattle.std.specs.Prelude.{length, nat_le, replicate}
use Rattle.q_model.specs.declared.entry.Entry.{Entry}
use Rattle.q_model.specs.declared.id.Id.{Id}
use Rattle.q_model.specs.declared.outcome.Outcome.{Outcome}
use Rattle.q_model.specs.declared.rows.DeferredName.{DeferredName}
use Rattle.q_model.specs.declared.rows.Request.{Request}
use Rattle.q_model.specs.declared.rows.Row.{Row}
use Rattle.q_model.specs.declared.rows.Scan.{Scan}
use Rattle.q_model.specs.Alternation.{after_pick, passed, pick, Pick}
use Rattle.q_model.specs.Alternation.Pick.{from_deferred, from_incoming}
use Rattle.q_model.specs.Batches.{load_rows}
use Rattle.q_model.specs.Book.{message_of}
use Rattle.q_model.specs.BookChanges.{add_message}
use Rattle.q_model.specs.Clock.{scheduled, woken}
use Rattle.q_model.specs.Deliveries.{flight_of}
use Rattle.q_model.specs.Leftovers.{is_next_leftover}
use Rattle.q_model.specs.Ledger.{Ledger}
use Rattle.q_model.specs.Loads.{loaded, with_records}
use Rattle.q_model.specs.Notices.{bounce_message}
use Rattle.q_model.specs.Past.{is_life}
use Rattle.q_model.specs.Replies.{landed, replied}
use Rattle.q_model.specs.Scans.{ask_scan, end_scan, open_scan, remember_scan, scan_next, tidy_scan_at, tidy_scan_of}
use Rattle.q_model.specs.Settings.{World}
use Rattle.q_model.specs.Settling.{needs_of, with_outcomes}
use Rattle.q_model.specs.SiteRecords.{with_record}
use Rattle.q_model.specs.Skips.{unqueued}
use Rattle.q_model.specs.Step.{after, change, noted}
use Rattle.q_model.specs.declared.entry.Entry.TheVariants as entries
use Rattle.q_model.specs.declared.event.Trigger.TheVariants as triggers
use Rattle.q_model.specs.declared.outcome.Outcome.TheVariants as outcomes
use Rattle.q_model.specs.declared.rows.Request.TheVariants as requests

option_past : {A : Type 0} (l : Ledger) (f : A → Ledger) → ((x : A) → (f x).past ≡ l.past) → (o : Option A) → (option_map_or f o l).past ≡ l.past
option_past l f h None = refl
option_past l f h (Some x) = h x

either_past : (es : List Entry) (b : Bool) (k l : Ledger) → k.past ≡ es → l.past ≡ es → (if b then k else l).past ≡ es
either_past es true k l h i = h
either_past es false k l h i = i

ask_past : (l : Ledger) (r : Request) (o : Option Scan) → (option_map_or (λ s. remember_scan l r) o (open_scan l r)).past ≡ l.past
ask_past l r None = refl
ask_past l r (Some s) = refl

asked_past : (l : Ledger) → (ask_scan l).past ≡ l.past
asked_past l = ask_past l (if l.ignores then requests.All else requests.Due) l.scan

pick_past : (l : Ledger) → (after_pick l).past ≡ l.past
pick_past l = option_past l (λ p. passed p l) on (pick l)
  where
    on : (p : Pick) → (passed p l).past ≡ l.past
    on (from_incoming id) = refl
    on (from_deferred name) = refl

records_past : (w : World) (rows : List Row) (l : Ledger) → (with_records w rows l).past ≡ l.past
records_past w [] l = refl
records_past w (r ∷ rs) l = records_past w rs (record l { sites = with_record w l.sites r.site })

outcomes_past : (w : World) (id : Id) (ps : List ℕ) (os : List Outcome) (l : Ledger) → (with_outcomes w id ps os l).past ≡ l.past
outcomes_past w id ps os l = option_past l (λ m. record l { unsettled = l.unsettled ++ needs_of w l.now m ps os }) (λ m. refl) (message_of l.book id)

-- what an entry changes leaves the past, unless a life begins
pub change_past : (w : World) (l : Ledger) (e : Entry) → is_life e ≡ false → (change w l e).past ≡ l.past
change_past w l (entries.Life generation mode) h = absurd cc
change_past w l (entries.At t) h = either_past l.past (nat_le l.next_run t) (ask_scan (scheduled w l t)) (woken w l t) (asked_past (scheduled w l t)) refl
change_past w l (entries.Arrive id sender to content) h = refl
change_past w l (entries.Back id) h = refl
change_past w l (entries.Admit id) h = pick_past l
change_past w l (entries.Load id from to) h = option_past l (λ m. loaded w l id to (load_rows w m from to)) (λ m. records_past w (load_rows w m from to) l) (message_of l.book id)
change_past w l (entries.Start number id site positions) h = refl
change_past w l (entries.Preempt child parent transport need) h = refl
change_past w l (entries.Reply number state os) h = option_past l (λ f. replied w l state os f) (λ f. outcomes_past w f.row.id f.row.positions os (landed w l state f)) (flight_of l number)
change_past w l (entries.Skip id site positions) h = outcomes_past w id positions (replicate (length positions) (outcomes.Later 0)) (unqueued l id site positions)
change_past w l (entries.Log id failure) h = refl
change_past w l (entries.Mark id position) h = refl
change_past w l (entries.Sync id) h = refl
change_past w l (entries.Defer id due) h = refl
change_past w l (entries.Bounce id) h = option_past l (λ m. record l { book = add_message l.book (bounce_message l.now m) }) (λ m. refl) (message_of l.book id)
change_past w l (entries.Remove id) h = refl
change_past w l (entries.Corrupt id) h = either_past l.past (is_next_leftover l id) l (after_pick l) refl (pick_past l)
change_past w l (entries.Trigger triggers.D) h = asked_past l
change_past w l (entries.Trigger triggers.A) h = refl
change_past w l (entries.Trigger triggers.F) h = refl
change_past w l entries.End h = refl

-- ---- tidying

end_past : (l : Ledger) (asked : Option Request) → (end_scan l asked).past ≡ l.past
end_past l None = refl
end_past l (Some request) = refl

scan_at_past : (l : Ledger) (o : Option DeferredName) → (tidy_scan_at l o).past ≡ l.past
scan_at_past l None = end_past l l.asked
scan_at_past l (Some name) = refl

scan_past : (l : Ledger) (o : Option Scan) → (tidy_scan_of l o).past ≡ l.past
scan_past l None = refl
scan_past l (Some s) = scan_at_past l (scan_next l.book s)

pub after_past : (w : World) (l : Ledger) (e : Entry) → (after w l e).past ≡ e ∷ (change w l e).past
unfolding after
after_past w l e = scan_past (noted e (change w l e)) (change w l e).scan
