-- A book that is lawful stays lawful: no entry brings a damaged file out of corrupt.
use Rattle.std.proofs.Common.{◌≡◌, ℕ, Bool, true, false, List, [], ◌∷◌, ◌++◌, map, replicate, length, Option, Some, None, refl, ap, ◌∙◌, if◌then◌else◌}
use Rattle.std.proofs.lemmas.Bool.{and_from, and_parts}
use Rattle.std.specs.List.{list_all}
use Rattle.std.specs.Option.{option_map_or}
use Rattle.std.specs.Prelude.{◌+◌, nat_le}
use Rattle.q_laws.proofs.Beginnings.{life_consistent}
use Rattle.q_laws.proofs.Kept.{entry_consistent}
use Rattle.q_laws.proofs.Loaded.{records_is}
use Rattle.q_laws.proofs.Tidied.{tidy_scan_is}
use Rattle.q_laws.specs.Consistency.{IsConsistent, IsUsable}
use Rattle.q_laws.specs.Traces.{IsEntryOf}
use Rattle.q_model.specs.Batches.{load_rows}
use Rattle.q_model.specs.Book.{Book, Damaged, all_ids, message_of}
use Rattle.q_model.specs.BookChanges.{add_message}
use Rattle.q_model.specs.Clock.{after_at, scheduled, woken}
use Rattle.q_model.specs.Deliveries.{flight_of}
use Rattle.q_model.specs.declared.event.Mode.{Mode}
use Rattle.q_model.specs.Ids.{are_distinct, id_eq}
use Rattle.q_model.specs.Ledger.{Ledger}
use Rattle.q_model.specs.Loads.{loaded}
use Rattle.q_model.specs.Message.{Message}
use Rattle.q_model.specs.Notices.{bounce_message}
use Rattle.q_model.specs.Orderly.{is_lawful, is_orderly}
use Rattle.q_model.specs.Replies.{landed, replied}
use Rattle.q_model.specs.Scans.{ask_scan, joined_request, new_scan}
use Rattle.q_model.specs.Settings.{World}
use Rattle.q_model.specs.Settling.{needs_of, with_outcomes}
use Rattle.q_model.specs.Skips.{unqueued}
use Rattle.q_model.specs.Places.{is_corrupt}
use Rattle.q_model.specs.Step.{after, change, noted, tidied}
use Rattle.q_model.specs.Triggers.{after_trigger}
use Rattle.q_model.specs.declared.entry.Entry.{Entry}
use Rattle.q_model.specs.declared.event.Trigger.{Trigger}
use Rattle.q_model.specs.declared.id.Id.{Id}
use Rattle.q_model.specs.declared.outcome.Outcome.{Outcome}
use Rattle.q_model.specs.declared.outcome.SiteState.{SiteState}
use Rattle.q_model.specs.declared.rows.Delivery.{Delivery}
use Rattle.q_model.specs.declared.rows.Request.{Request}
use Rattle.q_model.specs.declared.rows.Scan.{Scan}
use Rattle.q_model.specs.declared.entry.Entry.TheVariants as entries
use Rattle.q_model.specs.declared.event.Trigger.TheVariants as triggers
use Rattle.q_model.specs.declared.outcome.Outcome.TheVariants as outcomes
use Rattle.q_model.specs.declared.rows.Place.TheVariants as places
use Rattle.q_model.specs.declared.rows.Request.TheVariants as requests

-- each damaged file is in corrupt
abbrev are_corrupt : List Damaged → Bool
are_corrupt ds = list_all (λ (d : Damaged). is_corrupt d.place) ds

-- ---- entries that keep the book

asked_book : (l : Ledger) (r : Request) (o : Option Scan) → (option_map_or (λ s. record l { asked = Some (joined_request l.asked r); ignores = false }) o (record l { scan = Some (new_scan l.now r); ignores = false })).book ≡ l.book
asked_book l r None = refl
asked_book l r (Some s) = refl

ask_book : (l : Ledger) → (ask_scan l).book ≡ l.book
ask_book l = asked_book l (if l.ignores then requests.All else requests.Due) l.scan

at_book : (w : World) (l : Ledger) (t : ℕ) (b : Bool) → (if b then ask_scan (scheduled w l t) else woken w l t).book ≡ l.book
at_book w l t true = ask_book (scheduled w l t)
at_book w l t false = refl

trigger_book : (w : World) (l : Ledger) (kind : Trigger) → (after_trigger w l kind).book ≡ l.book
trigger_book w l triggers.D = ask_book l
trigger_book w l triggers.A = refl
trigger_book w l triggers.F = refl

tidy_on : (w : World) (l : Ledger) (ps : List ℕ) (os : List Outcome) (o : Option Message) → (option_map_or (λ m. record l { unsettled = l.unsettled ++ needs_of w l.now m ps os }) o l).book ≡ l.book
tidy_on w l ps os None = refl
tidy_on w l ps os (Some m) = refl

with_outcomes_book : (w : World) (id : Id) (ps : List ℕ) (os : List Outcome) (l : Ledger) → (with_outcomes w id ps os l).book ≡ l.book
with_outcomes_book w id ps os l = tidy_on w l ps os (message_of l.book id)

reply_book : (w : World) (l : Ledger) (state : SiteState) (os : List Outcome) (o : Option Delivery) → (option_map_or (λ (f : Delivery). replied w l state os f) o l).book ≡ l.book
reply_book w l state os None = refl
reply_book w l state os (Some f) = with_outcomes_book w f.row.id f.row.positions os (landed w l state f)

load_book : (w : World) (l : Ledger) (id : Id) (from to : ℕ) (o : Option Message) → (option_map_or (λ m. loaded w l id to (load_rows w m from to)) o l).book ≡ l.book
load_book w l id from to None = refl
load_book w l id from to (Some m) = ap (λ (k : Ledger). k.book) (records_is w (load_rows w m from to) l).1

-- ---- entries that keep the damaged files

bounce_damaged : (l : Ledger) (o : Option Message) → (option_map_or (λ m. record l { book = add_message l.book (bounce_message l.now m) }) o l).book.damaged ≡ l.book.damaged
bounce_damaged l None = refl
bounce_damaged l (Some m) = refl

moved_one : (d : Damaged) (b : Bool) → is_corrupt d.place ≡ true → is_corrupt (if b then record d { place = places.Corrupt } else d).place ≡ true
moved_one d true h = refl
moved_one d false h = h

moved_corrupt : (id : Id) (ds : List Damaged) → are_corrupt ds ≡ true → are_corrupt (map (λ (d : Damaged). if id_eq d.id id then record d { place = places.Corrupt } else d) ds) ≡ true
moved_corrupt id [] h = refl
moved_corrupt id (d ∷ ds) h =
    let two = and_parts (is_corrupt d.place) (are_corrupt ds) h in
    and_from (is_corrupt (if id_eq d.id id then record d { place = places.Corrupt } else d).place) (are_corrupt (map (λ (x : Damaged). if id_eq x.id id then record x { place = places.Corrupt } else x) ds))
    (moved_one d (id_eq d.id id) two.0) (moved_corrupt id ds two.1)

by_book : (b c : Book) → c ≡ b → are_corrupt b.damaged ≡ true → are_corrupt c.damaged ≡ true
by_book b c e h = ap (λ (x : Book). are_corrupt x.damaged) e ∙ h

damaged_change : (w : World) (l : Ledger) (e : Entry) → are_corrupt l.book.damaged ≡ true → are_corrupt (change w l e).book.damaged ≡ true
damaged_change w l (entries.Life generation mode) h = h
damaged_change w l (entries.At t) h = by_book l.book (after_at w l t).book (at_book w l t (nat_le l.next_run t)) h
damaged_change w l (entries.Arrive id sender to content) h = h
damaged_change w l (entries.Back id) h = h
damaged_change w l (entries.Admit id) h = h
damaged_change w l (entries.Load id from to) h = by_book l.book (change w l (entries.Load id from to)).book (load_book w l id from to (message_of l.book id)) h
damaged_change w l (entries.Start number id site positions) h = h
damaged_change w l (entries.Preempt child parent transport need) h = h
damaged_change w l (entries.Reply number state outcomes) h = by_book l.book (change w l (entries.Reply number state outcomes)).book (reply_book w l state outcomes (flight_of l number)) h
damaged_change w l (entries.Skip id site positions) h = by_book l.book (change w l (entries.Skip id site positions)).book (with_outcomes_book w id positions (replicate (length positions) (outcomes.Later 0)) (unqueued l id site positions)) h
damaged_change w l (entries.Log id failure) h = h
damaged_change w l (entries.Mark id position) h = h
damaged_change w l (entries.Sync id) h = h
damaged_change w l (entries.Defer id due) h = h
damaged_change w l (entries.Bounce id) h = ap are_corrupt (bounce_damaged l (message_of l.book id)) ∙ h
damaged_change w l (entries.Remove id) h = h
damaged_change w l (entries.Corrupt id) h = moved_corrupt id l.book.damaged h
damaged_change w l (entries.Trigger kind) h = by_book l.book (after_trigger w l kind).book (trigger_book w l kind) h
damaged_change w l entries.End h = h

tidied_book : (w : World) (before l : Ledger) → (tidied w before l).book ≡ l.book
tidied_book w before l = ap (λ (k : Ledger). k.book) (tidy_scan_is l).2

damaged_after : (w : World) (l : Ledger) (e : Entry) → are_corrupt l.book.damaged ≡ true → are_corrupt (after w l e).book.damaged ≡ true
unfolding after
damaged_after w l e h = by_book (change w l e).book (after w l e).book (tidied_book w l (noted e (change w l e))) (damaged_change w l e h)

-- a lawful book stays lawful
pub entry_lawful : (w : World) (l : Ledger) (e : Entry) → IsConsistent w l → IsEntryOf w l e → is_lawful l.book ≡ true → is_lawful (after w l e).book ≡ true
entry_lawful w l e c h lawful =
    let next = entry_consistent w l e c h in
    and_from (is_orderly (after w l e).book) (are_corrupt (after w l e).book.damaged) next.book.orderly (damaged_after w l e (and_parts (is_orderly l.book) (are_corrupt l.book.damaged) lawful).1)

-- a life that begins on a lawful book has one
pub life_lawful : (w : World) (l : Ledger) (mode : Mode) → IsUsable w → are_distinct (all_ids l.book) ≡ true → is_lawful l.book ≡ true → is_lawful (after w l (entries.Life (l.book.generation + 1) mode)).book ≡ true
life_lawful w l mode usable distinct lawful =
    let two = and_parts (is_orderly l.book) (are_corrupt l.book.damaged) lawful in
    let e = entries.Life (l.book.generation + 1) mode in
    let next = life_consistent w l mode usable distinct two.0 in
    and_from (is_orderly (after w l e).book) (are_corrupt (after w l e).book.damaged) next.book.orderly (damaged_after w l e two.1)
