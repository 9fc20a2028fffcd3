-- A message that stays in memory keeps the number of its recipients by each entry.
use Rattle.std.proofs.Common.{◌≡◌, ℕ, ◌++◌, Bool, true, false, List, [], ◌∷◌, map, length, replicate, Option, Some, None, not, refl, sym, ap, ◌∙◌, if◌then◌else◌, arith}
use Rattle.std.proofs.lemmas.Bool.{and_parts, not-true, or_parts}
use Rattle.std.proofs.lemmas.Map.Views.{any-filter_same}
use Rattle.std.specs.List.{enumerate_from, list_any}
use Rattle.std.specs.Option.{option_map_or}
use Rattle.std.specs.Prelude.{◌+◌, ◌&&◌, ◌||◌, nat_le}
use Rattle.q_laws.proofs.Added.{still_found}
use Rattle.q_laws.proofs.InPlace.{on_change}
use Rattle.q_laws.proofs.Loaded.{records_is}
use Rattle.q_laws.proofs.Moved.{move_to, other_left}
use Rattle.q_laws.proofs.Tidied.{tidy_scan_is}
use Rattle.q_laws.specs.Consistency.{IsConsistent}
use Rattle.q_model.proofs.IdLaws.{id_eq-true}
use Rattle.q_model.specs.Alternation.{Pick, after_pick, from_deferred, from_incoming, passed, pick}
use Rattle.q_model.specs.Arrivals.{arrived}
use Rattle.q_model.specs.Batches.{load_rows}
use Rattle.q_model.specs.Book.{Book, message_of}
use Rattle.q_model.specs.BookChanges.{add_message, change_message, move_damaged, move_message, remove_message}
use Rattle.q_model.specs.Clock.{scheduled, woken}
use Rattle.q_model.specs.Deliveries.{flight_of}
use Rattle.q_model.specs.Finishing.{without}
use Rattle.q_model.specs.Ids.{id_eq}
use Rattle.q_model.specs.Ledger.{Ledger}
use Rattle.q_model.specs.Leftovers.{is_next_leftover}
use Rattle.q_model.specs.Loads.{loaded, read_up_to}
use Rattle.q_model.specs.Logs.{with_failure}
use Rattle.q_model.specs.Marking.{mark_one, with_mark}
use Rattle.q_model.specs.Marks.{sync_mark}
use Rattle.q_model.specs.Memory.{is_admitted}
use Rattle.q_model.specs.Message.{Message, Recipient}
use Rattle.q_model.specs.Notices.{bounce_message}
use Rattle.q_model.specs.PreemptingStarts.{ends_job}
use Rattle.q_model.specs.Replies.{landed, replied}
use Rattle.q_model.specs.Scans.{ask_scan, joined_request, new_scan}
use Rattle.q_model.specs.Settings.{World}
use Rattle.q_model.specs.Settling.{needs_of}
use Rattle.q_model.specs.Skips.{unqueued}
use Rattle.q_model.specs.Step.{after, change, noted}
use Rattle.q_model.specs.Syncs.{sync_all}
use Rattle.q_model.specs.Triggers.{after_trigger}
use Rattle.q_model.specs.declared.entry.Entry.{Entry}
use Rattle.q_model.specs.declared.event.Trigger.{Trigger}
use Rattle.q_model.specs.declared.id.Id.{Id}
use Rattle.q_model.specs.declared.outcome.Outcome.{Outcome}
use Rattle.q_model.specs.declared.outcome.SiteState.{SiteState}
use Rattle.q_model.specs.declared.rows.Admitted.{Admitted}
use Rattle.q_model.specs.declared.rows.Delivery.{Delivery}
use Rattle.q_model.specs.declared.rows.Place.{Place}
use Rattle.q_model.specs.declared.rows.Request.{Request}
use Rattle.q_model.specs.declared.rows.Scan.{Scan}
use Rattle.q_model.specs.declared.entry.Entry.TheVariants as entries
use Rattle.q_model.specs.declared.event.Trigger.TheVariants as triggers
use Rattle.q_model.specs.declared.outcome.Outcome.TheVariants as outcomes
use Rattle.q_model.specs.declared.rows.Place.TheVariants as places
use Rattle.q_model.specs.declared.rows.Request.TheVariants as requests

-- the recipients of the message in a book
abbrev pub count_in : Book → Id → ℕ
count_in b id = option_map_or (λ m. length m.recipients) (message_of b id) 0

-- A message in memory now was there before, and has as many recipients.
pub record IsKept (l k : Ledger) (id : Id) : Type 0 where
  pub admitted : is_admitted k id ≡ true → is_admitted l id ≡ true
  pub recipients : (m : Message) → message_of l.book id ≡ Some m → is_admitted k id ≡ true → count_in k.book id ≡ length m.recipients

pub counted : (b : Book) (id : Id) (m : Message) → message_of b id ≡ Some m → count_in b id ≡ length m.recipients
counted b id m there = ap (λ (o : Option Message). option_map_or (λ (x : Message). length x.recipients) o 0) there

same_kept : (l : Ledger) (id : Id) → IsKept l l id
same_kept l id = record { admitted = λ h. h; recipients = λ m there inside. counted l.book id m there }

-- a book in which each message has as many recipients
book_kept : (l k : Ledger) (id : Id) → (is_admitted k id ≡ true → is_admitted l id ≡ true) → count_in k.book id ≡ count_in l.book id → IsKept l k id
book_kept l k id inside same = record { admitted = inside; recipients = λ m there now. same ∙ counted l.book id m there }

-- ---- the clock and triggers

asked_kept : (l k : Ledger) (request : Request) (id : Id) (o : Option Scan) → IsKept l k id → IsKept l (option_map_or (λ s. record k { asked = Some (joined_request k.asked request); ignores = false }) o (record k { scan = Some (new_scan k.now request); ignores = false })) id
asked_kept l k request id None h = record { admitted = h.admitted; recipients = h.recipients }
asked_kept l k request id (Some s) h = record { admitted = h.admitted; recipients = h.recipients }

ask_kept : (l k : Ledger) (id : Id) → IsKept l k id → IsKept l (ask_scan k) id
ask_kept l k id h = asked_kept l k (if k.ignores then requests.All else requests.Due) id k.scan h

at_kept : (w : World) (l : Ledger) (moment : ℕ) (id : Id) (b : Bool) → IsKept l (if b then ask_scan (scheduled w l moment) else woken w l moment) id
at_kept w l moment id true = ask_kept l (scheduled w l moment) id (book_kept l (scheduled w l moment) id (λ h. h) refl)
at_kept w l moment id false = book_kept l (woken w l moment) id (λ h. h) refl

trigger_kept : (w : World) (l : Ledger) (kind : Trigger) (id : Id) → IsKept l (after_trigger w l kind) id
trigger_kept w l triggers.D id = ask_kept l l id (same_kept l id)
trigger_kept w l triggers.A id = book_kept l (after_trigger w l triggers.A) id (λ h. h) refl
trigger_kept w l triggers.F id = book_kept l (after_trigger w l triggers.F) id (λ h. h) refl

-- ---- the book

add_kept : (l : Ledger) (x : Message) (id : Id) → IsKept l (record l { book = add_message l.book x }) id
add_kept l x id = record {
  admitted = λ h. h;
  recipients = λ m there now. counted (add_message l.book x) id m (still_found l.book x id m there);
}

bounce_kept : (l : Ledger) (id : Id) (o : Option Message) → IsKept l (option_map_or (λ (m : Message). record l { book = add_message l.book (bounce_message l.now m) }) o l) id
bounce_kept l id None = same_kept l id
bounce_kept l id (Some m) = add_kept l (bounce_message l.now m) id

-- a message changes and keeps its recipients
pub change_counts : (b : Book) (i : Id) (f : Message → Message) (id : Id) → ((m : Message) → (f m).id ≡ m.id) → ((m : Message) → length (f m).recipients ≡ length m.recipients) → count_in (change_message b i f) id ≡ count_in b id
change_counts b i f id name count = on_change 0 (λ (m : Message). length m.recipients) i f name count b id

marked_length : (p n : ℕ) (rs : List Recipient) → length (map (mark_one p) (enumerate_from n rs)) ≡ length rs
marked_length p n [] = refl
marked_length p n (r ∷ rs) = let rest = marked_length p (n + 1) rs in omega (arith, rest)

mapped_length : {A : Type 0} (f : A → A) (xs : List A) → length (map f xs) ≡ length xs
mapped_length f [] = refl
mapped_length f (x ∷ xs) = let rest = mapped_length f xs in omega (arith, rest)

-- ---- those in memory

-- who leaves memory isn't there; the others stay
without_admitted : (rows : List Admitted) (i id : Id) → list_any (λ (a : Admitted). id_eq a.id id) (without i rows) ≡ (not (id_eq id i) && list_any (λ (a : Admitted). id_eq a.id id) rows)
without_admitted rows i id =
    any-filter_same (λ (a : Admitted). id_eq a.id id) (λ (a : Admitted). not (id_eq a.id i)) (not (id_eq id i))
    (λ a h. ap (λ (j : Id). not (id_eq j i)) (id_eq-true a.id id h)) rows

leave_kept : (l : Ledger) (b : Book) (i id : Id) → ((m : Message) → message_of l.book id ≡ Some m → id_eq id i ≡ false → count_in b id ≡ length m.recipients) → IsKept l (record l { book = b; admitted = without i l.admitted }) id
leave_kept l b i id same = record { admitted = λ h. (parts h).1; recipients = λ m there now. same m there (not-true (id_eq id i) (parts now).0) }
  where
    parts : is_admitted (record l { book = b; admitted = without i l.admitted }) id ≡ true → (not (id_eq id i) ≡ true) × (is_admitted l id ≡ true)
    parts h = and_parts (not (id_eq id i)) (is_admitted l id) (sym (without_admitted l.admitted i id) ∙ h)

added_admitted : (rows : List Admitted) (i id : Id) → id_eq i id ≡ false → list_any (λ (a : Admitted). id_eq a.id id) (rows ++ record { id = i; unread = 0 } ∷ []) ≡ true → list_any (λ (a : Admitted). id_eq a.id id) rows ≡ true
added_admitted [] i id other h = absurd cc
added_admitted (a ∷ rows) i id other h = which (id_eq a.id id) (added_admitted rows i id other) h
  where
    which : (b : Bool) → (list_any (λ (x : Admitted). id_eq x.id id) (rows ++ record { id = i; unread = 0 } ∷ []) ≡ true → list_any (λ (x : Admitted). id_eq x.id id) rows ≡ true)
        → (b || list_any (λ (x : Admitted). id_eq x.id id) (rows ++ record { id = i; unread = 0 } ∷ [])) ≡ true → (b || list_any (λ (x : Admitted). id_eq x.id id) rows) ≡ true
    which true rest e = refl
    which false rest e = rest e

read_admitted : (rows : List Admitted) (i id : Id) (to : ℕ) → list_any (λ (a : Admitted). id_eq a.id id) (map (read_up_to i to) rows) ≡ list_any (λ (a : Admitted). id_eq a.id id) rows
read_admitted [] i id to = refl
read_admitted (a ∷ rows) i id to = which (id_eq a.id i) ∙ ap (λ (t : Bool). id_eq a.id id || t) (read_admitted rows i id to)
  where
    which : (b : Bool) → (id_eq (if b then record a { unread = to } else a).id id || list_any (λ (x : Admitted). id_eq x.id id) (map (read_up_to i to) rows)) ≡ (id_eq a.id id || list_any (λ (x : Admitted). id_eq x.id id) (map (read_up_to i to) rows))
    which true = refl
    which false = refl

passed_same : (l : Ledger) (p : Pick) → (passed p l).admitted ≡ l.admitted
passed_same l (from_incoming i) = refl
passed_same l (from_deferred name) = refl

picked_same : (l : Ledger) (o : Option Pick) → (option_map_or (λ p. passed p l) o l).admitted ≡ l.admitted
picked_same l None = refl
picked_same l (Some p) = passed_same l p

admit_kept : (l k : Ledger) (i id : Id) → id_eq i id ≡ false → IsKept l (record k { book = move_message l.book i places.Active; admitted = l.admitted ++ record { id = i; unread = 0 } ∷ [] }) id
admit_kept l k i id other =
    book_kept l (record k { book = move_message l.book i places.Active; admitted = l.admitted ++ record { id = i; unread = 0 } ∷ [] }) id
    (added_admitted l.admitted i id other) (change_counts l.book i (move_to places.Active) id (λ m. refl) (λ m. refl))

corrupt_kept : (l : Ledger) (i id : Id) (b : Bool) → IsKept l (record (if b then l else after_pick l) { book = move_damaged l.book i places.Corrupt }) id
corrupt_kept l i id true = book_kept l (record l { book = move_damaged l.book i places.Corrupt }) id (λ h. h) refl
corrupt_kept l i id false =
    book_kept l (record (after_pick l) { book = move_damaged l.book i places.Corrupt }) id
    (λ h. ap (λ (rows : List Admitted). list_any (λ (a : Admitted). id_eq a.id id) rows) (sym (picked_same l (pick l))) ∙ h) refl

load_kept : (w : World) (l : Ledger) (i : Id) (from to : ℕ) (id : Id) (o : Option Message) → IsKept l (option_map_or (λ (m : Message). loaded w l i to (load_rows w m from to)) o l) id
load_kept w l i from to id None = same_kept l id
load_kept w l i from to id (Some m) =
    let rows = load_rows w m from to in
    book_kept l (loaded w l i to rows) id (λ h. sym (read_admitted l.admitted i id to) ∙ h)
    (ap (λ (x : Ledger). count_in x.book id) (records_is w rows l).1)

-- ---- outcomes

outcomes_kept : (w : World) (l k : Ledger) (id : Id) (ps : List ℕ) (os : List Outcome) (o : Option Message) → IsKept l k id →
    IsKept l (option_map_or (λ (m : Message). record k { unsettled = k.unsettled ++ needs_of w k.now m ps os }) o k) id
outcomes_kept w l k id ps os None h = h
outcomes_kept w l k id ps os (Some m) h = record { admitted = h.admitted; recipients = h.recipients }

reply_kept : (w : World) (l : Ledger) (state : SiteState) (os : List Outcome) (id : Id) (o : Option Delivery) → IsKept l (option_map_or (λ (f : Delivery). replied w l state os f) o l) id
reply_kept w l state os id None = same_kept l id
reply_kept w l state os id (Some f) = outcomes_kept w l (landed w l state f) id f.row.positions os (message_of l.book f.row.id) (book_kept l (landed w l state f) id (λ h. h) refl)

-- ---- each entry

left_counts : (b : Book) (i id : Id) (place : Place) (m : Message) → message_of b id ≡ Some m → count_in (move_message b i place) id ≡ length m.recipients
left_counts b i id place m there = change_counts b i (move_to place) id (λ x. refl) (λ x. refl) ∙ counted b id m there

removed_counts : (w : World) (l : Ledger) (i id : Id) (m : Message) → IsConsistent w l → message_of l.book id ≡ Some m → id_eq id i ≡ false → count_in (remove_message l.book i) id ≡ length m.recipients
removed_counts w l i id m c there other = counted (remove_message l.book i) id m (other_left l.book i id c.book.distinct other ∙ there)

-- while a job lasts, each entry keeps its message, if that stays in memory
change_kept : (w : World) (l : Ledger) (e : Entry) (id : Id) → IsConsistent w l → ends_job id e ≡ false → IsKept l (change w l e) id
change_kept w l (entries.Life generation mode) id c goes = absurd cc
change_kept w l (entries.At moment) id c goes = at_kept w l moment id (nat_le l.next_run moment)
change_kept w l (entries.Arrive i sender to content) id c goes = add_kept l (arrived l i sender to content) id
change_kept w l (entries.Back i) id c goes = book_kept l (record l { book = move_message l.book i places.Incoming }) id (λ h. h) (change_counts l.book i (move_to places.Incoming) id (λ m. refl) (λ m. refl))
change_kept w l (entries.Admit i) id c goes = admit_kept l (after_pick l) i id (or_parts (id_eq i id) false goes).0
change_kept w l (entries.Load i from to) id c goes = load_kept w l i from to id (message_of l.book i)
change_kept w l (entries.Start number i site ps) id c goes = book_kept l (change w l (entries.Start number i site ps)) id (λ h. h) refl
change_kept w l (entries.Preempt child parent transport need) id c goes = book_kept l (change w l (entries.Preempt child parent transport need)) id (λ h. h) refl
change_kept w l (entries.Reply number state os) id c goes = reply_kept w l state os id (flight_of l number)
change_kept w l (entries.Skip i site ps) id c goes =
    outcomes_kept w l (unqueued l i site ps) id ps (replicate (length ps) (outcomes.Later 0)) (message_of l.book i) (book_kept l (unqueued l i site ps) id (λ h. h) refl)
change_kept w l (entries.Log i failure) id c goes = book_kept l (change w l (entries.Log i failure)) id (λ h. h) (change_counts l.book i (with_failure failure) id (λ m. refl) (λ m. refl))
change_kept w l (entries.Mark i position) id c goes = book_kept l (change w l (entries.Mark i position)) id (λ h. h) (change_counts l.book i (with_mark position) id (λ m. refl) (λ m. marked_length position 0 m.recipients))
change_kept w l (entries.Sync i) id c goes = book_kept l (change w l (entries.Sync i)) id (λ h. h) (change_counts l.book i sync_all id (λ m. refl) (λ m. mapped_length (λ (r : Recipient). record r { mark = sync_mark r.mark }) m.recipients))
change_kept w l (entries.Defer i due) id c goes = leave_kept l (move_message l.book i (places.Deferred due)) i id (λ m there other. left_counts l.book i id (places.Deferred due) m there)
change_kept w l (entries.Bounce i) id c goes = bounce_kept l id (message_of l.book i)
change_kept w l (entries.Remove i) id c goes = leave_kept l (remove_message l.book i) i id (λ m there other. removed_counts w l i id m c there other)
change_kept w l (entries.Corrupt i) id c goes = corrupt_kept l i id (is_next_leftover l i)
change_kept w l (entries.Trigger kind) id c goes = trigger_kept w l kind id
change_kept w l entries.End id c goes = same_kept l id

pub after_kept : (w : World) (l : Ledger) (e : Entry) (id : Id) → IsConsistent w l → ends_job id e ≡ false → IsKept l (after w l e) id
unfolding after
after_kept w l e id c goes =
    let k = noted e (change w l e) in
    let kept = change_kept w l e id c goes in
    let scan = (tidy_scan_is k).2 in
    let inside : (after w l e).admitted ≡ (change w l e).admitted = ap (λ (x : Ledger). x.admitted) scan in
    let book : (after w l e).book ≡ (change w l e).book = ap (λ (x : Ledger). x.book) scan in
    record {
      admitted = λ h. kept.admitted (ap (list_any (λ (a : Admitted). id_eq a.id id)) (sym inside) ∙ h);
      recipients = λ m there now. ap (λ (b : Book). count_in b id) book ∙ kept.recipients m there (ap (list_any (λ (a : Admitted). id_eq a.id id)) (sym inside) ∙ now);
    }
