-- What a job has started and what it has left, together, don't grow while it lasts; nor does an entry charge it more than it says.
use Rattle.std.specs.List.{enumerate_from}
use Rattle.std.proofs.Common.{◌≡◌, ℕ, ◌+◌, ◌-◌, ◌≤◌, Bool, true, false, cond, List, [], ◌∷◌, ◌++◌, map, length, replicate, Option, Some, None, count_by, sum_by, not, take_while, inl, inr, refl, sym, ap, ◌∙◌, subst, arith, if◌then◌else◌}
use Rattle.std.proofs.lemmas.Bool.{and_parts, or_parts}
use Rattle.std.specs.List.{list_any}
use Rattle.std.specs.Option.{option_map_or}
use Rattle.std.specs.Prelude.{◌==◌, ◌&&◌, ◌||◌, nat_le}
use Rattle.q_inflation.proofs.Loading.{load_falls}
use Rattle.q_inflation.proofs.JobsLeft.{after_same, charged_more, count_dropped, is_of, starts_more, unread_changed, unread_in, unread_same, unread_without, waiting_of}
use Rattle.q_laws.proofs.Added.{find_passed, still_found}
use Rattle.q_laws.proofs.Decisions.{next_decided}
use Rattle.q_laws.proofs.Delivered.{this_row}
use Rattle.q_laws.proofs.Loaded.{IsLoad, load_on, records_is}
use Rattle.q_laws.proofs.Members.{IsIn, all_at, any_from, any_in}
use Rattle.q_laws.proofs.Moved.{move_to, other_left, other_moved}
use Rattle.q_laws.specs.Consistency.{IsConsistent, is_present}
use Rattle.q_laws.specs.Traces.{IsEntryOf, is_outside}
use Rattle.q_model.specs.Accounts.{charge_of, charged, is_admit_of, is_start_of, job_left, starts_of}
use Rattle.q_model.specs.Batches.{load_rows}
use Rattle.q_model.specs.Book.{Book, message_of}
use Rattle.q_model.specs.Places.{is_active}
use Rattle.q_model.specs.BookChanges.{add_message, change_message, move_damaged, move_message, remove_message}
use Rattle.q_model.specs.Clock.{scheduled, woken}
use Rattle.q_model.specs.Deliveries.{flight_of}
use Rattle.q_model.specs.Finishing.{without}
use Rattle.q_model.specs.Ids.{id_eq}
use Rattle.q_model.specs.Ledger.{Ledger}
use Rattle.q_model.specs.Leftovers.{is_next_leftover}
use Rattle.q_model.specs.Lists.{drop_first}
use Rattle.q_model.specs.Loads.{loaded}
use Rattle.q_model.specs.Logs.{with_failure}
use Rattle.q_model.specs.Marking.{mark_one, with_mark}
use Rattle.q_model.specs.Message.{Message, Recipient}
use Rattle.q_model.specs.Notices.{bounce_message}
use Rattle.q_model.specs.Arrivals.{arrived}
use Rattle.q_model.specs.Marks.{sync_mark}
use Rattle.q_model.specs.Memory.{admitted_of}
use Rattle.q_model.specs.Past.{has_entries, is_life, is_living, starts}
use Rattle.q_model.specs.PreemptingStarts.{ends_job}
use Rattle.q_model.specs.Replies.{landed, replied}
use Rattle.q_model.specs.Scans.{ask_scan, joined_request, new_scan}
use Rattle.q_model.specs.Settings.{World}
use Rattle.q_model.specs.Settling.{needs_of}
use Rattle.q_model.specs.SiteRecords.{is_dead_site}
use Rattle.q_model.specs.Skips.{unqueued}
use Rattle.q_model.specs.Startable.{is_startable}
use Rattle.q_model.specs.Starts.{is_row}
use Rattle.q_model.specs.Step.{after, allowed, change, may}
use Rattle.q_model.specs.Syncs.{sync_all}
use Rattle.q_model.specs.Triggers.{after_trigger}
use Rattle.q_model.specs.Alternation.{Pick, from_deferred, from_incoming, passed, pick, after_pick}
use Rattle.q_model.specs.Values.{Site}
use Rattle.q_model.specs.declared.entry.Entry.{Entry}
use Rattle.q_model.specs.declared.event.Trigger.{Trigger}
use Rattle.q_model.specs.declared.id.Id.{Id}
use Rattle.q_model.specs.declared.outcome.Outcome.{Outcome}
use Rattle.q_model.specs.declared.outcome.SiteState.{SiteState}
use Rattle.q_model.specs.declared.rows.Admitted.{Admitted}
use Rattle.q_model.specs.declared.rows.Delivery.{Delivery}
use Rattle.q_model.specs.declared.rows.Request.{Request}
use Rattle.q_model.specs.declared.rows.Row.{Row}
use Rattle.q_model.specs.declared.rows.Scan.{Scan}
use Rattle.q_model.specs.declared.entry.Entry.TheVariants as entries
use Rattle.q_model.specs.declared.event.Trigger.TheVariants as triggers
use Rattle.q_model.specs.declared.outcome.Outcome.TheVariants as outcomes
use Rattle.q_model.specs.declared.rows.Place.TheVariants as places
use Rattle.q_model.specs.declared.rows.Request.TheVariants as requests

-- what happened is as before, and what the job has left is at least n less
pub record IsLess (n : ℕ) (l k : Ledger) (id : Id) (t : ℕ) : Type 0 where
  pub past : k.past ≡ l.past
  pub job_left : n + job_left k id t ≤ job_left l id t

same_less : (l : Ledger) (id : Id) (t : ℕ) → IsLess 0 l l id t
same_less l id t = record { past = refl; job_left = omega arith }

-- ---- the clock and triggers

asked_less : (l k : Ledger) (request : Request) (id : Id) (t : ℕ) (o : Option Scan) → IsLess 0 l k id t → IsLess 0 l (option_map_or (λ s. record k { asked = Some (joined_request k.asked request); ignores = false }) o (record k { scan = Some (new_scan k.now request); ignores = false })) id t
asked_less l k request id t None h = record { past = h.past; job_left = h.job_left }
asked_less l k request id t (Some s) h = record { past = h.past; job_left = h.job_left }

ask_less : (l k : Ledger) (id : Id) (t : ℕ) → IsLess 0 l k id t → IsLess 0 l (ask_scan k) id t
ask_less l k id t h = asked_less l k (if k.ignores then requests.All else requests.Due) id t k.scan h

at_less : (w : World) (l : Ledger) (moment : ℕ) (id : Id) (t : ℕ) (b : Bool) → IsLess 0 l (if b then ask_scan (scheduled w l moment) else woken w l moment) id t
at_less w l moment id t true = ask_less l (scheduled w l moment) id t (record { past = refl; job_left = omega arith })
at_less w l moment id t false = record { past = refl; job_left = omega arith }

trigger_less : (w : World) (l : Ledger) (kind : Trigger) (id : Id) (t : ℕ) → IsLess 0 l (after_trigger w l kind) id t
trigger_less w l triggers.D id t = ask_less l l id t (same_less l id t)
trigger_less w l triggers.A id t = record { past = refl; job_left = omega arith }
trigger_less w l triggers.F id t = record { past = refl; job_left = omega arith }

-- ---- the book beside those in memory

-- another book in which no message in memory has more unread
book_less : (l : Ledger) (b : Book) (id : Id) (t : ℕ) → unread_in l.admitted b id ≤ unread_in l.admitted l.book id → IsLess 0 l (record l { book = b }) id t
book_less l b id t h = record { past = refl; job_left = omega (arith, h) }

present_found : (w : World) (l : Ledger) (a : Admitted) → IsConsistent w l → IsIn a l.admitted → (m : Message) × (message_of l.book a.id ≡ Some m)
present_found w l a c inside = on (message_of l.book a.id) refl (all_at (is_present l) a l.admitted c.memory.present inside)
  where
    on : (o : Option Message) → message_of l.book a.id ≡ o → option_map_or (λ (x : Message). is_active x.place) o false ≡ true → (m : Message) × (message_of l.book a.id ≡ Some m)
    on None e h = absurd cc
    on (Some m) e h = (m, e)

add_less : (w : World) (l : Ledger) (x : Message) (id : Id) (t : ℕ) → IsConsistent w l → IsLess 0 l (record l { book = add_message l.book x }) id t
add_less w l x id t c = book_less l (add_message l.book x) id t (
    let same : unread_in l.admitted (add_message l.book x) id ≡ unread_in l.admitted l.book id =
    unread_same l.admitted l.book (add_message l.book x) id (λ a inside. let one = present_found w l a c inside in still_found l.book x a.id one.0 one.1 ∙ sym one.1) in
    omega (arith, same))

bounce_less : (w : World) (l : Ledger) (id : Id) (t : ℕ) (o : Option Message) → IsConsistent w l → IsLess 0 l (option_map_or (λ (m : Message). record l { book = add_message l.book (bounce_message l.now m) }) o l) id t
bounce_less w l id t None c = same_less l id t
bounce_less w l id t (Some m) c = add_less w l (bounce_message l.now m) id t c

-- a message changes and keeps its recipients
changed_same : (l : Ledger) (i : Id) (f : Message → Message) (id : Id) → ((m : Message) → (f m).id ≡ m.id) → ((m : Message) → length (f m).recipients ≡ length m.recipients) → unread_in l.admitted (change_message l.book i f) id ≤ unread_in l.admitted l.book id
changed_same l i f id name count = let same = unread_changed l.admitted l.book i f id name count in omega (arith, same)

marked_length : (p n : ℕ) (rs : List Recipient) → length (map (mark_one p) (enumerate_from n rs)) ≡ length rs
marked_length p n [] = refl
marked_length p n (r ∷ rs) = let rest = marked_length p (n + 1) rs in omega (arith, rest)

mapped_length : {A : Type 0} (f : A → A) (xs : List A) → length (map f xs) ≡ length xs
mapped_length f [] = refl
mapped_length f (x ∷ xs) = let rest = mapped_length f xs in omega (arith, rest)

synced_length : (m : Message) → length (sync_all m).recipients ≡ length m.recipients
synced_length m = mapped_length (λ (r : Recipient). record r { mark = sync_mark r.mark }) m.recipients

-- ---- rows after_pick

row_alike : (i : Id) (site : Site) (ps : List ℕ) (id : Id) (t : ℕ) (r : Row) → is_row i site ps r ≡ true → is_of id t r ≡ (id_eq i id && (site.transport == t))
row_alike i site ps id t r h =
    let this = this_row i site ps r h in
    ap (λ (j : Id). id_eq j id && (r.site.transport == t)) this.name ∙ ap (λ (s : Site). id_eq i id && (s.transport == t)) this.at

row_falls : (l : Ledger) (i : Id) (site : Site) (ps : List ℕ) (id : Id) (t : ℕ) → list_any (is_row i site ps) l.waiting ≡ true →
    cond (id_eq i id && (site.transport == t)) 1 0 + waiting_of id t (drop_first (is_row i site ps) l.waiting) ≤ waiting_of id t l.waiting
row_falls l i site ps id t h = count_dropped (is_row i site ps) (is_of id t) (id_eq i id && (site.transport == t)) l.waiting h (row_alike i site ps id t)

some_row : (w : World) (l : Ledger) (i : Id) (site : Site) (ps : List ℕ) → list_any (λ (r : Row). is_row i site ps r && is_startable w l r) l.waiting ≡ true → list_any (is_row i site ps) l.waiting ≡ true
some_row w l i site ps h =
    let one = any_in (λ (r : Row). is_row i site ps r && is_startable w l r) l.waiting h in
    any_from (is_row i site ps) one.0 l.waiting one.1 (and_parts (is_row i site ps one.0) (is_startable w l one.0) one.2).0

-- ---- outcomes

outcomes_less : (w : World) (l k : Ledger) (id : Id) (t n : ℕ) (ps : List ℕ) (os : List Outcome) (o : Option Message) → IsLess n l k id t →
    IsLess n l (option_map_or (λ (m : Message). record k { unsettled = k.unsettled ++ needs_of w k.now m ps os }) o k) id t
outcomes_less w l k id t n ps os None h = h
outcomes_less w l k id t n ps os (Some m) h = record { past = h.past; job_left = h.job_left }

reply_less : (w : World) (l : Ledger) (state : SiteState) (os : List Outcome) (id : Id) (t : ℕ) (o : Option Delivery) → IsLess 0 l (option_map_or (λ (f : Delivery). replied w l state os f) o l) id t
reply_less w l state os id t None = same_less l id t
reply_less w l state os id t (Some f) = outcomes_less w l (landed w l state f) id t 0 f.row.positions os (message_of l.book f.row.id) (record { past = refl; job_left = omega arith })

skip_less : (w : World) (l : Ledger) (i : Id) (site : Site) (ps : List ℕ) (id : Id) (t : ℕ) → list_any (is_row i site ps) l.waiting ≡ true → IsLess 0 l (unqueued l i site ps) id t
skip_less w l i site ps id t h = let fall = row_falls l i site ps id t h in record { past = refl; job_left = omega (arith, fall) }

-- ---- those in memory

passed_less : (l : Ledger) (id : Id) (t : ℕ) (p : Pick) → IsLess 0 l (passed p l) id t
passed_less l id t (from_incoming i) = record { past = refl; job_left = omega arith }
passed_less l id t (from_deferred name) = record { past = refl; job_left = omega arith }

-- of a ledger from which a file is after_pick only which queue follows and the scan change
record IsPickedFrom (l k : Ledger) : Type 0 where
  past : k.past ≡ l.past
  waiting : k.waiting ≡ l.waiting
  admitted : k.admitted ≡ l.admitted
  book : k.book ≡ l.book

passed_from : (l : Ledger) (p : Pick) → IsPickedFrom l (passed p l)
passed_from l (from_incoming i) = record { past = refl; waiting = refl; admitted = refl; book = refl }
passed_from l (from_deferred name) = record { past = refl; waiting = refl; admitted = refl; book = refl }

picked_from : (l : Ledger) (o : Option Pick) → IsPickedFrom l (option_map_or (λ p. passed p l) o l)
picked_from l None = record { past = refl; waiting = refl; admitted = refl; book = refl }
picked_from l (Some p) = passed_from l p

admit_unread : (l : Ledger) (i id : Id) → id_eq i id ≡ false → unread_in (l.admitted ++ record { id = i; unread = 0 } ∷ []) (move_message l.book i places.Active) id ≤ unread_in l.admitted l.book id
admit_unread l i id other =
    let b = move_message l.book i places.Active in
    let found : unread_in (l.admitted ++ record { id = i; unread = 0 } ∷ []) b id ≡ unread_in l.admitted b id =
    ap (λ (o : Option Admitted). option_map_or (λ (a : Admitted). option_map_or (λ (m : Message). length m.recipients - a.unread) (message_of b a.id) 0) o 0) (find_passed (λ (a : Admitted). id_eq a.id id) l.admitted (record { id = i; unread = 0 }) other) in
    let same : unread_in l.admitted b id ≤ unread_in l.admitted l.book id = changed_same l i (move_to places.Active) id (λ m. refl) (λ m. refl) in
    omega (arith, found, same)

admit_less : (l k : Ledger) (i id : Id) (t : ℕ) → IsPickedFrom l k → id_eq i id ≡ false → IsLess 0 l (record k { book = move_message l.book i places.Active; admitted = l.admitted ++ record { id = i; unread = 0 } ∷ [] }) id t
admit_less l k i id t from other =
    let unread = admit_unread l i id other in
    let waits : waiting_of id t k.waiting ≡ waiting_of id t l.waiting = ap (waiting_of id t) from.waiting in
    record { past = from.past; job_left = omega (arith, unread, waits) }

corrupt_less : (l k : Ledger) (i id : Id) (t : ℕ) → IsPickedFrom l k → IsLess 0 l (record k { book = move_damaged l.book i places.Corrupt }) id t
corrupt_less l k i id t from =
    let waits : waiting_of id t k.waiting ≡ waiting_of id t l.waiting = ap (waiting_of id t) from.waiting in
    let unread : unread_in k.admitted (move_damaged l.book i places.Corrupt) id ≡ unread_in l.admitted l.book id = ap (λ rows. unread_in rows l.book id) from.admitted in
    record { past = from.past; job_left = omega (arith, waits, unread) }

corrupt_from : (l : Ledger) (b : Bool) → IsPickedFrom l (if b then l else after_pick l)
corrupt_from l true = record { past = refl; waiting = refl; admitted = refl; book = refl }
corrupt_from l false = picked_from l (pick l)

leave_less : (l : Ledger) (b : Book) (i id : Id) (t : ℕ) → ((j : Id) → id_eq j i ≡ false → message_of b j ≡ message_of l.book j) → IsLess 0 l (record l { book = b; admitted = without i l.admitted }) id t
leave_less l b i id t same = let fall = unread_without l.admitted l.book b i id same in record { past = refl; job_left = omega (arith, fall) }

-- ---- loads

read_less : (w : World) (l : Ledger) (i : Id) (from to : ℕ) (load : IsLoad w l i from to) (id : Id) (t : ℕ) → IsLess 0 l (loaded w l i to (load_rows w load.message from to)) id t
read_less w l i from to load id t =
    let rows = load_rows w load.message from to in
    let known = (records_is w rows l).1 in
    let fall = load_falls w l i from to load id t in
    let left : job_left (loaded w l i to rows) id t ≤ job_left l id t =
    subst (λ (b : Book). waiting_of id t (l.waiting ++ rows) + unread_in (map (λ (a : Admitted). if id_eq a.id i then record a { unread = to } else a) l.admitted) b id ≤ job_left l id t) (sym (ap (λ (x : Ledger). x.book) known)) fall in
    record { past = ap (λ (x : Ledger). x.past) known; job_left = omega (arith, left) }

-- ---- each entry

load_less : (w : World) (l : Ledger) (i : Id) (from to : ℕ) (id : Id) (t : ℕ) → IsLoad w l i from to → IsLess 0 l (change w l (entries.Load i from to)) id t
load_less w l i from to id t load =
    subst (λ (o : Option Message). IsLess 0 l (option_map_or (λ (m : Message). loaded w l i to (load_rows w m from to)) o l) id t) (sym load.there) (read_less w l i from to load id t)

start_less : (w : World) (l : Ledger) (number : ℕ) (i : Id) (site : Site) (ps : List ℕ) (id : Id) (t : ℕ) → list_any (is_row i site ps) l.waiting ≡ true → IsLess (cond (id_eq i id && (site.transport == t)) 1 0) l (change w l (entries.Start number i site ps)) id t
start_less w l number i site ps id t h = let fall = row_falls l i site ps id t h in record { past = refl; job_left = omega (arith, fall) }

remove_same : (w : World) (l : Ledger) (i : Id) → IsConsistent w l → (j : Id) → id_eq j i ≡ false → message_of (remove_message l.book i) j ≡ message_of l.book j
remove_same w l i c j other = other_left l.book i j c.book.distinct other

-- while a job lasts, each entry of a consistent ledger leaves it no more than it had
pub less_of : (w : World) (l : Ledger) (e : Entry) (id : Id) (t : ℕ) → IsConsistent w l → may w l e ≡ true → ends_job id e ≡ false → IsLess (cond (is_start_of id t e) 1 0) l (change w l e) id t
less_of w l (entries.Life generation mode) id t c h goes = absurd cc
less_of w l (entries.At moment) id t c h goes = at_less w l moment id t (nat_le l.next_run moment)
less_of w l (entries.Arrive i sender to content) id t c h goes = add_less w l (arrived l i sender to content) id t c
less_of w l (entries.Back i) id t c h goes = book_less l (move_message l.book i places.Incoming) id t (changed_same l i (move_to places.Incoming) id (λ m. refl) (λ m. refl))
less_of w l (entries.Admit i) id t c h goes = admit_less l (after_pick l) i id t (picked_from l (pick l)) (or_parts (id_eq i id) false goes).0
less_of w l (entries.Load i from to) id t c h goes = load_less w l i from to id t (load_on w l i from to (admitted_of l i) (message_of l.book i) c refl refl h)
less_of w l (entries.Start number i site ps) id t c h goes =
    start_less w l number i site ps id t (some_row w l i site ps (and_parts (number == starts l + 1) (list_any (λ (r : Row). is_row i site ps r && is_startable w l r) l.waiting) h).1)
less_of w l (entries.Preempt child parent transport need) id t c h goes = record { past = refl; job_left = omega arith }
less_of w l (entries.Reply number state os) id t c h goes = reply_less w l state os id t (flight_of l number)
less_of w l (entries.Skip i site ps) id t c h goes =
    outcomes_less w l (unqueued l i site ps) id t 0 ps (replicate (length ps) (outcomes.Later 0)) (message_of l.book i)
    (skip_less w l i site ps id t (and_parts (list_any (is_row i site ps) l.waiting) (is_dead_site l site) h).0)
less_of w l (entries.Log i failure) id t c h goes = let less = changed_same l i (with_failure failure) id (λ m. refl) (λ m. refl) in record { past = refl; job_left = omega (arith, less) }
less_of w l (entries.Mark i position) id t c h goes = let less = changed_same l i (with_mark position) id (λ m. refl) (λ m. marked_length position 0 m.recipients) in record { past = refl; job_left = omega (arith, less) }
less_of w l (entries.Sync i) id t c h goes = let less = changed_same l i sync_all id (λ m. refl) (λ m. synced_length m) in record { past = refl; job_left = omega (arith, less) }
less_of w l (entries.Defer i due) id t c h goes = leave_less l (move_message l.book i (places.Deferred due)) i id t (λ j other. other_moved l.book i j (move_to (places.Deferred due)) (λ m. refl) other)
less_of w l (entries.Bounce i) id t c h goes = bounce_less w l id t (message_of l.book i) c
less_of w l (entries.Remove i) id t c h goes = leave_less l (remove_message l.book i) i id t (remove_same w l i c)
less_of w l (entries.Corrupt i) id t c h goes = corrupt_less l (if is_next_leftover l i then l else after_pick l) i id t (corrupt_from l (is_next_leftover l i))
less_of w l (entries.Trigger kind) id t c h goes = trigger_less w l kind id t
less_of w l entries.End id t c h goes = same_less l id t

-- what an entry does to the account of a job that lasts
pub record IsFall (w : World) (l : Ledger) (e : Entry) (id : Id) (t : ℕ) : Type 0 where
  pub starts : starts_of (after w l e) id t ≡ cond (is_start_of id t e) 1 0 + starts_of l id t
  pub charged : charged (after w l e) id t ≡ charge_of id t e + charged l id t
  pub job_left : cond (is_start_of id t e) 1 0 + job_left (after w l e) id t ≤ job_left l id t

fall_from : (w : World) (l k : Ledger) (e : Entry) (id : Id) (t n : ℕ) → k.past ≡ e ∷ l.past → n + job_left k id t ≤ job_left l id t → is_admit_of id e ≡ false →
    (starts_of k id t ≡ cond (is_start_of id t e) 1 0 + starts_of l id t) × (charged k id t ≡ charge_of id t e + charged l id t)
fall_from w l k e id t n past less goes = (
  ap (λ (es : List Entry). count_by (is_start_of id t) (take_while (λ x. not (is_admit_of id x)) es)) past ∙ starts_more l e id t goes,
  ap (λ (es : List Entry). sum_by (charge_of id t) (take_while (λ x. not (is_admit_of id x)) es)) past ∙ charged_more l e id t goes,
)

pub falls : (w : World) (l : Ledger) (e : Entry) (id : Id) (t : ℕ) → IsConsistent w l → may w l e ≡ true → ends_job id e ≡ false → IsFall w l e id t
falls w l e id t c h goes =
    let n = cond (is_start_of id t e) 1 0 in
    let less = less_of w l e id t c h goes in
    let same = after_same w l e id t in
    let k = after w l e in
    let past : k.past ≡ e ∷ l.past = same.past ∙ ap (λ (es : List Entry). e ∷ es) less.past in
    let was : job_left k id t ≡ job_left (change w l e) id t = same.job_left in
    let fall : n + job_left (change w l e) id t ≤ job_left l id t = less.job_left in
    let left : n + job_left k id t ≤ job_left l id t = omega (arith, was, fall) in
    let two = fall_from w l k e id t n past left (or_parts (is_admit_of id e) (is_life e) goes).0 in
    record { starts = two.0; charged = two.1; job_left = left }

-- an entry of a trace is allowed
pub entry_may : (w : World) (l : Ledger) (e : Entry) → IsConsistent w l → IsEntryOf w l e → may w l e ≡ true
unfolding allowed
entry_may w l e c (inl h) = (and_parts (is_living l || (is_life e && not (has_entries l))) (may w l e) (and_parts (is_outside e) (allowed w l e) h).1).1
entry_may w l e c (inr h) = (next_decided w l e c h).0
