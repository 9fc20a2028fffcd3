-- What an entry changes of a bare ledger is what it changes of the ledger.
use Rattle.std.proofs.Common.{◌≡◌, ℕ, Bool, true, false, List, [], ◌∷◌, length, map, replicate, ◌++◌, Option, Some, None, option_map, refl, ap, ◌∙◌, if◌then◌else◌}
use Rattle.std.specs.List.{cons_option}
use Rattle.std.specs.Option.{option_map_or}
use Rattle.std.specs.Prelude.{filter, nat_le, nat_lt}
use Rattle.q_bare.proofs.BookLaws.{message_bare}
use Rattle.q_bare.proofs.ChangedBooks.{add_bare, change_bare, firm_bare, move_bare, remove_bare, twice}
use Rattle.q_bare.proofs.MemoryLaws.{is_next_leftover_bare, leftover_bare, pick_bare}
use Rattle.q_bare.proofs.RecipientLaws.{address_bare, mark_bare, pending_bare, synced_bare}
use Rattle.q_bare.specs.Bare.{bare, bare_book, bare_message}
use Rattle.q_model.specs.declared.event.Mode.{Mode}
use Rattle.q_model.specs.declared.id.Id.{Id}
use Rattle.q_model.specs.declared.outcome.Failure.{Failure}
use Rattle.q_model.specs.declared.outcome.Outcome.{Outcome}
use Rattle.q_model.specs.declared.outcome.SiteState.{SiteState}
use Rattle.q_model.specs.declared.outcome.SiteState.TheVariants.{Down, Up}
use Rattle.q_model.specs.declared.rows.Delivery.{Delivery}
use Rattle.q_model.specs.declared.rows.Request.{Request}
use Rattle.q_model.specs.declared.rows.Row.{Row}
use Rattle.q_model.specs.declared.rows.Scan.{Scan}
use Rattle.q_model.specs.Admissions.{after_admit}
use Rattle.q_model.specs.Alternation.{after_pick, passed, pick, Pick}
use Rattle.q_model.specs.Alternation.Pick.{from_deferred, from_incoming}
use Rattle.q_model.specs.Arrivals.{after_arrive, arrived}
use Rattle.q_model.specs.Batches.{join_rows, load_positions, load_rows, rows_from}
use Rattle.q_model.specs.Book.{Book, message_of}
use Rattle.q_model.specs.BookChanges.{add_message, change_message, move_damaged, move_message}
use Rattle.q_model.specs.Bounces.{after_bounce}
use Rattle.q_model.specs.Clock.{after_at, scheduled, woken}
use Rattle.q_model.specs.Deliveries.{flight_of}
use Rattle.q_model.specs.Finishing.{without}
use Rattle.q_model.specs.Leaving.{after_back, after_corrupt, after_defer, after_remove}
use Rattle.q_model.specs.Leftovers.{is_leftover, is_next_leftover}
use Rattle.q_model.specs.Ledger.{Ledger, opening}
use Rattle.q_model.specs.Lives.{after_life}
use Rattle.q_model.specs.Loads.{after_load, join_lines, loaded, read_up_to, with_records}
use Rattle.q_model.specs.Logs.{after_log, first_logged, with_failure}
use Rattle.q_model.specs.Marking.{after_mark, drop_unsettled, with_mark}
use Rattle.q_model.specs.Message.{address_at, Message}
use Rattle.q_model.specs.Notices.{bounce_message}
use Rattle.q_model.specs.Replies.{after_reply, landed, replied}
use Rattle.q_model.specs.Scans.{ask_scan, open_scan, remember_scan}
use Rattle.q_model.specs.Settings.{World}
use Rattle.q_model.specs.Settling.{need_of, needs_of, unsettled_row, with_outcomes}
use Rattle.q_model.specs.SiteRecords.{with_record}
use Rattle.q_model.specs.Skips.{after_skip, unqueued}
use Rattle.q_model.specs.Syncs.{after_sync, sync_all}
use Rattle.q_model.specs.Triggers.{after_trigger}
use Rattle.q_model.specs.Values.{Receiver, Site}
use Rattle.q_model.specs.declared.event.Trigger.{Trigger}
use Rattle.q_model.specs.declared.event.Trigger.TheVariants as triggers
use Rattle.q_model.specs.declared.outcome.Outcome.TheVariants as outcomes
use Rattle.q_model.specs.declared.rows.Place.TheVariants as places
use Rattle.q_model.specs.declared.rows.Request.TheVariants as requests

-- the ledger with this book, and no past entries
abbrev on_book : Ledger → Book → Ledger
on_book l b = record l { book = b; past = [] }

-- ---- lives and the clock

pub life_bare : (w : World) (l : Ledger) (generation : ℕ) (mode : Mode) → after_life w (bare l) generation mode ≡ bare (after_life w l generation mode)
life_bare w l generation mode =
    ap (λ (b : Book). record (opening mode (record b { generation = generation })) { lines = replicate (length w.table.transports) [] }) (firm_bare l.book)

ask_at : (l : Ledger) (r : Request) (o : Option Scan) → option_map_or (λ s. remember_scan (bare l) r) o (open_scan (bare l) r) ≡ bare (option_map_or (λ s. remember_scan l r) o (open_scan l r))
ask_at l r None = refl
ask_at l r (Some s) = refl

ask_bare : (l : Ledger) → ask_scan (bare l) ≡ bare (ask_scan l)
ask_bare l = ask_at l (if l.ignores then requests.All else requests.Due) l.scan

pub at_bare : (w : World) (l : Ledger) (t : ℕ) → after_at w (bare l) t ≡ bare (after_at w l t)
at_bare w l t = which (nat_le l.next_run t)
  where
    which : (b : Bool) → (if b then ask_scan (scheduled w (bare l) t) else woken w (bare l) t) ≡ bare (if b then ask_scan (scheduled w l t) else woken w l t)
    which true = ask_bare (scheduled w l t)
    which false = refl

pub trigger_bare : (w : World) (l : Ledger) (kind : Trigger) → after_trigger w (bare l) kind ≡ bare (after_trigger w l kind)
trigger_bare w l triggers.D = ask_bare l
trigger_bare w l triggers.A = refl
trigger_bare w l triggers.F = refl

-- ---- messages that come and go

pub arrive_bare : (l : Ledger) (id : Id) (sender : Option (List ℕ)) (to : List Receiver) (content : List ℕ) → bare (after_arrive (bare l) id sender to content) ≡ bare (after_arrive l id sender to content)
arrive_bare l id sender to content = ap (on_book l) (add_bare l.book (arrived l id sender to content) (arrived l id sender to content) refl)

pub back_change : (l : Ledger) (id : Id) → after_back (bare l) id ≡ bare (after_back l id)
back_change l id = ap (on_book l) (move_bare l.book id places.Incoming)

pub defer_change : (l : Ledger) (id : Id) (t : ℕ) → after_defer (bare l) id t ≡ bare (after_defer l id t)
defer_change l id t = ap (on_book (record l { admitted = without id l.admitted })) (move_bare l.book id (places.Deferred t))

pub remove_change : (l : Ledger) (id : Id) → after_remove (bare l) id ≡ bare (after_remove l id)
remove_change l id = ap (on_book (record l { admitted = without id l.admitted })) (remove_bare l.book id)

passed_bare : (l : Ledger) (o : Option Pick) → option_map_or (λ p. passed p (bare l)) o (bare l) ≡ bare (option_map_or (λ p. passed p l) o l)
passed_bare l None = refl
passed_bare l (Some (from_incoming id)) = refl
passed_bare l (Some (from_deferred name)) = refl

after_pick_bare : (l : Ledger) → after_pick (bare l) ≡ bare (after_pick l)
after_pick_bare l = ap (λ o. option_map_or (λ p. passed p (bare l)) o (bare l)) (pick_bare l) ∙ passed_bare l (pick l)

pub admit_change : (l : Ledger) (id : Id) → after_admit (bare l) id ≡ bare (after_admit l id)
admit_change l id =
    let more = l.admitted ++ record { id = id; unread = 0 } ∷ [] in
    ap (λ (t : Ledger). record t { book = move_message (bare_book l.book) id places.Active; admitted = more }) (after_pick_bare l)
    ∙ ap (on_book (record (after_pick l) { admitted = more })) (move_bare l.book id places.Active)

pub corrupt_change : (l : Ledger) (id : Id) → after_corrupt (bare l) id ≡ bare (after_corrupt l id)
corrupt_change l id =
    let moved : Ledger → Ledger = λ t. record t { book = move_damaged (bare_book l.book) id places.Corrupt } in
    ap (λ (b : Bool). moved (if b then bare l else after_pick (bare l))) (is_next_leftover_bare l id)
    ∙ ap (λ (t : Ledger). moved (if is_next_leftover l id then bare l else t)) (after_pick_bare l)
    ∙ which (is_next_leftover l id)
  where
    which : (b : Bool) → record (if b then bare l else bare (after_pick l)) { book = move_damaged (bare_book l.book) id places.Corrupt }
        ≡ bare (record (if b then l else after_pick l) { book = move_damaged l.book id places.Corrupt })
    which true = refl
    which false = refl

bounce_at : (l : Ledger) (o : Option Message) →
    bare (option_map_or (λ m. record (bare l) { book = add_message (bare_book l.book) (bounce_message l.now m) }) (option_map bare_message o) (bare l))
    ≡ bare (option_map_or (λ m. record l { book = add_message l.book (bounce_message l.now m) }) o l)
bounce_at l None = twice l
bounce_at l (Some m) = ap (on_book l) (add_bare l.book (bounce_message l.now (bare_message m)) (bounce_message l.now m) refl)

pub bounce_change : (l : Ledger) (id : Id) → bare (after_bounce (bare l) id) ≡ bare (after_bounce l id)
bounce_change l id =
    ap (λ o. bare (option_map_or (λ m. record (bare l) { book = add_message (bare_book l.book) (bounce_message l.now m) }) o (bare l))) (message_bare l.book id)
    ∙ bounce_at l (message_of l.book id)

-- ---- failures and marks

pub log_change : (l : Ledger) (id : Id) (f : Failure) → after_log (bare l) id f ≡ bare (after_log l id f)
log_change l id f = ap (on_book (record l { unsettled = first_logged l.unsettled })) (change_bare l.book id (with_failure f) (λ m. refl))

pub mark_change : (l : Ledger) (id : Id) (position : ℕ) → after_mark (bare l) id position ≡ bare (after_mark l id position)
mark_change l id position =
    ap (on_book (record l { unsettled = drop_unsettled l id position })) (change_bare l.book id (with_mark position) (mark_bare position))

pub sync_change : (l : Ledger) (id : Id) → after_sync (bare l) id ≡ bare (after_sync l id)
sync_change l id =
    ap (λ (left : Bool). record (bare l) { book = change_message (bare_book l.book) id sync_all; synced = if left then id ∷ l.synced else l.synced }) (leftover_bare l id)
    ∙ ap (on_book (record l { synced = if is_leftover l id then id ∷ l.synced else l.synced })) (change_bare l.book id sync_all synced_bare)

-- ---- loads

rows_there : (w : World) (m : Message) (rows : List Row) (ps : List ℕ) → rows_from w (bare_message m) rows ps ≡ rows_from w m rows ps
rows_there w m rows [] = refl
rows_there w m rows (p ∷ ps) =
    ap (λ (address : List ℕ). rows_from w (bare_message m) (join_rows w.settings.entry_limit m.id (w.table.route address) p rows) ps) (address_bare m p)
    ∙ rows_there w m (join_rows w.settings.entry_limit m.id (w.table.route (address_at m p)) p rows) ps

records_there : (w : World) (rows : List Row) (l : Ledger) → with_records w rows (bare l) ≡ bare (with_records w rows l)
records_there w [] l = refl
records_there w (r ∷ rs) l = records_there w rs (record l { sites = with_record w l.sites r.site })

loaded_bare : (w : World) (l : Ledger) (id : Id) (to : ℕ) (rows : List Row) → loaded w (bare l) id to rows ≡ bare (loaded w l id to rows)
loaded_bare w l id to rows =
    ap (λ (k : Ledger). record k { admitted = map (read_up_to id to) l.admitted; waiting = l.waiting ++ rows; lines = join_lines id rows l.lines }) (records_there w rows l)

load_change_at : (w : World) (l : Ledger) (id : Id) (from to : ℕ) (o : Option Message) →
    option_map_or (λ m. loaded w (bare l) id to (load_rows w m from to)) (option_map bare_message o) (bare l) ≡ bare (option_map_or (λ m. loaded w l id to (load_rows w m from to)) o l)
load_change_at w l id from to None = refl
load_change_at w l id from to (Some m) =
    ap (λ (ps : List ℕ). loaded w (bare l) id to (rows_from w (bare_message m) [] (filter (λ p. nat_lt p to) (filter (λ p. nat_le from p) ps)))) (pending_bare m)
    ∙ ap (loaded w (bare l) id to) (rows_there w m [] (load_positions m from to)) ∙ loaded_bare w l id to (load_rows w m from to)

pub load_change : (w : World) (l : Ledger) (id : Id) (from to : ℕ) → after_load w (bare l) id from to ≡ bare (after_load w l id from to)
load_change w l id from to =
    ap (λ o. option_map_or (λ m. loaded w (bare l) id to (load_rows w m from to)) o (bare l)) (message_bare l.book id)
    ∙ load_change_at w l id from to (message_of l.book id)

-- ---- outcomes

need_there : (w : World) (now : ℕ) (m : Message) (o : Outcome) → need_of w now (bare_message m) o ≡ need_of w now m o
need_there w now m outcomes.Ok = refl
need_there w now m (outcomes.Later code) = refl
need_there w now m (outcomes.Never code) = refl

needs_there : (w : World) (now : ℕ) (m : Message) (ps : List ℕ) (os : List Outcome) → needs_of w now (bare_message m) ps os ≡ needs_of w now m ps os
needs_there w now m [] os = refl
needs_there w now m (p ∷ ps) [] = refl
needs_there w now m (p ∷ ps) (o ∷ os) =
    ap (λ n. cons_option (option_map (unsettled_row m.id p) n) (needs_of w now (bare_message m) ps os)) (need_there w now m o)
    ∙ ap (cons_option (option_map (unsettled_row m.id p) (need_of w now m o))) (needs_there w now m ps os)

outcomes_at : (w : World) (l : Ledger) (ps : List ℕ) (os : List Outcome) (o : Option Message) →
    option_map_or (λ m. record (bare l) { unsettled = l.unsettled ++ needs_of w l.now m ps os }) (option_map bare_message o) (bare l)
    ≡ bare (option_map_or (λ m. record l { unsettled = l.unsettled ++ needs_of w l.now m ps os }) o l)
outcomes_at w l ps os None = refl
outcomes_at w l ps os (Some m) = ap (λ us. record (bare l) { unsettled = l.unsettled ++ us }) (needs_there w l.now m ps os)

outcomes_bare : (w : World) (id : Id) (ps : List ℕ) (os : List Outcome) (l : Ledger) → with_outcomes w id ps os (bare l) ≡ bare (with_outcomes w id ps os l)
outcomes_bare w id ps os l =
    ap (λ o. option_map_or (λ m. record (bare l) { unsettled = l.unsettled ++ needs_of w l.now m ps os }) o (bare l)) (message_bare l.book id)
    ∙ outcomes_at w l ps os (message_of l.book id)

pub skip_change : (w : World) (l : Ledger) (id : Id) (site : Site) (ps : List ℕ) → after_skip w (bare l) id site ps ≡ bare (after_skip w l id site ps)
skip_change w l id site ps = outcomes_bare w id ps (replicate (length ps) (outcomes.Later 0)) (unqueued l id site ps)

landed_bare : (w : World) (l : Ledger) (state : SiteState) (f : Delivery) → landed w (bare l) state f ≡ bare (landed w l state f)
landed_bare w l Up f = refl
landed_bare w l Down f = refl

reply_at : (w : World) (l : Ledger) (state : SiteState) (os : List Outcome) (o : Option Delivery) →
    option_map_or (λ f. replied w (bare l) state os f) o (bare l) ≡ bare (option_map_or (λ f. replied w l state os f) o l)
reply_at w l state os None = refl
reply_at w l state os (Some f) =
    ap (with_outcomes w f.row.id f.row.positions os) (landed_bare w l state f) ∙ outcomes_bare w f.row.id f.row.positions os (landed w l state f)

pub reply_change : (w : World) (l : Ledger) (number : ℕ) (state : SiteState) (os : List Outcome) → after_reply w (bare l) number state os ≡ bare (after_reply w l number state os)
reply_change w l number state os = reply_at w l state os (flight_of l number)
