-- An intake life has nothing in memory, so what is done next, and what an entry makes of its ledger, are the
-- same with room for nothing more than one message.
use Rattle.std.proofs.Common.{◌≡◌, ℕ, ◌++◌, ◌^◌, Bool, true, false, List, [], ◌∷◌, Option, Some, None, refl, sym, ap, subst, ◌∙◌, if◌then◌else◌}
use Rattle.std.specs.List.{cons_option, enumerate_from, filter_map, list_any}
use Rattle.std.specs.Option.{option_map_or, option_or}
use Rattle.std.specs.Prelude.{◌&&◌, ◌||◌, ◌==◌, drop, filter, find, is_some, length, map, nat_le, nat_lt, not, option_and_then, option_map, slice_get}
use Rattle.q_laws.proofs.Members.{find_none_from}
use Rattle.q_laws.proofs.Tidied.{tidy_scan_is}
use Rattle.q_model.specs.Admissions.{cause_gone, delivers, has_room}
use Rattle.q_model.specs.Alternation.{after_pick, is_pick, passed, pick, Pick}
use Rattle.q_model.specs.Alternation.Pick.{from_deferred, from_incoming}
use Rattle.q_model.specs.Book.{Book, damaged_of, message_of}
use Rattle.q_model.specs.BookChanges.{add_message}
use Rattle.q_model.specs.Bounces.{may_bounce}
use Rattle.q_model.specs.Choice.{choice_by}
use Rattle.q_model.specs.Clock.{scheduled, woken}
use Rattle.q_model.specs.Deliveries.{busy, flight_of}
use Rattle.q_model.specs.Finishing.{without}
use Rattle.q_model.specs.Ids.{id_eq}
use Rattle.q_model.specs.Leaving.{may_back, may_corrupt, may_remove}
use Rattle.q_model.specs.Ledger.{Ledger, opening}
use Rattle.q_model.specs.Leftovers.{is_next_leftover, next_leftover, was_synced}
use Rattle.q_model.specs.Lists.{drop_first, first_of, first_some}
use Rattle.q_model.specs.Loads.{may_read}
use Rattle.q_model.specs.Marking.{marks_first}
use Rattle.q_model.specs.Memory.{free, is_idle}
use Rattle.q_model.specs.Message.{Message, unmarked_logged}
use Rattle.q_model.specs.Next.{admission_rule, admit_or_corrupt, choice_of, clear_damaged, clear_leftover, clear_marked, finish, finishing_rule, first_rule, leftover_decision, leftover_rule, load_of, load_rule, mark_logged, needed, next, settling_rule, skip_of, skip_rule, start_rule, sync_rule, wants_sync}
use Rattle.q_model.specs.Notices.{bounce_message}
use Rattle.q_model.specs.Past.{starts}
use Rattle.q_model.specs.Replies.{replied}
use Rattle.q_model.specs.Revival.{rest_ended, revived_if_due}
use Rattle.q_model.specs.Scans.{ask_scan, joined_request, new_scan, tidy_scan}
use Rattle.q_model.specs.Settings.{World}
use Rattle.q_model.specs.SiteRecords.{is_alive, is_awake, is_dead_site}
use Rattle.q_model.specs.Sites.{site_eq}
use Rattle.q_model.specs.Startable.{can_start, is_startable, line_of}
use Rattle.q_model.specs.Step.{after, change, noted, tidied, tidy_line}
use Rattle.q_model.specs.UnusedSites.{forget_oldest, is_remembered, is_unused, tidied_sites}
use Rattle.q_model.specs.Values.{SiteRecord}
use Rattle.q_model.specs.Windows.{revived}
use Rattle.q_model.specs.declared.entry.Entry.{Entry}
use Rattle.q_model.specs.declared.entry.Entry.TheVariants as entries
use Rattle.q_model.specs.declared.event.Mode.{Mode}
use Rattle.q_model.specs.declared.event.Mode.TheVariants.{Deliver, Intake}
use Rattle.q_model.specs.declared.event.Trigger.{Trigger}
use Rattle.q_model.specs.declared.event.Trigger.TheVariants as triggers
use Rattle.q_model.specs.declared.id.Id.{Id}
use Rattle.q_model.specs.declared.outcome.Outcome.{Outcome}
use Rattle.q_model.specs.declared.outcome.SiteState.{SiteState}
use Rattle.q_model.specs.declared.rows.Admitted.{Admitted}
use Rattle.q_model.specs.declared.rows.Delivery.{Delivery}
use Rattle.q_model.specs.declared.rows.Request.{Request}
use Rattle.q_model.specs.declared.rows.Request.TheVariants as requests
use Rattle.q_model.specs.declared.rows.Row.{Row}
use Rattle.q_model.specs.declared.rows.Scan.{Scan}
use Rattle.q_model.specs.declared.rows.Served.{Served}
use Rattle.q_model.specs.declared.rows.Unsettled.{Unsettled}
use Rattle.q_replay.proofs.NextEntries.{and_then, choose, Has, if_so, map_or, mapped, or_else}
use Rattle.q_replay.specs.IntakeSettings.{intake_settings}

-- this world, with the settings of an intake life
abbrev pub intake_world : World → World
intake_world w = record w { settings = intake_settings w.settings }

-- an intake life with these in memory: nothing
pub record AreNone
    (mode : Mode) (admitted : List Admitted) (waiting : List Row) (flights : List Delivery) (unsettled : List Unsettled)
    (sites : List SiteRecord) : Type 0 where
  pub intake : mode ≡ Intake
  pub none_admitted : admitted ≡ []
  pub none_waits : waiting ≡ []
  pub none_flies : flights ≡ []
  pub none_unsettled : unsettled ≡ []
  pub no_site : sites ≡ []

-- the same of a ledger
abbrev pub HoldsNothing : Ledger → Type 0
HoldsNothing l = AreNone l.mode l.admitted l.waiting l.flights l.unsettled l.sites

-- the entry brings nothing into memory, and begins no life that could
abbrev pub brings_nothing : Entry → Bool
brings_nothing (entries.Life generation Intake) = true
brings_nothing (entries.Life generation Deliver) = false
brings_nothing (entries.Admit id) = false
brings_nothing (entries.Load id from to) = false
brings_nothing (entries.Start number id site positions) = false
brings_nothing (entries.Skip id site positions) = false
brings_nothing (entries.Log id failure) = false
brings_nothing _ = true

pub opening_holds : (b : Book) → HoldsNothing (opening Intake b)
opening_holds b = record { intake = refl; none_admitted = refl; none_waits = refl; none_flies = refl; none_unsettled = refl; no_site = refl }

-- ---- what is done next

some_none : {A B : Type 0} (f : A → Option B) → ((x : A) → f x ≡ None) → (xs : List A) → filter_map f xs ≡ []
some_none f h [] = refl
some_none f h (x ∷ xs) = ap (λ o. cons_option o (filter_map f xs)) (h x) ∙ some_none f h xs

if_none : {A : Type 0} (b : Bool) (o : Option A) → o ≡ None → (if b then o else None) ≡ None
if_none true o h = h
if_none false o h = refl

or_none : (o : Option Entry) → option_or o None ≡ o
or_none None = refl
or_none (Some e) = refl

module _ (l : Ledger) (h : HoldsNothing l) where
  pub no_room : (w : World) → has_room w l ≡ false
  no_room w = ap (λ m. delivers m && nat_lt (length l.admitted) w.settings.active_limit && nat_le w.settings.recipient_minimum (free w l)) h.intake

  module _ (w : World) where
    none_settles : settling_rule l ≡ None
    none_settles = ap (λ us. option_map (λ (u : Unsettled). needed u.id u.position u.need) (slice_get us 0)) h.none_unsettled

    none_syncs : sync_rule w l ≡ None
    none_syncs = ap (λ xs. option_map (λ (a : Admitted). entries.Sync a.id) (find (wants_sync w l) xs)) h.none_admitted

    none_skips : skip_rule l ≡ None
    none_skips = ap (λ rs. option_map skip_of (find (λ (r : Row). is_dead_site l r.site) rs)) h.none_waits

    none_finishes : finishing_rule w l ≡ None
    none_finishes = ap (λ xs. option_and_then (λ (a : Admitted). finish w l a.id) (find (λ (a : Admitted). is_idle l a.id) xs)) h.none_admitted

    none_comes : admission_rule w l ≡ None
    none_comes = ap (λ b. if b then option_and_then (admit_or_corrupt w l) (pick l) else None) (no_room w)

    none_loads : load_rule w l ≡ None
    none_loads = ap (λ xs. option_and_then (load_of w l) (find (may_read w l) xs)) h.none_admitted

    none_can : (transport : ℕ) (id : Id) → can_start w l transport id ≡ false
    none_can transport id = ap (λ rs. list_any (λ (r : Row). id_eq r.id id && (r.site.transport == transport) && is_startable w l r) rs) h.none_waits

    none_chosen : (line : ℕ × List Id) → choice_of w l line ≡ None
    none_chosen line = ap (λ o. option_and_then (choice_by w l line.0) o) (find_none_from (can_start w l line.0) (line_of l line.0) (λ id there. none_can line.0 id))

    none_starts : start_rule w l ≡ None
    none_starts = if_none (nat_lt (starts l) (2 ^ 48)) (first_some (choice_of w l) (enumerate_from 0 l.lines)) (ap (λ es. slice_get es 0) (some_none (choice_of w l) none_chosen (enumerate_from 0 l.lines)))

    -- a message that an earlier life left is all that a decision can be about
    only_leftovers : first_rule w l ≡ leftover_rule w l
    only_leftovers =
        rw (none_settles, none_syncs, none_skips, none_finishes, none_comes, none_loads, none_starts) (or_none (leftover_rule w l))

    pub next_leftovers : next w l ≡ (if l.timed then leftover_rule w l else None)
    unfolding next
    next_leftovers = ap (λ o. if l.timed then o else None) only_leftovers

  -- the same, where it is known whether there is room
  leftover_by : World → Bool → Option Entry
  leftover_by w room = option_and_then
      (λ id. option_map_or (clear_leftover w l) (message_of l.book id) (first_of ((is_some (damaged_of l.book id) && (is_next_leftover l id || (room && is_pick l id)) && cause_gone l.book id, entries.Corrupt id) ∷ [])))
      (next_leftover l)

  leftover_same : (w : World) → leftover_rule (intake_world w) l ≡ leftover_rule w l
  unfolding leftover_by
  leftover_same w = ap (leftover_by w) (no_room (intake_world w)) ∙ sym (ap (leftover_by w) (no_room w))

  -- the next decision is the same in both worlds
  pub next_same : (w : World) → next (intake_world w) l ≡ next w l
  next_same w = next_leftovers (intake_world w) ∙ ap (λ o. if l.timed then o else None) (leftover_same w) ∙ sym (next_leftovers w)

-- ---- no decision brings anything into memory

abbrev BringsNothing : Entry → Type 0
BringsNothing e = brings_nothing e ≡ true

module _ (w : World) (l : Ledger) where
  cleared : (m : Message) → Has BringsNothing (clear_leftover w l m)
  cleared m = or_else BringsNothing (mark_logged m) (clear_marked l m) (mapped BringsNothing (λ p. entries.Mark m.id p) (λ p. refl) (slice_get (unmarked_logged m) 0))
      (choose BringsNothing ((not (was_synced l m.id), entries.Sync m.id) ∷ (may_bounce l m.id, entries.Bounce m.id) ∷ (may_remove l m.id, entries.Remove m.id) ∷ (may_back l m.id, entries.Back m.id) ∷ []) (refl, (refl, (refl, (refl, tt)))))

  leftover_brings : (id : Id) → Has BringsNothing (leftover_decision w l id)
  leftover_brings id = map_or BringsNothing (clear_leftover w l) (clear_damaged w l id) cleared (choose BringsNothing ((may_corrupt w l id, entries.Corrupt id) ∷ []) (refl, tt)) (message_of l.book id)

  pub next_brings : HoldsNothing l → Has BringsNothing (next w l)
  next_brings h = subst (Has BringsNothing) (sym (next_leftovers l h w)) (if_so BringsNothing l.timed (leftover_rule w l) (and_then BringsNothing (leftover_decision w l) leftover_brings (next_leftover l)))

-- ---- what an entry makes of such a ledger

module _ (l : Ledger) (h : HoldsNothing l) where
  no_flight : (number : ℕ) → flight_of l number ≡ None
  no_flight number = ap (λ fs. find (λ (f : Delivery). f.number == number) fs) h.none_flies

  no_reply : (w : World) (number : ℕ) (state : SiteState) (os : List Outcome) → change w l (entries.Reply number state os) ≡ l
  no_reply w number state os = ap (λ o. option_map_or (λ f. replied w l state os f) o l) (no_flight number)

  trigger_same : (w : World) (kind : Trigger) → change (intake_world w) l (entries.Trigger kind) ≡ change w l (entries.Trigger kind)
  trigger_same w triggers.D = refl
  trigger_same w triggers.A = refl
  trigger_same w triggers.F = refl

  change_same : (w : World) (e : Entry) → brings_nothing e ≡ true → change (intake_world w) l e ≡ change w l e
  change_same w (entries.Load id from to) k = absurd cc
  change_same w (entries.Skip id site positions) k = absurd cc
  change_same w (entries.Reply number state os) k = no_reply (intake_world w) number state os ∙ sym (no_reply w number state os)
  change_same w (entries.Trigger kind) k = trigger_same w kind
  change_same w _ k = refl

  option_holds : {A : Type 0} (f : A → Ledger) → ((x : A) → HoldsNothing (f x)) → (o : Option A) → HoldsNothing (option_map_or f o l)
  option_holds f k None = h
  option_holds f k (Some x) = k x

  passed_holds : (p : Pick) → HoldsNothing (passed p l)
  passed_holds (from_incoming id) = h
  passed_holds (from_deferred name) = h

  pick_holds : HoldsNothing (after_pick l)
  pick_holds = option_holds (λ p. passed p l) passed_holds (pick l)

  asked_holds : (request : Request) (o : Option Scan) → HoldsNothing (option_map_or (λ s. record l { asked = Some (joined_request l.asked request); ignores = false }) o (record l { scan = Some (new_scan l.now request); ignores = false }))
  asked_holds request None = h
  asked_holds request (Some s) = h

  ask_holds : HoldsNothing (ask_scan l)
  ask_holds = asked_holds (if l.ignores then requests.All else requests.Due) l.scan

  -- a message that leaves wasn't in memory
  without_holds : (b : Book) (id : Id) → HoldsNothing (record l { book = b; admitted = without id l.admitted })
  without_holds b id = record { intake = h.intake; none_admitted = ap (without id) h.none_admitted; none_waits = h.none_waits; none_flies = h.none_flies; none_unsettled = h.none_unsettled; no_site = h.no_site }

  -- nor an outcome that is settled
  dropped : (b : Bool) → (if b then drop 1 l.unsettled else l.unsettled) ≡ []
  dropped true = ap (λ (us : List Unsettled). drop 1 us) h.none_unsettled
  dropped false = h.none_unsettled

if_holds : (b : Bool) (x y : Ledger) → HoldsNothing x → HoldsNothing y → HoldsNothing (if b then x else y)
if_holds true x y h k = h
if_holds false x y h k = k

module _ (w : World) (l : Ledger) (h : HoldsNothing l) where
  woken_holds : (t : ℕ) → HoldsNothing (woken w l t)
  woken_holds t = record {
    intake = h.intake;
    none_admitted = h.none_admitted;
    none_waits = h.none_waits;
    none_flies = h.none_flies;
    none_unsettled = h.none_unsettled;
    no_site = ap (λ (rs : List SiteRecord). map (λ (r : SiteRecord). rest_ended t (revived_if_due w (record l { now = t }) r)) rs) h.no_site;
  }

  trigger_holds : (kind : Trigger) → HoldsNothing (change w l (entries.Trigger kind))
  trigger_holds triggers.D = ask_holds l h
  trigger_holds triggers.A = h
  trigger_holds triggers.F = record {
    intake = h.intake;
    none_admitted = h.none_admitted;
    none_waits = h.none_waits;
    none_flies = h.none_flies;
    none_unsettled = h.none_unsettled;
    no_site = ap (λ (rs : List SiteRecord). map (λ (r : SiteRecord). if is_alive r.health then r else revived w (busy l r.site) r) rs) h.no_site;
  }

  life_holds : (generation : ℕ) (mode : Mode) → brings_nothing (entries.Life generation mode) ≡ true → HoldsNothing (change w l (entries.Life generation mode))
  life_holds generation Intake k = record { intake = refl; none_admitted = refl; none_waits = refl; none_flies = refl; none_unsettled = refl; no_site = refl }
  life_holds generation Deliver k = absurd cc

  change_holds : (e : Entry) → brings_nothing e ≡ true → HoldsNothing (change w l e)
  change_holds (entries.Life generation mode) k = life_holds generation mode k
  change_holds (entries.At t) k = if_holds (nat_le l.next_run t) (ask_scan (scheduled w l t)) (woken w l t) (ask_holds (scheduled w l t) (woken_holds t)) (woken_holds t)
  change_holds (entries.Admit id) k = absurd cc
  change_holds (entries.Load id from to) k = absurd cc
  change_holds (entries.Start number id site positions) k = absurd cc
  change_holds (entries.Skip id site positions) k = absurd cc
  change_holds (entries.Log id failure) k = absurd cc
  change_holds (entries.Reply number state os) k = subst HoldsNothing (sym (no_reply l h w number state os)) h
  change_holds (entries.Mark id position) k = record { intake = h.intake; none_admitted = h.none_admitted; none_waits = h.none_waits; none_flies = h.none_flies; none_unsettled = dropped l h (marks_first l id position); no_site = h.no_site }
  change_holds (entries.Defer id due) k = without_holds l h (change w l (entries.Defer id due)).book id
  change_holds (entries.Bounce id) k = option_holds l h (λ m. record l { book = add_message l.book (bounce_message l.now m) }) (λ m. h) (message_of l.book id)
  change_holds (entries.Remove id) k = without_holds l h (change w l (entries.Remove id)).book id
  change_holds (entries.Corrupt id) k = if_holds (is_next_leftover l id) l (after_pick l) h (pick_holds l h)
  change_holds (entries.Trigger kind) k = trigger_holds kind
  change_holds _ k = h

-- ---- tidied

forgotten : (b : Bool) (test : SiteRecord → Bool) → (if b then drop_first test [] else []) ≡ []
forgotten true test = refl
forgotten false test = refl

-- no site is remembered, so none is forgotten
no_sites : (w : World) (before l : Ledger) → l.sites ≡ [] → tidied_sites w before l ≡ []
no_sites w before l k =
    let newly : SiteRecord → Bool = λ r. is_unused l r && not (is_unused before r) in
    ap (λ (rs : List SiteRecord). forget_oldest w l (filter (λ r. not (is_unused l r && is_awake r)) (filter (λ r. not (newly r)) rs ++ filter newly rs))) k
    ∙ forgotten (nat_lt w.settings.recipient_limit 0) (is_remembered l)

tidied_same : (w : World) (before l : Ledger) → l.sites ≡ [] → tidied (intake_world w) before l ≡ tidied w before l
tidied_same w before l k =
    ap (λ (rs : List SiteRecord). record (tidy_scan l) {
      lines = map (tidy_line l) (enumerate_from 0 l.lines);
      served = filter (λ (s : Served). list_any (λ (r : Row). id_eq r.id s.id && site_eq r.site s.site) l.waiting) l.served;
      sites = rs;
    }) (no_sites (intake_world w) before l k ∙ sym (no_sites w before l k))

tidied_holds : (w : World) (before l : Ledger) → HoldsNothing l → HoldsNothing (tidied w before l)
tidied_holds w before l h =
    let s = tidy_scan_is l in
    let is = s.2 in
    record {
      intake = ap (λ (x : Ledger). x.mode) is ∙ h.intake;
      none_admitted = ap (λ (x : Ledger). x.admitted) is ∙ h.none_admitted;
      none_waits = ap (λ (x : Ledger). x.waiting) is ∙ h.none_waits;
      none_flies = ap (λ (x : Ledger). x.flights) is ∙ h.none_flies;
      none_unsettled = ap (λ (x : Ledger). x.unsettled) is ∙ h.none_unsettled;
      no_site = no_sites w before l h.no_site;
    }

module _ (w : World) (l : Ledger) (h : HoldsNothing l) (e : Entry) (k : brings_nothing e ≡ true) where
  -- the ledger after such an entry is the same in both worlds
  pub after_same : after (intake_world w) l e ≡ after w l e
  unfolding after
  after_same =
      let changed = change_holds w l h e k in
      ap (λ (x : Ledger). tidied (intake_world w) l (noted e x)) (change_same l h w e k)
      ∙ tidied_same w l (noted e (change w l e)) changed.no_site

  -- and it has nothing in memory
  pub after_holds : HoldsNothing (after w l e)
  unfolding after
  after_holds = tidied_holds w l (noted e (change w l e)) (change_holds w l h e k)
