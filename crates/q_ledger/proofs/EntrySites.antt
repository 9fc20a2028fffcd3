-- What is left of the records of sites after each entry: only the site that a row has left, and those that woke,
-- need to be looked at.
use Rattle.std.proofs.Common.{◌≡◌, ℕ, Bool, true, false, List, ◌++◌, [], ◌∷◌, map, Option, Some, None, refl, sym, ap, ◌∙◌, if◌then◌else◌}
use Rattle.std.specs.Option.{option_map_or}
use Rattle.std.specs.Prelude.{nat_le, nat_lt}
use Rattle.q_bare.specs.CountedRows.{may_by}
use Rattle.q_bare.specs.Counts.{Counts}
use Rattle.q_laws.specs.SitesConsistency.{IsSitesConsistent}
use Rattle.q_ledger.proofs.LeftSites.{load_sites, reply_sites, skip_sites, start_sites}
use Rattle.q_ledger.proofs.OfLedger.{sites_fit}
use Rattle.q_ledger.proofs.SiteLaws.{sites_same}
use Rattle.q_ledger.proofs.WokenLaws.{IsWaking, all_wake, at_wakes, none_woken, woken_all, woken_at, woken_law}
use Rattle.q_ledger.specs.Beside.{IsOfLedger}
use Rattle.q_ledger.specs.Taking.{site_left}
use Rattle.q_ledger.specs.Tidying.{sites_left, sites_woken, wakes, woken_by}
use Rattle.q_model.specs.Alternation.{Pick, from_deferred, from_incoming, passed, pick}
use Rattle.q_model.specs.Book.{Book, message_of}
use Rattle.q_model.specs.BookChanges.{add_message, move_damaged, move_message}
use Rattle.q_model.specs.Clock.{scheduled, woken}
use Rattle.q_model.specs.Ledger.{Ledger}
use Rattle.q_model.specs.Leftovers.{is_next_leftover}
use Rattle.q_model.specs.Message.{Message}
use Rattle.q_model.specs.Notices.{bounce_message}
use Rattle.q_model.specs.Scans.{ask_scan, open_scan, remember_scan}
use Rattle.q_model.specs.Settings.{World}
use Rattle.q_model.specs.Step.{change}
use Rattle.q_model.specs.Triggers.{after_trigger}
use Rattle.q_model.specs.UnusedSites.{is_unused, tidied_sites}
use Rattle.q_model.specs.Values.{SiteRecord}
use Rattle.q_model.specs.declared.entry.Entry.{Entry}
use Rattle.q_model.specs.declared.entry.Entry.TheVariants as entries
use Rattle.q_model.specs.declared.event.Trigger.{Trigger}
use Rattle.q_model.specs.declared.event.Trigger.TheVariants as triggers
use Rattle.q_model.specs.declared.rows.Admitted.{Admitted}
use Rattle.q_model.specs.declared.rows.Place.TheVariants as places
use Rattle.q_model.specs.declared.rows.Request.{Request}
use Rattle.q_model.specs.declared.rows.Request.TheVariants as requests
use Rattle.q_model.specs.declared.rows.Scan.{Scan}

-- ---- sites wake

ask_on : (w : World) (b l : Ledger) (e : Entry) (f : SiteRecord → SiteRecord) (request : Request) (o : Option Scan) → IsSitesConsistent w b → IsWaking e f → l.sites ≡ map f b.sites → ((r : SiteRecord) → is_unused l r ≡ is_unused b r) →
    tidied_sites w b (option_map_or (λ s. remember_scan l request) o (open_scan l request)) ≡ sites_woken (woken_by b e) (option_map_or (λ s. remember_scan l request) o (open_scan l request))
ask_on w b l e f request None h wake same rows = woken_law w b (open_scan l request) e f h wake same rows
ask_on w b l e f request (Some s) h wake same rows = woken_law w b (remember_scan l request) e f h wake same rows

ask_sites : (w : World) (b l : Ledger) (e : Entry) (f : SiteRecord → SiteRecord) → IsSitesConsistent w b → IsWaking e f → l.sites ≡ map f b.sites → ((r : SiteRecord) → is_unused l r ≡ is_unused b r) →
    tidied_sites w b (ask_scan l) ≡ sites_woken (woken_by b e) (ask_scan l)
ask_sites w b l e f h wake same rows = ask_on w b l e f (if l.ignores then requests.All else requests.Due) l.scan h wake same rows

at_sites : (w : World) (b : Ledger) (t : ℕ) (d : Bool) → IsSitesConsistent w b →
    tidied_sites w b (if d then ask_scan (scheduled w b t) else woken w b t) ≡ sites_woken (woken_by b (entries.At t)) (if d then ask_scan (scheduled w b t) else woken w b t)
at_sites w b t true h = ask_sites w b (scheduled w b t) (entries.At t) (woken_at w b t) h (at_wakes w b t) refl (λ r. refl)
at_sites w b t false h = woken_law w b (woken w b t) (entries.At t) (woken_at w b t) h (at_wakes w b t) refl (λ r. refl)

map_itself : (rs : List SiteRecord) → rs ≡ map (λ r. r) rs
map_itself [] = refl
map_itself (r ∷ rs) = ap (λ xs. r ∷ xs) (map_itself rs)

-- no record changes
abbrev wakes_none : (e : Entry) → IsWaking e (λ r. r)
wakes_none e = record { site = λ r. refl; asleep = λ r h. refl; awake = λ r h. refl }

trigger_sites : (w : World) (b : Ledger) (kind : Trigger) → IsSitesConsistent w b → tidied_sites w b (after_trigger w b kind) ≡ sites_woken (woken_by b (entries.Trigger kind)) (after_trigger w b kind)
trigger_sites w b triggers.D h = ask_sites w b b (entries.Trigger triggers.D) (λ r. r) h (wakes_none (entries.Trigger triggers.D)) (map_itself b.sites) (λ r. refl)
trigger_sites w b triggers.A h = woken_law w b (after_trigger w b triggers.A) (entries.Trigger triggers.A) (λ r. r) h (wakes_none (entries.Trigger triggers.A)) (map_itself b.sites) (λ r. refl)
trigger_sites w b triggers.F h = woken_law w b (after_trigger w b triggers.F) (entries.Trigger triggers.F) (woken_all w b) h (all_wake w b) refl (λ r. refl)

-- ---- nothing of sites changes

abbrev picked : Ledger → Option Pick → Ledger
picked b o = option_map_or (λ p. passed p b) o b

admit_on : (w : World) (b : Ledger) (book : Book) (more : List Admitted) (o : Option Pick) → IsSitesConsistent w b →
    tidied_sites w b (record (picked b o) { book = book; admitted = more }) ≡ (picked b o).sites
admit_on w b book more None h = sites_same w b (record b { book = book; admitted = more }) h refl (λ r e. e)
admit_on w b book more (Some (from_incoming id)) h = sites_same w b (record (passed (from_incoming id) b) { book = book; admitted = more }) h refl (λ r e. e)
admit_on w b book more (Some (from_deferred name)) h = sites_same w b (record (passed (from_deferred name) b) { book = book; admitted = more }) h refl (λ r e. e)

corrupt_on : (w : World) (b : Ledger) (book : Book) (d : Bool) (o : Option Pick) → IsSitesConsistent w b →
    tidied_sites w b (record (if d then b else picked b o) { book = book }) ≡ (if d then b else picked b o).sites
corrupt_on w b book true o h = sites_same w b (record b { book = book }) h refl (λ r e. e)
corrupt_on w b book false None h = sites_same w b (record b { book = book }) h refl (λ r e. e)
corrupt_on w b book false (Some (from_incoming id)) h = sites_same w b (record (passed (from_incoming id) b) { book = book }) h refl (λ r e. e)
corrupt_on w b book false (Some (from_deferred name)) h = sites_same w b (record (passed (from_deferred name) b) { book = book }) h refl (λ r e. e)

abbrev bounced : Ledger → Option Message → Ledger
bounced b o = option_map_or (λ m. record b { book = add_message b.book (bounce_message b.now m) }) o b

bounce_on : (w : World) (b : Ledger) (o : Option Message) → IsSitesConsistent w b → tidied_sites w b (bounced b o) ≡ (bounced b o).sites
bounce_on w b None h = sites_same w b b h refl (λ r e. e)
bounce_on w b (Some m) h = sites_same w b (bounced b (Some m)) h refl (λ r e. e)

-- ---- each entry

-- the records after an entry, by the site that a row has left and those that woke
abbrev pub records_after : World → Ledger → Entry → List SiteRecord
records_after w b e = option_map_or (sites_left w (change w b e)) (site_left b e) (sites_woken (woken_by b e) (change w b e))

-- of an entry that lets no site wake, the same records
same_after : (w : World) (b l : Ledger) (e : Entry) → ((r : SiteRecord) → wakes e r ≡ false) → tidied_sites w b l ≡ l.sites → tidied_sites w b l ≡ sites_woken (woken_by b e) l
same_after w b l e none h = h ∙ sym (none_woken b l e none)

quiet_sites : (w : World) (c : Counts) (b l : Ledger) (e : Entry) → IsOfLedger w c b → ((r : SiteRecord) → wakes e r ≡ false) → l.sites ≡ b.sites → ((r : SiteRecord) → is_unused l r ≡ true → is_unused b r ≡ true) →
    tidied_sites w b l ≡ sites_woken (woken_by b e) l
quiet_sites w c b l e h none same used = same_after w b l e none (sites_same w b l (sites_fit w c b h) same used)

either_way : (b : Bool) → ◌≡◌ {A = List SiteRecord} (if b then [] else []) []
either_way true = refl
either_way false = refl

pub entry_sites : (w : World) (c : Counts) (b : Ledger) (e : Entry) → IsOfLedger w c b → may_by c w b e ≡ true → tidied_sites w b (change w b e) ≡ records_after w b e
entry_sites w c b (entries.Life generation mode) h may = either_way (nat_lt w.settings.recipient_limit 0)
entry_sites w c b (entries.At t) h may = at_sites w b t (nat_le b.next_run t) (sites_fit w c b h)
entry_sites w c b (entries.Arrive id sender to content) h may = quiet_sites w c b (change w b (entries.Arrive id sender to content)) (entries.Arrive id sender to content) h (λ r. refl) refl (λ r e. e)
entry_sites w c b (entries.Back id) h may = quiet_sites w c b (change w b (entries.Back id)) (entries.Back id) h (λ r. refl) refl (λ r e. e)
entry_sites w c b (entries.Admit id) h may =
    same_after w b (change w b (entries.Admit id)) (entries.Admit id) (λ r. refl) (admit_on w b (move_message b.book id places.Active) (b.admitted ++ record { id = id; unread = 0 } ∷ []) (pick b) (sites_fit w c b h))
entry_sites w c b (entries.Load id from to) h may = same_after w b (change w b (entries.Load id from to)) (entries.Load id from to) (λ r. refl) (load_sites w c b id from to h)
entry_sites w c b (entries.Start number id site positions) h may =
    same_after w b (change w b (entries.Start number id site positions)) (entries.Start number id site positions) (λ r. refl) (start_sites w c b number id site positions h)
entry_sites w c b (entries.Preempt child parent transport need) h may =
    quiet_sites w c b (change w b (entries.Preempt child parent transport need)) (entries.Preempt child parent transport need) h (λ r. refl) refl (λ r e. e)
entry_sites w c b (entries.Reply number state outcomes) h may = reply_sites w c b number state outcomes (sites_woken (woken_by b (entries.Reply number state outcomes))) h may
entry_sites w c b (entries.Skip id site positions) h may = skip_sites w c b id site positions h may
entry_sites w c b (entries.Log id failure) h may = quiet_sites w c b (change w b (entries.Log id failure)) (entries.Log id failure) h (λ r. refl) refl (λ r e. e)
entry_sites w c b (entries.Mark id position) h may = quiet_sites w c b (change w b (entries.Mark id position)) (entries.Mark id position) h (λ r. refl) refl (λ r e. e)
entry_sites w c b (entries.Sync id) h may = quiet_sites w c b (change w b (entries.Sync id)) (entries.Sync id) h (λ r. refl) refl (λ r e. e)
entry_sites w c b (entries.Defer id due) h may = quiet_sites w c b (change w b (entries.Defer id due)) (entries.Defer id due) h (λ r. refl) refl (λ r e. e)
entry_sites w c b (entries.Bounce id) h may = same_after w b (change w b (entries.Bounce id)) (entries.Bounce id) (λ r. refl) (bounce_on w b (message_of b.book id) (sites_fit w c b h))
entry_sites w c b (entries.Remove id) h may = quiet_sites w c b (change w b (entries.Remove id)) (entries.Remove id) h (λ r. refl) refl (λ r e. e)
entry_sites w c b (entries.Corrupt id) h may =
    same_after w b (change w b (entries.Corrupt id)) (entries.Corrupt id) (λ r. refl) (corrupt_on w b (move_damaged b.book id places.Corrupt) (is_next_leftover b id) (pick b) (sites_fit w c b h))
entry_sites w c b (entries.Trigger kind) h may = trigger_sites w b kind (sites_fit w c b h)
entry_sites w c b entries.End h may = quiet_sites w c b b entries.End h (λ r. refl) refl (λ r e. e)
