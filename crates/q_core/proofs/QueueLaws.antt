-- How agreement goes on where messages come to other queues, and into memory or out of it.
use Rattle.std.proofs.Common.{◌≡◌, ℕ, List, [], ◌∷◌, map, inl, inr, refl, sym, ap, ◌∙◌, subst, Option, Some, None}
use Rattle.std.specs.Option.{option_map_or}
use Rattle.std.specs.Prelude.{filter, option_and_then}
use Rattle.q_core.proofs.StepLaws.{HoldsRaw, IsStillSeen}
use Rattle.q_core.proofs.PickLaws.{found_on, next_of}
use Rattle.q_core.proofs.SyncedLaws.{synced_fewer}
use Rattle.q_core.specs.Agrees.{AgreesButScan, IsSeen, file_of, found_active, found_at, found_incoming, found_next, slot_from, slot_of}
use Rattle.q_core.specs.Scanning.{scan_after}
use Rattle.q_core.specs.declared.decision.Found.{Found}
use Rattle.q_core.specs.declared.decision.Found.TheVariants.{Damaged, Nothing, Whole}
use Rattle.q_core.specs.declared.state.Core.{Core}
use Rattle.q_core.specs.declared.state.Seen.{Seen}
use Rattle.q_core.specs.declared.state.Seen.TheVariants.{Known, Unknown}
use Rattle.q_laws.proofs.Members.{IsIn, in_filtered, least_in}
use Rattle.q_model.specs.Admissions.{cause_gone}
use Rattle.q_model.specs.Book.{Book, ids_at, message_of, stands_in}
use Rattle.q_model.specs.Ids.{bounce_of, id_before}
use Rattle.q_model.specs.Ledger.{Ledger}
use Rattle.q_model.specs.Leftovers.{leftovers}
use Rattle.q_model.specs.Lists.{least}
use Rattle.q_model.specs.Message.{Message}
use Rattle.q_model.specs.Places.{is_incoming}
use Rattle.q_model.specs.Scans.{deferred_names, is_ahead, live, name_before, new_scan, scan_next}
use Rattle.q_model.specs.Settings.{World}
use Rattle.q_model.specs.declared.id.Id.{Id}
use Rattle.q_model.specs.declared.rows.Admitted.{Admitted}
use Rattle.q_model.specs.declared.rows.DeferredName.{DeferredName}
use Rattle.q_model.specs.declared.rows.Request.{Request}
use Rattle.q_model.specs.declared.rows.Scan.{Scan}

-- of this id the second book says what the first does
pub record IsSameOf (b k : Book) (id : Id) : Type 0 where
  pub message : message_of k id ≡ message_of b id
  pub bounced : stands_in is_incoming k (bounce_of id) ≡ stands_in is_incoming b (bounce_of id)
  pub alone : cause_gone k id ≡ cause_gone b id

-- the ledger with this book and these in memory
abbrev pub with_files : Ledger → Book → List Admitted → Ledger
with_files l b rows = record l { book = b; admitted = rows }

same_on : (l : Ledger) (b : Book) (rows : List Admitted) (due : ℕ) (id : Id) → IsSameOf l.book b id → (o : Option Message) → found_on (with_files l b rows) due id o ≡ found_on l due id o
same_on l b rows due id s None = ap (Damaged id due) s.alone
same_on l b rows due id s (Some m) =
    ap (λ x. Whole id due (record (file_of l id m) { bounced = x; alone = cause_gone b id })) s.bounced
    ∙ ap (λ x. Whole id due (record (file_of l id m) { alone = x })) s.alone

-- what is told of such an id is as it was
pub same_found : (l : Ledger) (b : Book) (rows : List Admitted) (due : ℕ) (id : Id) → IsSameOf l.book b id → found_at (with_files l b rows) due id ≡ found_at l due id
same_found l b rows due id s = ap (found_on (with_files l b rows) due id) s.message ∙ same_on l b rows due id s (message_of l.book id)

abbrev first_on : Ledger → Option Id → Found
first_on l o = option_map_or (λ k. found_at l 0 k) o Nothing

same_first : (l : Ledger) (b : Book) (rows : List Admitted) (o : Option Id) → ((k : Id) → o ≡ Some k → IsSameOf l.book b k) → first_on (with_files l b rows) o ≡ first_on l o
same_first l b rows None h = refl
same_first l b rows (Some k) h = same_found l b rows 0 k (h k refl)

-- the same is told of active
pub active_same : (l : Ledger) (b : Book) (rows : List Admitted) → leftovers (with_files l b rows) ≡ leftovers l → ((k : Id) → IsIn k (leftovers l) → IsSameOf l.book b k) → found_active (with_files l b rows) ≡ found_active l
active_same l b rows e h =
    ap (λ ids. first_on (with_files l b rows) (least id_before ids)) e
    ∙ same_first l b rows (least id_before (leftovers l)) (λ k f. h k (least_in id_before k (leftovers l) f))

-- the same is told of incoming
pub incoming_same : (l : Ledger) (b : Book) (rows : List Admitted) → ids_at is_incoming b ≡ ids_at is_incoming l.book → ((k : Id) → IsIn k (ids_at is_incoming l.book) → IsSameOf l.book b k) → found_incoming (with_files l b rows) ≡ found_incoming l
incoming_same l b rows e h =
    ap (λ ids. first_on (with_files l b rows) (least id_before ids)) e
    ∙ same_first l b rows (least id_before (ids_at is_incoming l.book)) (λ k f. h k (least_in id_before k (ids_at is_incoming l.book) f))

-- the slot of such an id is as it was
pub slot_same : (l : Ledger) (b : Book) (rows : List Admitted) (a : Admitted) → IsSameOf l.book b a.id → slot_of l a ≡ slot_of (with_files l b rows) a
slot_same l b rows a s = ap (λ x. slot_from a x (message_of l.book a.id)) (sym s.bounced) ∙ ap (slot_from a (stands_in is_incoming b (bounce_of a.id))) (sym s.message)

pub slots_same : (l : Ledger) (b : Book) (rows xs : List Admitted) → ((a : Admitted) → IsIn a xs → IsSameOf l.book b a.id) → map (slot_of l) xs ≡ map (slot_of (with_files l b rows)) xs
slots_same l b rows [] h = refl
slots_same l b rows (a ∷ xs) h = ap (λ s. s ∷ map (slot_of l) xs) (slot_same l b rows a (h a (inl refl))) ∙ ap (λ ss. slot_of (with_files l b rows) a ∷ ss) (slots_same l b rows xs (λ x k. h x (inr k)))

-- ---- deferred

same_next : (b k : Book) → deferred_names k ≡ deferred_names b → (s : Scan) → scan_next k s ≡ scan_next b s
same_next b k e s = ap (λ ns. least name_before (filter (is_ahead s) ns)) e

abbrev over_none : Scan → Option DeferredName → (Option Scan × Option Request)
over_none s None = (None, None)
over_none s (Some x) = (Some s, None)

abbrev over_some : Scan → Request → Option Scan → Option DeferredName → (Option Scan × Option Request)
over_some s r next None = (next, None)
over_some s r next (Some x) = (Some s, Some r)

abbrev live_on : Scan → Option DeferredName → Option Scan
live_on s o = option_and_then (λ n. Some s) o

same_after : (b k : Book) → deferred_names k ≡ deferred_names b → (n : ℕ) (s : Option Scan) (q : Option Request) → scan_after k n s q ≡ scan_after b n s q
same_after b k e n None q = refl
same_after b k e n (Some s) None = ap (over_none s) (same_next b k e s)
same_after b k e n (Some s) (Some r) =
    ap (over_some s r (live k (new_scan n r))) (same_next b k e s)
    ∙ ap (λ o. over_some s r (live_on (new_scan n r) o) (scan_next b s)) (same_next b k e (new_scan n r))

same_named : (l : Ledger) (b : Book) (rows : List Admitted) (o : Option DeferredName) → ((n : DeferredName) → o ≡ Some n → IsSameOf l.book b n.id) → found_next (with_files l b rows) o ≡ found_next l o
same_named l b rows None h = refl
same_named l b rows (Some n) h = same_found l b rows n.due n.id (h n refl)

same_scanned : (l : Ledger) (b : Book) (rows : List Admitted) → deferred_names b ≡ deferred_names l.book → ((n : DeferredName) → IsIn n (deferred_names l.book) → IsSameOf l.book b n.id) →
    (o : Option Scan) → found_next (with_files l b rows) (next_of b o) ≡ found_next l (next_of l.book o)
same_scanned l b rows e h None = refl
same_scanned l b rows e h (Some s) =
    ap (found_next (with_files l b rows)) (same_next l.book b e s)
    ∙ same_named l b rows (scan_next l.book s) (λ n f. h n (in_filtered (is_ahead s) n (deferred_names l.book) (least_in name_before n (filter (is_ahead s) (deferred_names l.book)) f)).0)

-- the same is told of deferred
pub still_same : (seen : Seen) (l : Ledger) (b : Book) (rows : List Admitted) → deferred_names b ≡ deferred_names l.book → ((n : DeferredName) → IsIn n (deferred_names l.book) → IsSameOf l.book b n.id) →
    IsStillSeen seen l → IsStillSeen seen (with_files l b rows)
still_same Unknown l b rows e h k = tt
still_same (Known found) l b rows e h k = (k.0 ∙ sym (same_scanned l b rows e h l.scan), same_after l.book b e l.now l.scan l.asked ∙ k.1)

-- ---- the law

-- slots and what looks have shown are those of the new book
pub files_law : {w : World} {c d : Core} {l : Ledger} (b : Book) (rows : List Admitted) → HoldsRaw w c l → d ≡ record c { admitted = d.admitted; active = d.active; incoming = d.incoming; deferred = d.deferred } →
    ((i : Id) → IsIn i (leftovers (with_files l b rows)) → IsIn i (leftovers l)) → d.admitted ≡ map (slot_of (with_files l b rows)) rows → IsSeen d.active (found_active (with_files l b rows)) → IsSeen d.incoming (found_incoming (with_files l b rows)) → IsStillSeen d.deferred (with_files l b rows) →
    HoldsRaw w d (with_files l b rows)
files_law {w = w} {c = c} {d = d} {l = l} b rows r rest fewer slots active incoming deferred =
    let h = r.parts in
    let next : Ledger = with_files l b rows in
    let changed : Core = record c { admitted = d.admitted; active = d.active; incoming = d.incoming; deferred = d.deferred } in
    let kept : AgreesButScan w changed next = record {
      settings = h.settings;
      count = h.count;
      transports = h.transports;
      mode = h.mode;
      clock = h.clock;
      timed = h.timed;
      next_run = h.next_run;
      ignores = h.ignores;
      deferred_follows = h.deferred_follows;
      admitted = slots;
      waiting = h.waiting;
      flights = h.flights;
      memory = h.memory;
      served = h.served;
      unsettled = h.unsettled;
      lines = h.lines;
      sites = h.sites;
      synced = synced_fewer c.synced l next fewer refl h.synced;
      starts = h.starts;
      active = active;
      incoming = incoming;
    } in
    let raw : HoldsRaw w changed next = record { parts = kept; scan = r.scan; asked = r.asked; seen = deferred } in
    subst (λ x. HoldsRaw w x next) (sym rest) raw
