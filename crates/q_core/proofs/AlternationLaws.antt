-- The file that the core takes next is the ledger's, and which queue follows then is too.
use Rattle.std.proofs.Common.{◌≡◌, ℕ, Bool, true, false, Option, Some, None, refl, ap, ◌∙◌, IsTrue}
use Rattle.std.specs.Option.{option_map_or}
use Rattle.std.specs.Prelude.{◌&&◌, ◌||◌, if◌then◌else◌, is_none, not}
use Rattle.q_core.proofs.StepLaws.{HoldsRaw, IsStillSeen}
use Rattle.q_core.proofs.PickLaws.{found_on, next_of, some_found}
use Rattle.q_core.specs.Agrees.{IsSeen, found_at, found_deferred, found_incoming, found_next}
use Rattle.q_core.specs.Changes.{is_known, is_looked_at}
use Rattle.q_core.specs.Facts.{is_nothing, picked}
use Rattle.q_core.specs.Picking.{found_name, from_deferred_in, is_from_deferred, scan_moved_on, passed_in, picked_in, scanned_in, shown}
use Rattle.q_core.specs.declared.decision.Found.{Found}
use Rattle.q_core.specs.declared.decision.Found.TheVariants.{Nothing}
use Rattle.q_core.specs.declared.state.Core.{Core}
use Rattle.q_core.specs.declared.state.Seen.{Seen}
use Rattle.q_core.specs.declared.state.Seen.TheVariants.{Known, Unknown}
use Rattle.q_model.specs.Book.{message_of}
use Rattle.q_model.specs.Ledger.{Ledger}
use Rattle.q_model.specs.Message.{Message}
use Rattle.q_model.specs.Settings.{World}
use Rattle.q_model.specs.Alternation.{Pick, deferred_next, incoming_next, passed, pick, pick_id, pick_of}
use Rattle.q_model.specs.Alternation.Pick.{from_deferred, from_incoming}
use Rattle.q_model.specs.declared.id.Id.{Id}
use Rattle.q_model.specs.declared.rows.DeferredName.{DeferredName}
use Rattle.q_model.specs.declared.rows.Scan.{Scan}

-- which queue gives, and the name that it gives
abbrev pub pick_by : Bool → DeferredName → Pick
pick_by false name = from_incoming name.id
pick_by true name = from_deferred name

-- the look's answer, where it is known
shown_is : (seen : Seen) (found : Found) → is_known seen ≡ true → IsSeen seen found → shown seen ≡ found
shown_is Unknown found k h = absurd cc
shown_is (Known seen) found k h = h

scanned_is : (o : Option Scan) (seen : Seen) (l : Ledger) → IsTrue (is_none o || is_known seen) → o ≡ l.scan → IsStillSeen seen l → scanned_in o seen ≡ found_deferred l
scanned_is None seen l k e h = ap (λ x. found_next l (next_of l.book x)) e
scanned_is (Some s) Unknown l k e h = absurd cc
scanned_is (Some s) (Known found) l k e h = h.0

name_on : (l : Ledger) (due : ℕ) (id : Id) (o : Option Message) → found_name (found_on l due id o) ≡ record { due = due; id = id }
name_on l due id None = refl
name_on l due id (Some m) = refl

abbrev first_on : Ledger → Option Id → Found
first_on l o = option_map_or (λ k. found_at l 0 k) o Nothing

abbrev picked_by : Bool → Found → Found → Pick
picked_by follows i d = pick_by (is_from_deferred follows i d) (found_name (picked follows i d))

abbrev by_parts : Found → Found → Bool → Bool → Bool → Pick
by_parts i d follows no_i no_d = pick_by (no_i || (not no_d && follows)) (found_name (if no_i then d else (if no_d then i else (if follows then d else i))))

abbrev file_by : Found → Found → Bool → Bool → Bool → Found
file_by i d follows no_i no_d = if no_i then d else (if no_d then i else (if follows then d else i))

there : (l : Ledger) (k : Id) (n : DeferredName) (follows : Bool) → picked follows (found_at l 0 k) (found_at l n.due n.id) ≡ (if follows then found_at l n.due n.id else found_at l 0 k)
there l k n follows =
    ap (λ b. file_by (found_at l 0 k) (found_at l n.due n.id) follows b (is_nothing (found_at l n.due n.id))) (some_found l 0 k (message_of l.book k))
    ∙ ap (file_by (found_at l 0 k) (found_at l n.due n.id) follows false) (some_found l n.due n.id (message_of l.book n.id))

both_there : (l : Ledger) (k : Id) (n : DeferredName) (follows : Bool) → by_parts (found_at l 0 k) (found_at l n.due n.id) follows false false ≡ (if follows then from_deferred n else from_incoming k)
both_there l k n true = ap from_deferred (name_on l n.due n.id (message_of l.book n.id))
both_there l k n false = ap (λ (x : DeferredName). from_incoming x.id) (name_on l 0 k (message_of l.book k))

pick_is : (l : Ledger) (follows : Bool) (o : Option Id) (q : Option DeferredName) (p : Pick) → pick_of follows o q ≡ Some p → picked_by follows (first_on l o) (found_next l q) ≡ p
pick_is l follows None None p h = absurd cc
pick_is l follows None (Some n) p h = let same : from_deferred n ≡ p = cc in ap from_deferred (name_on l n.due n.id (message_of l.book n.id)) ∙ same
pick_is l follows (Some k) None p h =
    let same : from_incoming k ≡ p = cc in
    ap (λ b. by_parts (found_at l 0 k) Nothing follows b true) (some_found l 0 k (message_of l.book k))
    ∙ ap (λ (x : DeferredName). from_incoming x.id) (name_on l 0 k (message_of l.book k))
    ∙ same
pick_is l follows (Some k) (Some n) p h =
    let same : (if follows then from_deferred n else from_incoming k) ≡ p = cc in
    ap (λ b. by_parts (found_at l 0 k) (found_at l n.due n.id) follows b (is_nothing (found_at l n.due n.id))) (some_found l 0 k (message_of l.book k))
    ∙ ap (by_parts (found_at l 0 k) (found_at l n.due n.id) follows false) (some_found l n.due n.id (message_of l.book n.id))
    ∙ both_there l k n follows
    ∙ same

-- the core takes what the ledger does
pub picks : {w : World} {c : Core} {l : Ledger} → HoldsRaw w c l → IsTrue (is_looked_at c) → is_known c.incoming ≡ true → (p : Pick) → pick l ≡ Some p → pick_by (from_deferred_in c) (found_name (picked_in c)) ≡ p
picks {c = c} {l = l} r t k p h =
    let i : shown c.incoming ≡ found_incoming l = shown_is c.incoming (found_incoming l) k r.parts.incoming in
    let d : scanned_in c.scan c.deferred ≡ found_deferred l = scanned_is c.scan c.deferred l t r.scan r.seen in
    ap (λ x. picked_by x (shown c.incoming) (scanned_in c.scan c.deferred)) r.parts.deferred_follows
    ∙ ap (λ x. picked_by l.deferred_follows x (scanned_in c.scan c.deferred)) i
    ∙ ap (picked_by l.deferred_follows (found_incoming l)) d
    ∙ pick_is l l.deferred_follows (incoming_next l) (deferred_next l) p h

-- the file is that of the pick
file_is : (l : Ledger) (follows : Bool) (o : Option Id) (q : Option DeferredName) (p : Pick) → pick_of follows o q ≡ Some p → (due : ℕ) × (picked follows (first_on l o) (found_next l q) ≡ found_at l due (pick_id p))
file_is l follows None None p h = absurd cc
file_is l follows None (Some n) p h = let same : from_deferred n ≡ p = cc in (n.due, ap (λ x. found_at l n.due (pick_id x)) same)
file_is l follows (Some k) None p h =
    let same : from_incoming k ≡ p = cc in
    (0, ap (λ b. file_by (found_at l 0 k) Nothing follows b true) (some_found l 0 k (message_of l.book k)) ∙ ap (λ x. found_at l 0 (pick_id x)) same)
file_is l true (Some k) (Some n) p h =
    let same : from_deferred n ≡ p = cc in
    (n.due, there l k n true ∙ ap (λ x. found_at l n.due (pick_id x)) same)
file_is l false (Some k) (Some n) p h =
    let same : from_incoming k ≡ p = cc in
    (0, there l k n false ∙ ap (λ x. found_at l 0 (pick_id x)) same)

-- the core's file is that of the ledger's pick
pub picked_found : {w : World} {c : Core} {l : Ledger} → HoldsRaw w c l → IsTrue (is_looked_at c) → is_known c.incoming ≡ true → (p : Pick) → pick l ≡ Some p → (due : ℕ) × (picked_in c ≡ found_at l due (pick_id p))
picked_found {c = c} {l = l} r t k p h =
    let i : shown c.incoming ≡ found_incoming l = shown_is c.incoming (found_incoming l) k r.parts.incoming in
    let d : scanned_in c.scan c.deferred ≡ found_deferred l = scanned_is c.scan c.deferred l t r.scan r.seen in
    let file = file_is l l.deferred_follows (incoming_next l) (deferred_next l) p h in (
      file.0,
      ap (λ x. picked x (shown c.incoming) (scanned_in c.scan c.deferred)) r.parts.deferred_follows
          ∙ ap (λ x. picked l.deferred_follows x (scanned_in c.scan c.deferred)) i
          ∙ ap (picked l.deferred_follows (found_incoming l)) d
          ∙ file.1,
    )

still_passed : (seen : Seen) (l : Ledger) (b : Bool) → IsStillSeen seen l → IsStillSeen seen (record l { deferred_follows = b })
still_passed Unknown l b h = tt
still_passed (Known found) l b h = h

-- the other queue follows
pub alternation_law : {w : World} {c : Core} {l : Ledger} (b : Bool) (name : DeferredName) → HoldsRaw w c l → HoldsRaw w (passed_in b name c) (passed (pick_by b name) l)
alternation_law {c = c} {l = l} true name r = let h = r.parts in record {
  parts = record {
    settings = h.settings;
    count = h.count;
    transports = h.transports;
    mode = h.mode;
    clock = h.clock;
    timed = h.timed;
    next_run = h.next_run;
    ignores = h.ignores;
    deferred_follows = refl;
    admitted = h.admitted;
    waiting = h.waiting;
    flights = h.flights;
    memory = h.memory;
    served = h.served;
    unsettled = h.unsettled;
    lines = h.lines;
    sites = h.sites;
    synced = h.synced;
    starts = h.starts;
    active = h.active;
    incoming = h.incoming;
  };
  scan = ap (scan_moved_on name) r.scan;
  asked = r.asked;
  seen = tt;
}
alternation_law {c = c} {l = l} false name r = let h = r.parts in record {
  parts = record {
    settings = h.settings;
    count = h.count;
    transports = h.transports;
    mode = h.mode;
    clock = h.clock;
    timed = h.timed;
    next_run = h.next_run;
    ignores = h.ignores;
    deferred_follows = refl;
    admitted = h.admitted;
    waiting = h.waiting;
    flights = h.flights;
    memory = h.memory;
    served = h.served;
    unsettled = h.unsettled;
    lines = h.lines;
    sites = h.sites;
    synced = h.synced;
    starts = h.starts;
    active = h.active;
    incoming = tt;
  };
  scan = r.scan;
  asked = r.asked;
  seen = still_passed c.deferred l true r.seen;
}
