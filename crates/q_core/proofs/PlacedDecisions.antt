-- A message that is admitted, and a file that goes to corrupt, stand where the decision says.
use Rattle.q_jobs.specs.Jobs.{behind_jobs}
use Rattle.std.proofs.Common.{◌≡◌, ℕ, zero, suc, ◌+◌, Bool, true, false, refl, sym, ap, ◌∙◌, subst, Option, Some, None, option_map}
use Rattle.std.specs.Option.{option_map_or, option_or}
use Rattle.std.specs.Prelude.{◌&&◌, ◌^◌, find, if◌then◌else◌, nat_lt, not, option_and_then, position, slice_get}
use Rattle.q_core.specs.Choosing.{best_in, choice_in, choices_from, choose_in, current_in, jobs_at, next_start_in, preempt_or}
use Rattle.q_core.specs.Deciding.{clearing_on, decide_in, first_rule_in, scan_look_in, IsPlaced}
use Rattle.q_core.specs.Facts.{file_pending, file_wants_bounce, picked_decision, picked_next, deferred_place, is_nothing}
use Rattle.q_core.specs.Held.{due_in, finish_in, free_in, is_dead_in, is_idle_in, may_read_in, wants_sync_in}
use Rattle.q_core.specs.Rules.{admission_in, admission_seen, clear_found_in, decision_of, first_need_in, has_message_room_in, is_synced_in, needed_in, next_admission_in, next_clearing_in, next_finish_in, next_read_in, next_skip_in, next_sync_in, skip_at, skip_decision}
use Rattle.q_pool.specs.Slots.{wants_bounce_in}
use Rattle.q_core.specs.Starting.{next_row_in, start_of_row}
use Rattle.q_core.specs.declared.decision.Decision.{Decision}
use Rattle.q_core.specs.declared.decision.Decision.TheVariants as decisions
use Rattle.q_core.specs.declared.decision.FileFacts.{FileFacts}
use Rattle.q_core.specs.declared.decision.Found.{Found}
use Rattle.q_core.specs.declared.decision.Found.TheVariants.{Nothing}
use Rattle.q_jobs.specs.declared.job.Job.{Job}
use Rattle.q_pool.specs.declared.slot.Slot.{Slot}
use Rattle.q_core.specs.declared.state.Core.{Core}
use Rattle.q_core.specs.declared.state.Seen.{Seen}
use Rattle.q_core.specs.declared.state.Seen.TheVariants.{Known, Unknown}
use Rattle.q_model.specs.declared.id.Id.{Id}
use Rattle.q_model.specs.declared.rows.Need.{Need}
use Rattle.q_model.specs.declared.rows.Need.TheVariants as needs
use Rattle.q_model.specs.declared.rows.Place.{Place}
use Rattle.q_model.specs.declared.rows.Place.TheVariants as places
use Rattle.q_model.specs.declared.rows.Scan.{Scan}
use Rattle.q_model.specs.declared.rows.Unsettled.{Unsettled}
use Rattle.q_core.proofs.KindLaws.{whole_finish}
use Rattle.q_core.proofs.PickLaws.{found_on, no_deferred, some_found}
use Rattle.q_core.proofs.RuleLaws.{whole_law}
use Rattle.q_core.specs.Agrees.{Agrees, IsSeen, IsSeenScan, Matches, file_of, found_active, found_at, found_deferred, found_incoming, found_next}
use Rattle.q_core.specs.Scanning.{scan_after}
use Rattle.q_laws.proofs.Standing.{IsHere, broken_here, deferred_here, incoming_here, leftover_here, whole_here}
use Rattle.q_model.specs.Admissions.{cause_gone}
use Rattle.q_model.specs.Book.{all_ids, message_of}
use Rattle.q_model.specs.Ids.{are_distinct}
use Rattle.q_model.specs.Ledger.{Ledger}
use Rattle.q_model.specs.Leftovers.{next_leftover}
use Rattle.q_model.specs.Message.{Message}
use Rattle.q_model.specs.Settings.{World}
use Rattle.q_model.specs.Alternation.{deferred_next, incoming_next}
use Rattle.q_model.specs.declared.rows.DeferredName.{DeferredName}

or_placed : (l : Ledger) (o q : Option Decision) → IsPlaced l o → IsPlaced l q → IsPlaced l (option_or o q)
or_placed l None q a b = b
or_placed l (Some d) q a b = a

if_placed : (l : Ledger) (b : Bool) (o q : Option Decision) → IsPlaced l o → IsPlaced l q → IsPlaced l (if b then o else q)
if_placed l true o q a b = a
if_placed l false o q a b = b

map_placed : {A : Type 0} (l : Ledger) (f : A → Decision) (o : Option A) → ((x : A) → IsPlaced l (Some (f x))) → IsPlaced l (option_map f o)
map_placed l f None h = tt
map_placed l f (Some x) h = h x

then_placed : {A : Type 0} (l : Ledger) (f : A → Option Decision) (o : Option A) → ((x : A) → IsPlaced l (f x)) → IsPlaced l (option_and_then f o)
then_placed l f None h = tt
then_placed l f (Some x) h = h x

need_placed : (l : Ledger) (u : Unsettled) (n : Need) → IsPlaced l (Some (needed_in u.id u.position n))
need_placed l u (needs.Log why code) = tt
need_placed l u needs.Mark = tt

-- ---- an idle message that can be read goes nowhere but to deferred

finish_at : (l : Ledger) (c : Core) (s : Slot) (b : Bool) → not b ≡ true → IsPlaced l (if nat_lt 0 s.marks then None else (if b then Some (decisions.Corrupt s.id places.Active) else whole_finish c s))
finish_at l c s true h = cc
finish_at l c s false h =
    let bounce = if wants_bounce_in s && not s.bounced then Some (decisions.Bounce s.id) else Some (decisions.Remove s.id) in
    let logged = if s.logged then None else bounce in
    if_placed l (nat_lt 0 s.marks) None (whole_finish c s) tt
    (if_placed l (nat_lt 0 s.pending) (Some (decisions.Defer s.id (due_in c s.arrival))) logged tt
    (if_placed l s.logged None bounce tt
    (if_placed l (wants_bounce_in s && not s.bounced) (Some (decisions.Bounce s.id)) (Some (decisions.Remove s.id)) tt tt)))

finish_placed : (l : Ledger) (c : Core) (o : Option Slot) → option_map_or (λ s. not s.damaged) o true ≡ true → IsPlaced l (option_and_then (finish_in c) o)
finish_placed l c None h = tt
finish_placed l c (Some s) h = finish_at l c s s.damaged h

-- ---- what is picked

deferred_at : (l : Ledger) (due : ℕ) (id : Id) (o : Option Message) → deferred_place (found_on l due id o) ≡ places.Deferred due
deferred_at l due id None = refl
deferred_at l due id (Some m) = refl

decided_at : (l : Ledger) → are_distinct (all_ids l.book) ≡ true → (due : ℕ) (id : Id) (place : Place) → IsHere l.book id place → (o : Option Message) → message_of l.book id ≡ o → IsPlaced l (picked_decision place (found_on l due id o))
decided_at l distinct due id place here None e = if_placed l (cause_gone l.book id) (Some (decisions.Corrupt id place)) None (broken_here l.book distinct id place here e) tt
decided_at l distinct due id place here (Some m) e =
    if_placed l (cause_gone l.book id) (Some (decisions.Admit id place)) None (ap (option_map (λ (x : Message). x.place)) e ∙ ap Some (whole_here l.book distinct id place m here e)) tt

abbrev incoming_found : Ledger → Option Id → Found
incoming_found l o = option_map_or (λ id. found_at l 0 id) o Nothing

from_incoming_at : (l : Ledger) → are_distinct (all_ids l.book) ≡ true → (id : Id) → IsHere l.book id places.Incoming → IsPlaced l (picked_decision places.Incoming (found_at l 0 id))
from_incoming_at l distinct id here = decided_at l distinct 0 id places.Incoming here (message_of l.book id) refl

from_deferred_at : (l : Ledger) → are_distinct (all_ids l.book) ≡ true → (n : DeferredName) → IsHere l.book n.id (places.Deferred n.due) → IsPlaced l (picked_decision (deferred_place (found_at l n.due n.id)) (found_at l n.due n.id))
from_deferred_at l distinct n here =
    subst (λ p. IsPlaced l (picked_decision p (found_at l n.due n.id))) (sym (deferred_at l n.due n.id (message_of l.book n.id)))
    (decided_at l distinct n.due n.id (places.Deferred n.due) here (message_of l.book n.id) refl)

pick_either : (l : Ledger) (follows : Bool) (i d : Found) → is_nothing i ≡ false → is_nothing d ≡ false → IsPlaced l (picked_decision places.Incoming i) → IsPlaced l (picked_decision (deferred_place d) d) → IsPlaced l (picked_next follows i d)
pick_either l true i d p q a b =
    subst (λ x. IsPlaced l (picked_decision (if x then deferred_place d else (if is_nothing d then places.Incoming else deferred_place d)) (if x then d else (if is_nothing d then i else d)))) (sym p)
    (subst (λ x. IsPlaced l (picked_decision (if x then places.Incoming else deferred_place d) (if x then i else d))) (sym q) b)
pick_either l false i d p q a b =
    subst (λ x. IsPlaced l (picked_decision (if x then deferred_place d else (if is_nothing d then places.Incoming else places.Incoming)) (if x then d else (if is_nothing d then i else i)))) (sym p)
    (subst (λ x. IsPlaced l (picked_decision (if x then places.Incoming else places.Incoming) (if x then i else i))) (sym q) a)

pick_placed : (l : Ledger) → are_distinct (all_ids l.book) ≡ true → (follows : Bool) (i : Option Id) (d : Option DeferredName) → ((id : Id) → i ≡ Some id → IsHere l.book id places.Incoming) → ((n : DeferredName) → d ≡ Some n → IsHere l.book n.id (places.Deferred n.due)) →
    IsPlaced l (picked_next follows (incoming_found l i) (found_next l d))
pick_placed l distinct follows None None hi hd = tt
pick_placed l distinct follows None (Some n) hi hd = from_deferred_at l distinct n (hd n refl)
pick_placed l distinct follows (Some id) None hi hd =
    subst (λ x. IsPlaced l (picked_decision (if x then places.Deferred 0 else places.Incoming) (if x then Nothing else found_at l 0 id))) (sym (some_found l 0 id (message_of l.book id)))
    (from_incoming_at l distinct id (hi id refl))
pick_placed l distinct follows (Some id) (Some n) hi hd =
    pick_either l follows (found_at l 0 id) (found_at l n.due n.id) (some_found l 0 id (message_of l.book id)) (some_found l n.due n.id (message_of l.book n.id))
    (from_incoming_at l distinct id (hi id refl)) (from_deferred_at l distinct n (hd n refl))

next_placed : (l : Ledger) → are_distinct (all_ids l.book) ≡ true → (follows : Bool) (i d : Found) → i ≡ found_incoming l → d ≡ found_deferred l → IsPlaced l (picked_next follows i d)
next_placed l distinct follows i d e f =
    subst (λ x. IsPlaced l (picked_next follows x d)) (sym e)
    (subst (λ x. IsPlaced l (picked_next follows (found_incoming l) x)) (sym f)
    (pick_placed l distinct follows (incoming_next l) (deferred_next l) (incoming_here l) (deferred_here l)))

scanned_placed : {w : World} {c : Core} {l : Ledger} → Matches w c l → are_distinct (all_ids l.book) ≡ true → (i : Found) → i ≡ found_incoming l → (seen : Seen) (o : Option Scan) → c.deferred ≡ seen → c.scan ≡ o → IsPlaced l (admission_in c i seen o)
scanned_placed {c = c} {l = l} a distinct i e seen None u s =
    next_placed l distinct c.deferred_follows i Nothing e (no_deferred c l (ap (λ (o : Option Scan). scan_after l.book l.now o c.asked) (sym s) ∙ a.scan.goes_on))
scanned_placed {l = l} a distinct i e Unknown (Some s) u same = tt
scanned_placed {c = c} {l = l} a distinct i e (Known d) (Some s) u same =
    let k = subst (λ x. IsSeenScan x c.scan c.asked l) u a.scan.seen in
    next_placed l distinct c.deferred_follows i d e k.2

seen_placed : {w : World} {c : Core} {l : Ledger} → Matches w c l → are_distinct (all_ids l.book) ≡ true → (seen : Seen) → c.incoming ≡ seen → IsPlaced l (admission_seen c seen)
seen_placed a distinct Unknown e = tt
seen_placed {c = c} {l = l} a distinct (Known i) e = scanned_placed a distinct i (subst (λ x. IsSeen x (found_incoming l)) e a.parts.incoming) c.deferred c.scan refl refl

-- ---- what an earlier life left

clear_placed : (l : Ledger) (id : Id) (f : FileFacts) (o : Option ℕ) (b d e : Bool) → IsPlaced l (Some (option_map_or (λ position. decisions.Mark id position) o (if not b then decisions.Sync id else (if d then decisions.Back id else (if e then decisions.Bounce id else decisions.Remove id)))))
clear_placed l id f (Some k) b d e = tt
clear_placed l id f None false d e = tt
clear_placed l id f None true true e = tt
clear_placed l id f None true false true = tt
clear_placed l id f None true false false = tt

left_at : (l : Ledger) → are_distinct (all_ids l.book) ≡ true → (c : Core) (id : Id) → IsHere l.book id places.Active → (o : Option Message) → message_of l.book id ≡ o → IsPlaced l (clear_found_in c (found_on l 0 id o))
left_at l distinct c id here None e = if_placed l (cause_gone l.book id) (Some (decisions.Corrupt id places.Active)) None (broken_here l.book distinct id places.Active here e) tt
left_at l distinct c id here (Some m) e =
    let f = file_of l id m in
    clear_placed l id f f.unmarked (is_synced_in c id) (nat_lt 0 (file_pending f)) (file_wants_bounce f id && not f.bounced)

left_placed : (l : Ledger) → are_distinct (all_ids l.book) ≡ true → (c : Core) (o : Option Id) → next_leftover l ≡ o → IsPlaced l (clear_found_in c (option_map_or (λ id. found_at l 0 id) o Nothing))
left_placed l distinct c None e = tt
left_placed l distinct c (Some id) e = left_at l distinct c id (leftover_here l id e) (message_of l.book id) refl

clearing_placed : (l : Ledger) → are_distinct (all_ids l.book) ≡ true → (c : Core) (seen : Seen) → IsSeen seen (found_active l) → IsPlaced l (next_clearing_in c seen)
clearing_placed l distinct c Unknown e = tt
clearing_placed l distinct c (Known f) e = subst (λ x. IsPlaced l (clear_found_in c x)) (sym e) (left_placed l distinct c (next_leftover l) refl)

-- ---- all rules

scan_placed : (l : Ledger) (seen : Seen) (o : Option Scan) → IsPlaced l (scan_look_in seen o)
scan_placed l seen None = tt
scan_placed l Unknown (Some s) = tt
scan_placed l (Known found) (Some s) = tt

best_placed : (l : Ledger) (c : Core) (t : ℕ) (parent : Job) (o : Option Slot) → IsPlaced l (preempt_or c t parent o)
best_placed l c t parent None = map_placed l (start_of_row c) (next_row_in c t parent.id) (λ r. tt)
best_placed l c t parent (Some s) = tt

choice_placed : (l : Ledger) (c : Core) (t : ℕ) → IsPlaced l (choice_in c t)
choice_placed l c t = then_placed l (choose_in c t) (current_in c t) (λ parent. best_placed l c t parent (best_in c t (behind_jobs parent.id (jobs_at c t)) parent))

choices_placed : (l : Ledger) (c : Core) (t n : ℕ) → IsPlaced l (choices_from c t n)
choices_placed l c t zero = tt
choices_placed l c t (suc n) = or_placed l (choice_in c t) (choices_from c (t + 1) n) (choice_placed l c t) (choices_placed l c (t + 1) n)

rules_placed : {w : World} {c : Core} {l : Ledger} → Matches w c l → are_distinct (all_ids l.book) ≡ true → IsPlaced l (option_or (scan_look_in c.deferred c.scan) (first_rule_in c))
rules_placed {c = c} {l = l} a distinct =
    let from_start = next_start_in c in
    let from_read = option_or (next_read_in c) from_start in
    let from_admission = option_or (next_admission_in c c.incoming) from_read in
    let from_finish = option_or (next_finish_in c) (clearing_on c) in
    let from_skip = option_or (next_skip_in c) from_finish in
    let from_sync = option_or (next_sync_in c) from_skip in
    or_placed l (scan_look_in c.deferred c.scan) (first_rule_in c) (scan_placed l c.deferred c.scan)
    (or_placed l (first_need_in c) from_sync (map_placed l decision_of (slice_get c.unsettled 0) (λ u. need_placed l u u.need))
    (or_placed l (next_sync_in c) from_skip (map_placed l (λ s. decisions.Sync s.id) (find (wants_sync_in c) c.admitted) (λ s. tt))
    (or_placed l (next_skip_in c) from_finish (then_placed l (skip_at c) (position (λ r. is_dead_in c r.site) c.waiting) (λ n. map_placed l (skip_decision c) (slice_get c.waiting n) (λ r. tt)))
    (or_placed l (next_finish_in c) (clearing_on c) (finish_placed l c (find (λ s. is_idle_in c s.id) c.admitted) (whole_law a.parts))
    (or_placed l (next_clearing_in c c.active) from_admission (clearing_placed l distinct c c.active a.parts.active)
    (or_placed l (next_admission_in c c.incoming) from_read (if_placed l (not (has_message_room_in c)) None (admission_seen c c.incoming) tt (seen_placed a distinct c.incoming refl))
    (or_placed l (next_read_in c) from_start (map_placed l (λ s. decisions.Read s.id s.unread (free_in c)) (find (may_read_in c) c.admitted) (λ s. tt))
    (if_placed l (nat_lt c.starts (2 ^ 48)) (choices_from c 0 c.transports) None (choices_placed l c 0 c.transports) tt))))))))

-- what the core decides names the place where the file stands
pub placed_law : {w : World} {c : Core} {l : Ledger} → Agrees w c l → IsPlaced l (decide_in c)
placed_law {c = c} {l = l} a = if_placed l (not c.timed) None (option_or (scan_look_in c.deferred c.scan) (first_rule_in c)) tt (rules_placed a.matches a.consistent.book.distinct)
