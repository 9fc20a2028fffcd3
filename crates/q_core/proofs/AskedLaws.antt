-- What a look asks for isn't known yet, on whatever answers.
use Rattle.q_jobs.specs.Jobs.{behind_jobs}
use Rattle.std.proofs.Common.{◌≡◌, ℕ, zero, suc, ◌+◌, Bool, true, false, refl, sym, ap, ◌∙◌, subst, Option, Some, None, option_map}
use Rattle.std.specs.Option.{option_map_or, option_or}
use Rattle.std.specs.Prelude.{◌&&◌, ◌^◌, find, if◌then◌else◌, is_some, nat_lt, not, option_and_then, position, slice_get}
use Rattle.q_core.specs.Changes.{is_known}
use Rattle.q_core.specs.Choosing.{best_in, choice_in, choices_from, choose_in, current_in, jobs_at, need_in, next_start_in, preempt_or}
use Rattle.q_core.specs.Deciding.{clearing_on, decide_in, first_rule_in, is_look, question_of, scan_look_in}
use Rattle.q_core.specs.Facts.{file_pending, file_wants_bounce, picked, picked_decision, picked_place}
use Rattle.q_core.specs.Held.{due_in, finish_in, free_in, is_dead_in, is_idle_in, may_read_in, wants_sync_in}
use Rattle.q_core.specs.Looking.{is_unseen}
use Rattle.q_core.specs.Rules.{admission_in, admission_seen, clear_found_in, clear_in, clear_marked_in, decision_of, first_need_in, has_message_room_in, is_synced_in, needed_in, next_admission_in, next_clearing_in, next_finish_in, next_read_in, next_skip_in, next_sync_in, skip_at, skip_decision}
use Rattle.q_pool.specs.Slots.{wants_bounce_in}
use Rattle.q_core.specs.Starting.{next_row_in, start_of_row}
use Rattle.q_core.specs.declared.decision.Decision.{Decision}
use Rattle.q_core.specs.declared.decision.Decision.TheVariants as decisions
use Rattle.q_core.specs.declared.decision.FileFacts.{FileFacts}
use Rattle.q_core.specs.declared.decision.Found.{Found}
use Rattle.q_core.specs.declared.decision.Found.TheVariants.{Damaged, Nothing, Whole}
use Rattle.q_jobs.specs.declared.job.Job.{Job}
use Rattle.q_pool.specs.declared.slot.Slot.{Slot}
use Rattle.q_core.specs.declared.state.Core.{Core}
use Rattle.q_core.specs.declared.state.Seen.{Seen}
use Rattle.q_core.specs.declared.state.Seen.TheVariants.{Known, Unknown}
use Rattle.q_model.specs.declared.id.Id.{Id}
use Rattle.q_model.specs.declared.rows.Need.{Need}
use Rattle.q_model.specs.declared.rows.Need.TheVariants as needs
use Rattle.q_model.specs.declared.rows.Place.{Place}
use Rattle.q_model.specs.declared.rows.Place.TheVariants as places
use Rattle.q_model.specs.declared.rows.Scan.{Scan}
use Rattle.q_model.specs.declared.rows.Unsettled.{Unsettled}

-- where it is a look, what it asks for is unseen
abbrev Fits : Core → Option Decision → Type 0
Fits c None = Unit {0}
Fits c (Some d) = is_look (question_of d) ≡ true → is_unseen (question_of d) c ≡ true

or_fits : (c : Core) (o q : Option Decision) → Fits c o → Fits c q → Fits c (option_or o q)
or_fits c None q a b = b
or_fits c (Some d) q a b = a

if_fits : (c : Core) (b : Bool) (o q : Option Decision) → Fits c o → Fits c q → Fits c (if b then o else q)
if_fits c true o q a b = a
if_fits c false o q a b = b

-- a decision that is no look fits
plain : (c : Core) (d : Decision) → is_look (question_of d) ≡ false → Fits c (Some d)
plain c d e = λ h. let bad : true ≡ false = sym h ∙ e in absurd cc

map_fits : {A : Type 0} (c : Core) (f : A → Decision) (o : Option A) → ((x : A) → is_look (question_of (f x)) ≡ false) → Fits c (option_map f o)
map_fits c f None h = tt
map_fits c f (Some x) h = plain c (f x) (h x)

then_fits : {A : Type 0} (c : Core) (f : A → Option Decision) (o : Option A) → ((x : A) → Fits c (f x)) → Fits c (option_and_then f o)
then_fits c f None h = tt
then_fits c f (Some x) h = h x

need_plain : (u : Unsettled) (n : Need) → is_look (question_of (needed_in u.id u.position n)) ≡ false
need_plain u (needs.Log why code) = refl
need_plain u needs.Mark = refl

finish_fits : (c : Core) (s : Slot) → Fits c (finish_in c s)
finish_fits c s =
    let bounce = if wants_bounce_in s && not s.bounced then Some (decisions.Bounce s.id) else Some (decisions.Remove s.id) in
    let logged = if s.logged then None else bounce in
    let pending = if nat_lt 0 s.pending then Some (decisions.Defer s.id (due_in c s.arrival)) else logged in
    let damaged = if s.damaged then Some (decisions.Corrupt s.id places.Active) else pending in
    if_fits c (nat_lt 0 s.marks) None damaged tt
    (if_fits c s.damaged (Some (decisions.Corrupt s.id places.Active)) pending (plain c (decisions.Corrupt s.id places.Active) refl)
    (if_fits c (nat_lt 0 s.pending) (Some (decisions.Defer s.id (due_in c s.arrival))) logged (plain c (decisions.Defer s.id (due_in c s.arrival)) refl)
    (if_fits c s.logged None bounce tt
    (if_fits c (wants_bounce_in s && not s.bounced) (Some (decisions.Bounce s.id)) (Some (decisions.Remove s.id)) (plain c (decisions.Bounce s.id) refl) (plain c (decisions.Remove s.id) refl)))))

marked_plain : (id : Id) (f : FileFacts) (b d e : Bool) → is_look (question_of (if not b then decisions.Sync id else (if d then decisions.Back id else (if e then decisions.Bounce id else decisions.Remove id)))) ≡ false
marked_plain id f false d e = refl
marked_plain id f true true e = refl
marked_plain id f true false true = refl
marked_plain id f true false false = refl

clear_plain : (c : Core) (id : Id) (f : FileFacts) (o : Option ℕ) → is_look (question_of (option_map_or (λ position. decisions.Mark id position) o (clear_marked_in (is_synced_in c id) id f))) ≡ false
clear_plain c id f None = marked_plain id f (is_synced_in c id) (nat_lt 0 (file_pending f)) (file_wants_bounce f id && not f.bounced)
clear_plain c id f (Some k) = refl

clear_fits : (c : Core) (found : Found) → Fits c (clear_found_in c found)
clear_fits c Nothing = tt
clear_fits c (Damaged id due alone) = if_fits c alone (Some (decisions.Corrupt id places.Active)) None (plain c (decisions.Corrupt id places.Active) refl) tt
clear_fits c (Whole id due f) = plain c (clear_in (is_synced_in c id) id f) (clear_plain c id f f.unmarked)

clearing_fits : (c : Core) (seen : Seen) → c.active ≡ seen → Fits c (next_clearing_in c seen)
clearing_fits c Unknown e = λ h. ap (λ s. not (is_known s)) e
clearing_fits c (Known found) e = clear_fits c found

picked_fits : (c : Core) (place : Place) (f : Found) → Fits c (picked_decision place f)
picked_fits c place Nothing = tt
picked_fits c place (Damaged id due alone) = if_fits c alone (Some (decisions.Corrupt id place)) None (plain c (decisions.Corrupt id place) refl) tt
picked_fits c place (Whole id due f) = if_fits c f.alone (Some (decisions.Admit id place)) None (plain c (decisions.Admit id place) refl) tt

deferred_fits : (c : Core) (s : Scan) → c.scan ≡ Some s → c.deferred ≡ Unknown → Fits c (Some (decisions.LookDeferred s.place s.until))
deferred_fits c s e u = λ h. ap (λ o. is_some o && not (is_known c.deferred)) e ∙ ap (λ x. not (is_known x)) u

scan_fits : (c : Core) (seen : Seen) (o : Option Scan) → c.deferred ≡ seen → c.scan ≡ o → Fits c (scan_look_in seen o)
scan_fits c seen None u e = tt
scan_fits c Unknown (Some s) u e = deferred_fits c s e u
scan_fits c (Known found) (Some s) u e = tt

scanned_fits : (c : Core) (incoming : Found) (seen : Seen) (o : Option Scan) → c.deferred ≡ seen → c.scan ≡ o → Fits c (admission_in c incoming seen o)
scanned_fits c incoming seen None u e = picked_fits c (picked_place c.deferred_follows incoming Nothing) (picked c.deferred_follows incoming Nothing)
scanned_fits c incoming Unknown (Some s) u e = deferred_fits c s e u
scanned_fits c incoming (Known found) (Some s) u e = picked_fits c (picked_place c.deferred_follows incoming found) (picked c.deferred_follows incoming found)

seen_fits : (c : Core) (seen : Seen) → c.incoming ≡ seen → Fits c (admission_seen c seen)
seen_fits c Unknown e = λ h. ap (λ s. not (is_known s)) e
seen_fits c (Known incoming) e = scanned_fits c incoming c.deferred c.scan refl refl

best_fits : (c : Core) (t : ℕ) (parent : Job) (o : Option Slot) → Fits c (preempt_or c t parent o)
best_fits c t parent None = map_fits c (start_of_row c) (next_row_in c t parent.id) (λ r. refl)
best_fits c t parent (Some s) = plain c (decisions.Preempt s.id parent.id t (need_in c t s)) refl

choice_fits : (c : Core) (t : ℕ) → Fits c (choice_in c t)
choice_fits c t = then_fits c (choose_in c t) (current_in c t) (λ parent. best_fits c t parent (best_in c t (behind_jobs parent.id (jobs_at c t)) parent))

choices_fit : (c : Core) (t n : ℕ) → Fits c (choices_from c t n)
choices_fit c t zero = tt
choices_fit c t (suc n) = or_fits c (choice_in c t) (choices_from c (t + 1) n) (choice_fits c t) (choices_fit c (t + 1) n)

all_fit : (c : Core) → Fits c (option_or (scan_look_in c.deferred c.scan) (first_rule_in c))
all_fit c =
    let from_start = next_start_in c in
    let from_read = option_or (next_read_in c) from_start in
    let from_admission = option_or (next_admission_in c c.incoming) from_read in
    let from_finish = option_or (next_finish_in c) (clearing_on c) in
    let from_skip = option_or (next_skip_in c) from_finish in
    let from_sync = option_or (next_sync_in c) from_skip in
    or_fits c (scan_look_in c.deferred c.scan) (first_rule_in c) (scan_fits c c.deferred c.scan refl refl)
    (or_fits c (first_need_in c) from_sync (map_fits c decision_of (slice_get c.unsettled 0) (λ u. need_plain u u.need))
    (or_fits c (next_sync_in c) from_skip (map_fits c (λ s. decisions.Sync s.id) (find (wants_sync_in c) c.admitted) (λ s. refl))
    (or_fits c (next_skip_in c) from_finish (then_fits c (skip_at c) (position (λ r. is_dead_in c r.site) c.waiting) (λ n. map_fits c (skip_decision c) (slice_get c.waiting n) (λ r. refl)))
    (or_fits c (next_finish_in c) (clearing_on c) (then_fits c (finish_in c) (find (λ s. is_idle_in c s.id) c.admitted) (finish_fits c))
    (or_fits c (next_clearing_in c c.active) from_admission (clearing_fits c c.active refl)
    (or_fits c (next_admission_in c c.incoming) from_read (if_fits c (not (has_message_room_in c)) None (admission_seen c c.incoming) tt (seen_fits c c.incoming refl))
    (or_fits c (next_read_in c) from_start (map_fits c (λ s. decisions.Read s.id s.unread (free_in c)) (find (may_read_in c) c.admitted) (λ s. refl))
    (if_fits c (nat_lt c.starts (2 ^ 48)) (choices_from c 0 c.transports) None (choices_fit c 0 c.transports) tt))))))))

decided_fits : (c : Core) → Fits c (decide_in c)
decided_fits c = if_fits c (not c.timed) None (option_or (scan_look_in c.deferred c.scan) (first_rule_in c)) tt (all_fit c)

fits_as : (c : Core) (o : Option Decision) (d : Decision) → Fits c o → o ≡ Some d → is_look (question_of d) ≡ true → is_unseen (question_of d) c ≡ true
fits_as c None d f e = cc
fits_as c (Some x) d f e = let same : x ≡ d = cc in subst (λ y. is_look (question_of y) ≡ true → is_unseen (question_of y) c ≡ true) same f

pub look_unseen : (c : Core) (d : Decision) → decide_in c ≡ Some d → is_look (question_of d) ≡ true → is_unseen (question_of d) c ≡ true
look_unseen c d e = fits_as c (decide_in c) d (decided_fits c) e
