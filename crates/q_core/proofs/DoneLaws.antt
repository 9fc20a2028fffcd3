-- What is decided can be done, on whatever answers.
use Rattle.q_jobs.specs.Jobs.{behind_jobs}
use Rattle.std.proofs.Common.{◌≡◌, ◌<◌, ◌≤◌, ◌+◌, ℕ, arith, Bool, false, List, None, Option, option_map, refl, Some, suc, true, zero}
use Rattle.std.specs.List.{list_all}
use Rattle.std.specs.Option.{option_map_or, option_or}
use Rattle.std.specs.Prelude.{◌&&◌, ◌^◌, find, if◌then◌else◌, nat_lt, not, option_and_then, position, slice_get}
use Rattle.q_core.proofs.CodeLaws.{first_all}
use Rattle.q_core.specs.Choosing.{best_in, choice_in, choices_from, choose_in, current_in, jobs_at, next_start_in, preempt_or}
use Rattle.q_core.specs.Deciding.{CanBeDone, clearing_on, decide_in, first_rule_in, IsFoundDamaged, IsPicked, scan_look_in}
use Rattle.q_core.specs.Facts.{deferred_place, file_pending, file_wants_bounce, IsDated, is_nothing, IsSeenDated, picked, picked_decision, picked_place}
use Rattle.q_core.specs.Held.{due_in, finish_in, free_in, is_dead_in, is_idle_in, may_read_in, wants_sync_in}
use Rattle.q_core.specs.Rooms.{can_be_logged, is_loggable}
use Rattle.q_core.specs.Rules.{admission_in, admission_seen, clear_marked_in, decision_of, first_need_in, has_message_room_in, is_synced_in, needed_in, next_admission_in, next_clearing_in, next_finish_in, next_read_in, next_skip_in, next_sync_in, skip_at, skip_decision}
use Rattle.q_core.specs.Starting.{next_row_in, start_of_row}
use Rattle.q_core.specs.declared.decision.Decision.{Decision}
use Rattle.q_core.specs.declared.decision.Decision.TheVariants as decisions
use Rattle.q_core.specs.declared.decision.FileFacts.{FileFacts}
use Rattle.q_core.specs.declared.decision.Found.{Found}
use Rattle.q_core.specs.declared.decision.Found.TheVariants.{Damaged, Nothing, Whole}
use Rattle.q_core.specs.declared.state.Core.{Core}
use Rattle.q_core.specs.declared.state.Seen.{Seen}
use Rattle.q_core.specs.declared.state.Seen.TheVariants.{Known, Unknown}
use Rattle.q_jobs.specs.declared.job.Job.{Job}
use Rattle.q_model.specs.declared.id.Id.{Id}
use Rattle.q_model.specs.declared.rows.Need.{Need}
use Rattle.q_model.specs.declared.rows.Need.TheVariants as needs
use Rattle.q_model.specs.declared.rows.Place.{Place}
use Rattle.q_model.specs.declared.rows.Place.TheVariants as places
use Rattle.q_model.specs.declared.rows.Scan.{Scan}
use Rattle.q_model.specs.declared.rows.Unsettled.{Unsettled}
use Rattle.q_pool.specs.Slots.{wants_bounce_in}
use Rattle.q_pool.specs.declared.slot.Slot.{Slot}
use Rattle.q_settings.specs.Ranges.{IsInRange}

or_done : (o q : Option Decision) → CanBeDone o → CanBeDone q → CanBeDone (option_or o q)
or_done None q a b = b
or_done (Some d) q a b = a

if_done : (b : Bool) (o q : Option Decision) → CanBeDone o → CanBeDone q → CanBeDone (if b then o else q)
if_done true o q a b = a
if_done false o q a b = b

map_done : {A : Type 0} (f : A → Decision) (o : Option A) → ((x : A) → CanBeDone (Some (f x))) → CanBeDone (option_map f o)
map_done f None h = tt
map_done f (Some x) h = h x

then_done : {A : Type 0} (f : A → Option Decision) (o : Option A) → ((x : A) → CanBeDone (f x)) → CanBeDone (option_and_then f o)
then_done f None h = tt
then_done f (Some x) h = h x

need_done : (u : Unsettled) (n : Need) → can_be_logged n ≡ true → CanBeDone (Some (needed_in u.id u.position n))
need_done u (needs.Log why code) h = h
need_done u needs.Mark h = tt

first_done : (us : List Unsettled) (o : Option Unsettled) → list_all is_loggable us ≡ true → slice_get us 0 ≡ o → CanBeDone (option_map decision_of o)
first_done us None h e = tt
first_done us (Some u) h e = need_done u u.need (first_all is_loggable us u h e)

marked_done : (id : Id) (f : FileFacts) (b d e : Bool) → CanBeDone (Some (if not b then decisions.Sync id else (if d then decisions.Back id else (if e then decisions.Bounce id else decisions.Remove id))))
marked_done id f false d e = tt
marked_done id f true true e = tt
marked_done id f true false true = tt
marked_done id f true false false = tt

clear_done : (c : Core) (id : Id) (f : FileFacts) (o : Option ℕ) → CanBeDone (Some (option_map_or (λ position. decisions.Mark id position) o (clear_marked_in (is_synced_in c id) id f)))
clear_done c id f None = marked_done id f (is_synced_in c id) (nat_lt 0 (file_pending f)) (file_wants_bounce f id && not f.bounced)
clear_done c id f (Some k) = tt

clearing_done : (c : Core) (seen : Seen) → CanBeDone (next_clearing_in c seen)
clearing_done c Unknown = tt
clearing_done c (Known Nothing) = tt
clearing_done c (Known (Damaged id due alone)) = if_done alone (Some (decisions.Corrupt id places.Active)) None tt tt
clearing_done c (Known (Whole id due f)) = clear_done c id f f.unmarked

found_damaged : (place : Place) → IsPicked place → IsFoundDamaged place
found_damaged places.Incoming h = h
found_damaged places.Active h = tt
found_damaged (places.Deferred due) h = h
found_damaged places.Hold h = h
found_damaged places.Corrupt h = h

picked_done : (place : Place) (f : Found) → IsPicked place → CanBeDone (picked_decision place f)
picked_done place Nothing h = tt
picked_done place (Damaged id due alone) h = if_done alone (Some (decisions.Corrupt id place)) None (found_damaged place h) tt
picked_done place (Whole id due f) h = if_done f.alone (Some (decisions.Admit id place)) None h tt

deferred_picked : (d : Found) → IsDated d → IsPicked (deferred_place d)
deferred_picked Nothing h = omega arith
deferred_picked (Damaged id due alone) h = h
deferred_picked (Whole id due f) h = h

if_picked : (b : Bool) (x y : Place) → IsPicked x → IsPicked y → IsPicked (if b then x else y)
if_picked true x y h k = h
if_picked false x y h k = k

place_picked : (follows : Bool) (i d : Found) → IsDated d → IsPicked (picked_place follows i d)
place_picked follows i d h =
    let deferred = deferred_picked d h in
    let second = if follows then deferred_place d else places.Incoming in
    if_picked (is_nothing i) (deferred_place d) (if is_nothing d then places.Incoming else second) deferred
    (if_picked (is_nothing d) places.Incoming second tt (if_picked follows (deferred_place d) places.Incoming deferred tt))

scanned_done : (c : Core) (incoming : Found) (seen : Seen) (o : Option Scan) → IsSeenDated seen → CanBeDone (admission_in c incoming seen o)
scanned_done c incoming seen None h = picked_done (picked_place c.deferred_follows incoming Nothing) (picked c.deferred_follows incoming Nothing) (place_picked c.deferred_follows incoming Nothing tt)
scanned_done c incoming Unknown (Some s) h = tt
scanned_done c incoming (Known found) (Some s) h = picked_done (picked_place c.deferred_follows incoming found) (picked c.deferred_follows incoming found) (place_picked c.deferred_follows incoming found h)

seen_done : (c : Core) (seen : Seen) → IsSeenDated c.deferred → CanBeDone (admission_seen c seen)
seen_done c Unknown h = tt
seen_done c (Known incoming) h = scanned_done c incoming c.deferred c.scan h

look_done : (seen : Seen) (o : Option Scan) → CanBeDone (scan_look_in seen o)
look_done seen None = tt
look_done Unknown (Some s) = tt
look_done (Known found) (Some s) = tt

due_early : (c : Core) (arrival : ℕ) → IsInRange c.params → c.clock.seconds ≤ 999990000000 → due_in c arrival < 10 ^ 12
due_early c arrival range early =
    let least = range.minimal_backoff.1 in
    let most = range.maximal_backoff in
    omega (arith, least, most, early)

finish_done : (c : Core) (s : Slot) → IsInRange c.params → c.clock.seconds ≤ 999990000000 → CanBeDone (finish_in c s)
finish_done c s range early =
    let bounce = if wants_bounce_in s && not s.bounced then Some (decisions.Bounce s.id) else Some (decisions.Remove s.id) in
    let logged = if s.logged then None else bounce in
    let pending = if nat_lt 0 s.pending then Some (decisions.Defer s.id (due_in c s.arrival)) else logged in
    let damaged = if s.damaged then Some (decisions.Corrupt s.id places.Active) else pending in
    if_done (nat_lt 0 s.marks) None damaged tt
    (if_done s.damaged (Some (decisions.Corrupt s.id places.Active)) pending tt
    (if_done (nat_lt 0 s.pending) (Some (decisions.Defer s.id (due_in c s.arrival))) logged (due_early c s.arrival range early)
    (if_done s.logged None bounce tt
    (if_done (wants_bounce_in s && not s.bounced) (Some (decisions.Bounce s.id)) (Some (decisions.Remove s.id)) tt tt))))

best_done : (c : Core) (t : ℕ) (parent : Job) (o : Option Slot) → CanBeDone (preempt_or c t parent o)
best_done c t parent None = map_done (start_of_row c) (next_row_in c t parent.id) (λ r. tt)
best_done c t parent (Some s) = tt

choice_done : (c : Core) (t : ℕ) → CanBeDone (choice_in c t)
choice_done c t = then_done (choose_in c t) (current_in c t) (λ parent. best_done c t parent (best_in c t (behind_jobs parent.id (jobs_at c t)) parent))

choices_done : (c : Core) (t n : ℕ) → CanBeDone (choices_from c t n)
choices_done c t zero = tt
choices_done c t (suc n) = or_done (choice_in c t) (choices_from c (t + 1) n) (choice_done c t) (choices_done c (t + 1) n)

-- what is decided, where all that the core holds is within bounds
pub decided_done : (c : Core) → IsInRange c.params → c.clock.seconds ≤ 999990000000 → list_all is_loggable c.unsettled ≡ true → IsSeenDated c.deferred → CanBeDone (decide_in c)
decided_done c range early codes dated =
    let from_start = next_start_in c in
    let from_read = option_or (next_read_in c) from_start in
    let from_admission = option_or (next_admission_in c c.incoming) from_read in
    let from_finish = option_or (next_finish_in c) (clearing_on c) in
    let from_skip = option_or (next_skip_in c) from_finish in
    let from_sync = option_or (next_sync_in c) from_skip in
    if_done (not c.timed) None (option_or (scan_look_in c.deferred c.scan) (first_rule_in c)) tt
    (or_done (scan_look_in c.deferred c.scan) (first_rule_in c) (look_done c.deferred c.scan)
    (or_done (first_need_in c) from_sync (first_done c.unsettled (slice_get c.unsettled 0) codes refl)
    (or_done (next_sync_in c) from_skip (map_done (λ s. decisions.Sync s.id) (find (wants_sync_in c) c.admitted) (λ s. tt))
    (or_done (next_skip_in c) from_finish (then_done (skip_at c) (position (λ r. is_dead_in c r.site) c.waiting) (λ n. map_done (skip_decision c) (slice_get c.waiting n) (λ r. tt)))
    (or_done (next_finish_in c) (clearing_on c) (then_done (finish_in c) (find (λ s. is_idle_in c s.id) c.admitted) (λ s. finish_done c s range early))
    (or_done (next_clearing_in c c.active) from_admission (clearing_done c c.active)
    (or_done (next_admission_in c c.incoming) from_read (if_done (not (has_message_room_in c)) None (admission_seen c c.incoming) tt (seen_done c c.incoming dated))
    (or_done (next_read_in c) from_start (map_done (λ s. decisions.Read s.id s.unread (free_in c)) (find (may_read_in c) c.admitted) (λ s. tt))
    (if_done (nat_lt c.starts (2 ^ 48)) (choices_from c 0 c.transports) None (choices_done c 0 c.transports) tt)))))))))
