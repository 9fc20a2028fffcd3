-- Which decisions each rule has.
use Rattle.q_jobs.specs.Jobs.{behind_jobs}
use Rattle.std.proofs.Common.{◌≡◌, ℕ, zero, suc, ◌+◌, Bool, true, false, refl, sym, ap, ◌∙◌, Option, Some, None, option_map}
use Rattle.std.specs.Option.{option_map_or, option_or}
use Rattle.std.specs.Prelude.{◌&&◌, ◌^◌, find, if◌then◌else◌, nat_lt, not, option_and_then, position, slice_get}
use Rattle.q_core.specs.Changes.{is_known}
use Rattle.q_core.specs.Choosing.{best_in, choice_in, choices_from, choose_in, current_in, jobs_at, need_in, next_start_in, preempt_or}
use Rattle.q_core.specs.Deciding.{clearing_on, decide_in, first_rule_in, scan_look_in}
use Rattle.q_core.specs.Facts.{file_pending, file_wants_bounce, picked, picked_decision, picked_place, shows_damaged}
use Rattle.q_core.specs.Held.{due_in, finish_in, free_in, is_dead_in, is_idle_in, may_read_in, wants_sync_in}
use Rattle.q_core.specs.Rules.{admission_in, admission_seen, clear_found_in, clear_marked_in, decision_of, first_need_in, has_message_room_in, is_synced_in, needed_in, next_admission_in, next_clearing_in, next_finish_in, next_read_in, next_skip_in, next_sync_in, skip_at, skip_decision, next_skip_number}
use Rattle.q_pool.specs.Slots.{wants_bounce_in}
use Rattle.q_core.specs.Starting.{next_row_in, start_in, start_of_row}
use Rattle.q_core.specs.declared.decision.Decision.{Decision}
use Rattle.q_core.specs.declared.decision.Decision.TheVariants as decisions
use Rattle.q_core.specs.declared.decision.FileFacts.{FileFacts}
use Rattle.q_core.specs.declared.decision.Found.{Found}
use Rattle.q_core.specs.declared.decision.Found.TheVariants.{Damaged, Nothing, Whole}
use Rattle.q_jobs.specs.declared.job.Job.{Job}
use Rattle.q_pool.specs.declared.slot.Slot.{Slot}
use Rattle.q_core.specs.declared.state.Core.{Core}
use Rattle.q_core.specs.declared.state.Seen.{Seen}
use Rattle.q_core.specs.declared.state.Seen.TheVariants.{Known, Unknown}
use Rattle.q_model.specs.declared.id.Id.{Id}
use Rattle.q_core.proofs.NameLaws.{id_eq-same}
use Rattle.q_model.specs.Ids.{id_eq}
use Rattle.q_model.specs.Values.{Site}
use Rattle.q_model.specs.declared.outcome.Failure.{Failure}
use Rattle.q_model.specs.declared.rows.Need.{Need}
use Rattle.q_model.specs.declared.rows.Need.TheVariants as needs
use Rattle.q_model.specs.declared.rows.Place.{Place}
use Rattle.q_model.specs.declared.rows.Place.TheVariants as places
use Rattle.q_model.specs.declared.rows.Row.{Row}
use Rattle.q_model.specs.declared.rows.Scan.{Scan}
use Rattle.q_model.specs.declared.rows.Unsettled.{Unsettled}

-- none of these decisions passes
abbrev pub Avoids : (Decision → Bool) → Option Decision → Type 0
Avoids p None = Unit {0}
Avoids p (Some d) = p d ≡ false

-- of two rules the second has what passes, where the first has none that does
or_second : (p : Decision → Bool) (o q : Option Decision) (d : Decision) → Avoids p o → p d ≡ true → option_or o q ≡ Some d → q ≡ Some d
or_second p None q d a h e = e
or_second p (Some x) q d a h e = let same : x ≡ d = cc in let bad : true ≡ false = sym h ∙ ap p (sym same) ∙ a in cc

-- and the first has it, where the second has none that does
or_first : (p : Decision → Bool) (o q : Option Decision) (d : Decision) → Avoids p q → p d ≡ true → option_or o q ≡ Some d → o ≡ Some d
or_first p None None d a h e = cc
or_first p None (Some x) d a h e = let same : x ≡ d = cc in let bad : true ≡ false = sym h ∙ ap p (sym same) ∙ a in cc
or_first p (Some x) q d a h e = e

or_avoids : (p : Decision → Bool) (o q : Option Decision) → Avoids p o → Avoids p q → Avoids p (option_or o q)
or_avoids p None q a b = b
or_avoids p (Some x) q a b = a

if_avoids : (p : Decision → Bool) (b : Bool) (o q : Option Decision) → Avoids p o → Avoids p q → Avoids p (if b then o else q)
if_avoids p true o q a b = a
if_avoids p false o q a b = b

-- the kinds of decisions
abbrev pub is_skip : Decision → Bool
is_skip (decisions.Skip id site entry) = true
is_skip _ = false

abbrev pub is_admit : Decision → Bool
is_admit (decisions.Admit id place) = true
is_admit _ = false

abbrev pub is_start_or_preempt : Decision → Bool
is_start_or_preempt (decisions.Preempt child parent transport need) = true
is_start_or_preempt (decisions.Start number id site) = true
is_start_or_preempt _ = false

need_one : (p : Decision → Bool) (u : Unsettled) (n : Need) → ((f : Failure) → p (decisions.Log u.id f) ≡ false) → p (decisions.Mark u.id u.position) ≡ false → p (needed_in u.id u.position n) ≡ false
need_one p u (needs.Log why code) a b = a (record { position = u.position; why = why; code = code })
need_one p u needs.Mark a b = b

need_avoids : (p : Decision → Bool) (o : Option Unsettled) → ((id : Id) (f : Failure) → p (decisions.Log id f) ≡ false) → ((id : Id) (k : ℕ) → p (decisions.Mark id k) ≡ false) → Avoids p (option_map decision_of o)
need_avoids p None a b = tt
need_avoids p (Some u) a b = need_one p u u.need (a u.id) (b u.id u.position)

slot_avoids : (p : Decision → Bool) (f : Slot → Decision) (o : Option Slot) → ((s : Slot) → p (f s) ≡ false) → Avoids p (option_map f o)
slot_avoids p f None a = tt
slot_avoids p f (Some s) a = a s

row_avoids : (p : Decision → Bool) (f : Row → Decision) (o : Option Row) → ((r : Row) → p (f r) ≡ false) → Avoids p (option_map f o)
row_avoids p f None a = tt
row_avoids p f (Some r) a = a r

skip_avoids : (p : Decision → Bool) (c : Core) (o : Option ℕ) → ((r : Row) → p (skip_decision c r) ≡ false) → Avoids p (option_and_then (skip_at c) o)
skip_avoids p c None a = tt
skip_avoids p c (Some n) a = row_avoids p (skip_decision c) (slice_get c.waiting n) a

finish_avoids : (p : Decision → Bool) (c : Core) (o : Option Slot) → ((s : Slot) → Avoids p (finish_in c s)) → Avoids p (option_and_then (finish_in c) o)
finish_avoids p c None a = tt
finish_avoids p c (Some s) a = a s

marked_avoids : (p : Decision → Bool) (b d e : Bool) (w x y z : Decision) → p w ≡ false → p x ≡ false → p y ≡ false → p z ≡ false → p (if not b then w else (if d then x else (if e then y else z))) ≡ false
marked_avoids p false d e w x y z a b c h = a
marked_avoids p true true e w x y z a b c h = b
marked_avoids p true false true w x y z a b c h = c
marked_avoids p true false false w x y z a b c h = h

clear_avoids : (p : Decision → Bool) (synced : Bool) (id : Id) (f : FileFacts) (o : Option ℕ) → ((k : ℕ) → p (decisions.Mark id k) ≡ false) → p (clear_marked_in synced id f) ≡ false → p (option_map_or (λ position. decisions.Mark id position) o (clear_marked_in synced id f)) ≡ false
clear_avoids p synced id f None a b = b
clear_avoids p synced id f (Some k) a b = a k

picked_avoids : (p : Decision → Bool) (place : Place) (f : Found) → ((id : Id) (place : Place) → p (decisions.Corrupt id place) ≡ false) → ((id : Id) (place : Place) → p (decisions.Admit id place) ≡ false) → Avoids p (picked_decision place f)
picked_avoids p place Nothing a b = tt
picked_avoids p place (Damaged id due alone) a b = if_avoids p alone (Some (decisions.Corrupt id place)) None (a id place) tt
picked_avoids p place (Whole id due f) a b = if_avoids p f.alone (Some (decisions.Admit id place)) None (b id place) tt

best_avoids : (p : Decision → Bool) (c : Core) (transport : ℕ) (parent : Job) (o : Option Slot) → ((s : Slot) (n : ℕ) → p (decisions.Preempt s.id parent.id transport n) ≡ false) → Avoids p (start_in c transport parent.id) → Avoids p (preempt_or c transport parent o)
best_avoids p c transport parent None a b = b
best_avoids p c transport parent (Some s) a b = a s (need_in c transport s)

-- the rules that have neither a skip nor an admission nor a start
scan_avoids : (p : Decision → Bool) (seen : Seen) (o : Option Scan) → ((s : Scan) → p (decisions.LookDeferred s.place s.until) ≡ false) → Avoids p (scan_look_in seen o)
scan_avoids p seen None a = tt
scan_avoids p Unknown (Some s) a = a s
scan_avoids p (Known found) (Some s) a = tt

-- none of the common decisions passes
pub record IsRare (p : Decision → Bool) : Type 0 where
  pub log : (id : Id) (f : Failure) → p (decisions.Log id f) ≡ false
  pub mark : (id : Id) (k : ℕ) → p (decisions.Mark id k) ≡ false
  pub sync : (id : Id) → p (decisions.Sync id) ≡ false
  pub defer : (id : Id) (due : ℕ) → p (decisions.Defer id due) ≡ false
  pub back : (id : Id) → p (decisions.Back id) ≡ false
  pub bounce : (id : Id) → p (decisions.Bounce id) ≡ false
  pub remove : (id : Id) → p (decisions.Remove id) ≡ false
  pub corrupt : (id : Id) (place : Place) → p (decisions.Corrupt id place) ≡ false
  pub look_active : p decisions.LookActive ≡ false
  pub look_incoming : p decisions.LookIncoming ≡ false
  pub look_deferred : (s : Scan) → p (decisions.LookDeferred s.place s.until) ≡ false

needs_avoid : (p : Decision → Bool) → IsRare p → (c : Core) → Avoids p (first_need_in c)
needs_avoid p k c = need_avoids p (slice_get c.unsettled 0) k.log k.mark

syncs_avoid : (p : Decision → Bool) → IsRare p → (c : Core) → Avoids p (next_sync_in c)
syncs_avoid p k c = slot_avoids p (λ s. decisions.Sync s.id) (find (wants_sync_in c) c.admitted) (λ s. k.sync s.id)

skips_avoid : (p : Decision → Bool) → ((id : Id) (site : Site) (entry : ℕ) → p (decisions.Skip id site entry) ≡ false) → (c : Core) → Avoids p (next_skip_in c)
skips_avoid p a c = skip_avoids p c (position (λ r. is_dead_in c r.site) c.waiting) (λ r. a r.id r.site (next_skip_number c))

-- how a message leaves active of which all records can be read
abbrev pub whole_finish : Core → Slot → Option Decision
whole_finish c s = if nat_lt 0 s.pending then Some (decisions.Defer s.id (due_in c s.arrival)) else (if s.logged then None else (if wants_bounce_in s && not s.bounced then Some (decisions.Bounce s.id) else Some (decisions.Remove s.id)))

whole_avoids : (p : Decision → Bool) (c : Core) (s : Slot) → p (decisions.Defer s.id (due_in c s.arrival)) ≡ false → p (decisions.Bounce s.id) ≡ false → p (decisions.Remove s.id) ≡ false → Avoids p (whole_finish c s)
whole_avoids p c s defer bounce remove =
    if_avoids p (nat_lt 0 s.pending) (Some (decisions.Defer s.id (due_in c s.arrival))) (if s.logged then None else (if wants_bounce_in s && not s.bounced then Some (decisions.Bounce s.id) else Some (decisions.Remove s.id))) defer
    (if_avoids p s.logged None (if wants_bounce_in s && not s.bounced then Some (decisions.Bounce s.id) else Some (decisions.Remove s.id)) tt
    (if_avoids p (wants_bounce_in s && not s.bounced) (Some (decisions.Bounce s.id)) (Some (decisions.Remove s.id)) bounce remove))

finish_slot : (p : Decision → Bool) → IsRare p → (c : Core) (s : Slot) → Avoids p (finish_in c s)
finish_slot p k c s =
    if_avoids p (nat_lt 0 s.marks) None (if s.damaged then Some (decisions.Corrupt s.id places.Active) else whole_finish c s) tt
    (if_avoids p s.damaged (Some (decisions.Corrupt s.id places.Active)) (whole_finish c s) (k.corrupt s.id places.Active) (whole_avoids p c s (k.defer s.id (due_in c s.arrival)) (k.bounce s.id) (k.remove s.id)))

finishes_avoid : (p : Decision → Bool) → IsRare p → (c : Core) → Avoids p (next_finish_in c)
finishes_avoid p k c = finish_avoids p c (find (λ s. is_idle_in c s.id) c.admitted) (finish_slot p k c)

cleared_avoids : (p : Decision → Bool) → IsRare p → (c : Core) (f : Found) → Avoids p (clear_found_in c f)
cleared_avoids p k c Nothing = tt
cleared_avoids p k c (Damaged id due alone) = if_avoids p alone (Some (decisions.Corrupt id places.Active)) None (k.corrupt id places.Active) tt
cleared_avoids p k c (Whole id due f) =
    clear_avoids p (is_synced_in c id) id f f.unmarked (k.mark id)
    (marked_avoids p (is_synced_in c id) (nat_lt 0 (file_pending f)) (file_wants_bounce f id && not f.bounced) (decisions.Sync id) (decisions.Back id) (decisions.Bounce id) (decisions.Remove id) (k.sync id) (k.back id) (k.bounce id) (k.remove id))

clearing_avoids : (p : Decision → Bool) → IsRare p → (c : Core) (seen : Seen) → Avoids p (next_clearing_in c seen)
clearing_avoids p k c Unknown = k.look_active
clearing_avoids p k c (Known found) = cleared_avoids p k c found

scanned_avoids : (p : Decision → Bool) → IsRare p → ((id : Id) (place : Place) → p (decisions.Admit id place) ≡ false) → (c : Core) (incoming : Found) (seen : Seen) (o : Option Scan) → Avoids p (admission_in c incoming seen o)
scanned_avoids p k a c incoming seen None = picked_avoids p (picked_place c.deferred_follows incoming Nothing) (picked c.deferred_follows incoming Nothing) k.corrupt a
scanned_avoids p k a c incoming Unknown (Some s) = k.look_deferred s
scanned_avoids p k a c incoming (Known deferred) (Some s) = picked_avoids p (picked_place c.deferred_follows incoming deferred) (picked c.deferred_follows incoming deferred) k.corrupt a

seen_avoids : (p : Decision → Bool) → IsRare p → ((id : Id) (place : Place) → p (decisions.Admit id place) ≡ false) → (c : Core) (seen : Seen) → Avoids p (admission_seen c seen)
seen_avoids p k a c Unknown = k.look_incoming
seen_avoids p k a c (Known incoming) = scanned_avoids p k a c incoming c.deferred c.scan

admissions_avoid : (p : Decision → Bool) → IsRare p → ((id : Id) (place : Place) → p (decisions.Admit id place) ≡ false) → (c : Core) → Avoids p (next_admission_in c c.incoming)
admissions_avoid p k a c = if_avoids p (not (has_message_room_in c)) None (admission_seen c c.incoming) tt (seen_avoids p k a c c.incoming)

reads_avoid : (p : Decision → Bool) → ((id : Id) (from max : ℕ) → p (decisions.Read id from max) ≡ false) → (c : Core) → Avoids p (next_read_in c)
reads_avoid p k c = slot_avoids p (λ s. decisions.Read s.id s.unread (free_in c)) (find (may_read_in c) c.admitted) (λ s. k s.id s.unread (free_in c))

-- a start or a preemption
pub record IsNoStart (p : Decision → Bool) : Type 0 where
  pub preempt : (child parent : Id) (transport need : ℕ) → p (decisions.Preempt child parent transport need) ≡ false
  pub start : (number : ℕ) (id : Id) (site : Site) → p (decisions.Start number id site) ≡ false

chosen_avoids : (p : Decision → Bool) → IsNoStart p → (c : Core) (t : ℕ) (o : Option Job) → Avoids p (option_and_then (choose_in c t) o)
chosen_avoids p k c t None = tt
chosen_avoids p k c t (Some parent) =
    best_avoids p c t parent (best_in c t (behind_jobs parent.id (jobs_at c t)) parent) (λ s n. k.preempt s.id parent.id t n)
    (row_avoids p (start_of_row c) (next_row_in c t parent.id) (λ r. k.start (c.starts + 1) r.id r.site))

choices_avoid : (p : Decision → Bool) → IsNoStart p → (c : Core) (t n : ℕ) → Avoids p (choices_from c t n)
choices_avoid p k c t zero = tt
choices_avoid p k c t (suc n) = or_avoids p (choice_in c t) (choices_from c (t + 1) n) (chosen_avoids p k c t (current_in c t)) (choices_avoid p k c (t + 1) n)

starts_avoid : (p : Decision → Bool) → IsNoStart p → (c : Core) → Avoids p (next_start_in c)
starts_avoid p k c = if_avoids p (nat_lt c.starts (2 ^ 48)) (choices_from c 0 c.transports) None (choices_avoid p k c 0 c.transports) tt

-- before the clock there is no decision
timed_first : (b : Bool) (o : Option Decision) (d : Decision) → (if not b then None else o) ≡ Some d → o ≡ Some d
timed_first true o d e = e
timed_first false o d e = cc

skip_rare : IsRare is_skip
skip_rare = record { log = λ id f. refl; mark = λ id k. refl; sync = λ id. refl; defer = λ id due. refl; back = λ id. refl; bounce = λ id. refl; remove = λ id. refl; corrupt = λ id place. refl; look_active = refl; look_incoming = refl; look_deferred = λ s. refl }

skip_no_start : IsNoStart is_skip
skip_no_start = record { preempt = λ child parent transport need. refl; start = λ number id site. refl }

admit_rare : IsRare is_admit
admit_rare = record { log = λ id f. refl; mark = λ id k. refl; sync = λ id. refl; defer = λ id due. refl; back = λ id. refl; bounce = λ id. refl; remove = λ id. refl; corrupt = λ id place. refl; look_active = refl; look_incoming = refl; look_deferred = λ s. refl }

admit_no_start : IsNoStart is_admit
admit_no_start = record { preempt = λ child parent transport need. refl; start = λ number id site. refl }

start_rare : IsRare is_start_or_preempt
start_rare = record { log = λ id f. refl; mark = λ id k. refl; sync = λ id. refl; defer = λ id due. refl; back = λ id. refl; bounce = λ id. refl; remove = λ id. refl; corrupt = λ id place. refl; look_active = refl; look_incoming = refl; look_deferred = λ s. refl }

-- a decision that isn't common comes behind the first two rules
behind_two : (p : Decision → Bool) → IsRare p → (c : Core) (d : Decision) → p d ≡ true → decide_in c ≡ Some d → option_or (next_skip_in c) (option_or (next_finish_in c) (clearing_on c)) ≡ Some d
behind_two p k c d h e =
    or_second p (next_sync_in c) (option_or (next_skip_in c) (option_or (next_finish_in c) (clearing_on c))) d (syncs_avoid p k c) h
    (or_second p (first_need_in c) (option_or (next_sync_in c) (option_or (next_skip_in c) (option_or (next_finish_in c) (clearing_on c)))) d (needs_avoid p k c) h
    (or_second p (scan_look_in c.deferred c.scan) (first_rule_in c) d (scan_avoids p c.deferred c.scan k.look_deferred) h
    (timed_first c.timed (option_or (scan_look_in c.deferred c.scan) (first_rule_in c)) d e)))

-- a skip is that of the third rule
pub skip_first : (c : Core) (d : Decision) → is_skip d ≡ true → decide_in c ≡ Some d → next_skip_in c ≡ Some d
skip_first c d h e =
    or_first is_skip (next_skip_in c) (option_or (next_finish_in c) (clearing_on c)) d
    (or_avoids is_skip (next_finish_in c) (clearing_on c) (finishes_avoid is_skip skip_rare c)
    (or_avoids is_skip (next_clearing_in c c.active) (option_or (next_admission_in c c.incoming) (option_or (next_read_in c) (next_start_in c))) (clearing_avoids is_skip skip_rare c c.active)
    (or_avoids is_skip (next_admission_in c c.incoming) (option_or (next_read_in c) (next_start_in c)) (admissions_avoid is_skip skip_rare (λ id place. refl) c)
    (or_avoids is_skip (next_read_in c) (next_start_in c) (reads_avoid is_skip (λ id from max. refl) c) (starts_avoid is_skip skip_no_start c)))))
    h (behind_two is_skip skip_rare c d h e)

behind_clearing : (p : Decision → Bool) → IsRare p → ((id : Id) (site : Site) (entry : ℕ) → p (decisions.Skip id site entry) ≡ false) → (c : Core) (d : Decision) → p d ≡ true → decide_in c ≡ Some d →
    option_or (next_admission_in c c.incoming) (option_or (next_read_in c) (next_start_in c)) ≡ Some d
behind_clearing p k s c d h e =
    or_second p (next_clearing_in c c.active) (option_or (next_admission_in c c.incoming) (option_or (next_read_in c) (next_start_in c))) d (clearing_avoids p k c c.active) h
    (or_second p (next_finish_in c) (clearing_on c) d (finishes_avoid p k c) h
    (or_second p (next_skip_in c) (option_or (next_finish_in c) (clearing_on c)) d (skips_avoid p s c) h (behind_two p k c d h e)))

-- an admission is that of the sixth
pub admit_first : (c : Core) (d : Decision) → is_admit d ≡ true → decide_in c ≡ Some d → next_admission_in c c.incoming ≡ Some d
admit_first c d h e =
    or_first is_admit (next_admission_in c c.incoming) (option_or (next_read_in c) (next_start_in c)) d
    (or_avoids is_admit (next_read_in c) (next_start_in c) (reads_avoid is_admit (λ id from max. refl) c) (starts_avoid is_admit admit_no_start c))
    h (behind_clearing is_admit admit_rare (λ id site entry. refl) c d h e)

-- of two rules the first has nothing, where it has nothing that passes and something passes
pub none_of : (p : Decision → Bool) (o q : Option Decision) (d : Decision) → Avoids p o → p d ≡ true → option_or o q ≡ Some d → o ≡ None
none_of p None q d a h e = refl
none_of p (Some x) q d a h e = let same : x ≡ d = cc in let bad : true ≡ false = sym h ∙ ap p (sym same) ∙ a in cc

timed_true : (b : Bool) (o : Option Decision) (d : Decision) → (if not b then None else o) ≡ Some d → b ≡ true
timed_true true o d e = refl
timed_true false o d e = cc

abbrev pub is_read : Decision → Bool
is_read (decisions.Read id from max) = true
is_read _ = false

read_rare : IsRare is_read
read_rare = record { log = λ id f. refl; mark = λ id k. refl; sync = λ id. refl; defer = λ id due. refl; back = λ id. refl; bounce = λ id. refl; remove = λ id. refl; corrupt = λ id place. refl; look_active = refl; look_incoming = refl; look_deferred = λ s. refl }

-- where a decision is one of the last two rules, no rule before them has anything
pub record IsBehind (c : Core) (d : Decision) : Type 0 where
  pub timed : c.timed ≡ true
  pub needs : first_need_in c ≡ None
  pub syncs : next_sync_in c ≡ None
  pub skips : next_skip_in c ≡ None
  pub finishes : next_finish_in c ≡ None
  pub clearing : next_clearing_in c c.active ≡ None
  pub admission : next_admission_in c c.incoming ≡ None
  pub last : option_or (next_read_in c) (next_start_in c) ≡ Some d

behind_admission : (p : Decision → Bool) → IsRare p → ((id : Id) (site : Site) (entry : ℕ) → p (decisions.Skip id site entry) ≡ false) → ((id : Id) (place : Place) → p (decisions.Admit id place) ≡ false) →
    (c : Core) (d : Decision) → p d ≡ true → decide_in c ≡ Some d → IsBehind c d
behind_admission p k no_skip no_admit c d h e =
    let from_read = option_or (next_read_in c) (next_start_in c) in
    let from_admission = option_or (next_admission_in c c.incoming) from_read in
    let from_finish = option_or (next_finish_in c) (clearing_on c) in
    let from_skip = option_or (next_skip_in c) from_finish in
    let from_sync = option_or (next_sync_in c) from_skip in
    let e0 = timed_first c.timed (option_or (scan_look_in c.deferred c.scan) (first_rule_in c)) d e in
    let e1 = or_second p (scan_look_in c.deferred c.scan) (first_rule_in c) d (scan_avoids p c.deferred c.scan k.look_deferred) h e0 in
    let e2 = or_second p (first_need_in c) from_sync d (needs_avoid p k c) h e1 in
    let e3 = or_second p (next_sync_in c) from_skip d (syncs_avoid p k c) h e2 in
    let e4 = or_second p (next_skip_in c) from_finish d (skips_avoid p no_skip c) h e3 in
    let e5 = or_second p (next_finish_in c) (clearing_on c) d (finishes_avoid p k c) h e4 in
    let e6 = or_second p (next_clearing_in c c.active) from_admission d (clearing_avoids p k c c.active) h e5 in
    record {
      timed = timed_true c.timed (option_or (scan_look_in c.deferred c.scan) (first_rule_in c)) d e;
      needs = none_of p (first_need_in c) from_sync d (needs_avoid p k c) h e1;
      syncs = none_of p (next_sync_in c) from_skip d (syncs_avoid p k c) h e2;
      skips = none_of p (next_skip_in c) from_finish d (skips_avoid p no_skip c) h e3;
      finishes = none_of p (next_finish_in c) (clearing_on c) d (finishes_avoid p k c) h e4;
      clearing = none_of p (next_clearing_in c c.active) from_admission d (clearing_avoids p k c c.active) h e5;
      admission = none_of p (next_admission_in c c.incoming) from_read d (admissions_avoid p k no_admit c) h e6;
      last = or_second p (next_admission_in c c.incoming) from_read d (admissions_avoid p k no_admit c) h e6;
    }

-- a read is that of the seventh rule
pub read_first : (c : Core) (d : Decision) → is_read d ≡ true → decide_in c ≡ Some d → IsBehind c d × (next_read_in c ≡ Some d)
read_first c d h e =
    let k = behind_admission is_read read_rare (λ id site entry. refl) (λ id place. refl) c d h e in
    (k, or_first is_read (next_read_in c) (next_start_in c) d (starts_avoid is_read (record { preempt = λ child parent transport need. refl; start = λ number id site. refl }) c) h k.last)

-- a start and a preemption are those of the last
pub start_first : (c : Core) (d : Decision) → is_start_or_preempt d ≡ true → decide_in c ≡ Some d → IsBehind c d × (next_read_in c ≡ None) × (next_start_in c ≡ Some d)
start_first c d h e =
    let k = behind_admission is_start_or_preempt start_rare (λ id site entry. refl) (λ id place. refl) c d h e in (
      k,
      none_of is_start_or_preempt (next_read_in c) (next_start_in c) d (reads_avoid is_start_or_preempt (λ id from max. refl) c) h k.last,
      or_second is_start_or_preempt (next_read_in c) (next_start_in c) d (reads_avoid is_start_or_preempt (λ id from max. refl) c) h k.last,
    )

abbrev pub is_corrupt : Decision → Bool
is_corrupt (decisions.Corrupt id place) = true
is_corrupt _ = false

corrupt_no_start : IsNoStart is_corrupt
corrupt_no_start = record { preempt = λ child parent transport need. refl; start = λ number id site. refl }

-- no idle message in memory has a record that can't be read
abbrev pub is_whole : Core → Bool
is_whole c = option_map_or (λ s. not s.damaged) (find (λ s. is_idle_in c s.id) c.admitted) true

corrupt_slot : (c : Core) (s : Slot) (b : Bool) → s.damaged ≡ b → not b ≡ true → Avoids is_corrupt (if nat_lt 0 s.marks then None else (if b then Some (decisions.Corrupt s.id places.Active) else whole_finish c s))
corrupt_slot c s true e h = cc
corrupt_slot c s false e h = if_avoids is_corrupt (nat_lt 0 s.marks) None (whole_finish c s) tt (whole_avoids is_corrupt c s refl refl refl)

corrupt_finish : (c : Core) (o : Option Slot) → option_map_or (λ s. not s.damaged) o true ≡ true → Avoids is_corrupt (option_and_then (finish_in c) o)
corrupt_finish c None h = tt
corrupt_finish c (Some s) h = corrupt_slot c s s.damaged refl h

-- a file goes to corrupt by the fifth rule, or behind it by the sixth
corrupt_behind : (c : Core) (id : Id) (place : Place) → is_whole c ≡ true → decide_in c ≡ Some (decisions.Corrupt id place) → clearing_on c ≡ Some (decisions.Corrupt id place)
corrupt_behind c id place whole e =
    let d = decisions.Corrupt id place in
    let p = is_corrupt in
    let from_finish = option_or (next_finish_in c) (clearing_on c) in
    let from_skip = option_or (next_skip_in c) from_finish in
    let from_sync = option_or (next_sync_in c) from_skip in
    let e0 = timed_first c.timed (option_or (scan_look_in c.deferred c.scan) (first_rule_in c)) d e in
    let e1 = or_second p (scan_look_in c.deferred c.scan) (first_rule_in c) d (scan_avoids p c.deferred c.scan (λ s. refl)) refl e0 in
    let e2 = or_second p (first_need_in c) from_sync d (need_avoids p (slice_get c.unsettled 0) (λ k f. refl) (λ k n. refl)) refl e1 in
    let e3 = or_second p (next_sync_in c) from_skip d (slot_avoids p (λ s. decisions.Sync s.id) (find (wants_sync_in c) c.admitted) (λ s. refl)) refl e2 in
    let e4 = or_second p (next_skip_in c) from_finish d (skips_avoid p (λ k site entry. refl) c) refl e3 in
    or_second p (next_finish_in c) (clearing_on c) d (corrupt_finish c (find (λ s. is_idle_in c s.id) c.admitted) whole) refl e4

-- the looks that an admission rests on were made
pub incoming_known : (c : Core) (d : Decision) (seen : Seen) (b : Bool) → (d ≡ decisions.LookIncoming → ⊥) → (if not b then None else admission_seen c seen) ≡ Some d → is_known seen ≡ true
incoming_known c d Unknown true n e = let same : decisions.LookIncoming ≡ d = cc in absurd (n (sym same))
incoming_known c d (Known found) true n e = refl
incoming_known c d seen false n e = cc

active_known : (c : Core) (seen : Seen) → next_clearing_in c seen ≡ None → is_known seen ≡ true
active_known c Unknown e = cc
active_known c (Known found) e = refl

same_decision : (x y : Decision) → ◌≡◌ {A = Option Decision} (Some x) (Some y) → x ≡ y
same_decision x y e = cc

cleared_damaged : (c : Core) (id : Id) (place : Place) (f : Found) → clear_found_in c f ≡ Some (decisions.Corrupt id place) → shows_damaged (Known f) id ≡ true
cleared_damaged c id place Nothing e = cc
cleared_damaged c id place (Damaged k due true) e = let same : k ≡ id = cc in ap (λ i. id_eq i id) same ∙ id_eq-same id
cleared_damaged c id place (Damaged k due false) e = cc
cleared_damaged c id place (Whole k due f) e =
    let bad = sym (ap is_corrupt (same_decision (option_map_or (λ position. decisions.Mark k position) f.unmarked (clear_marked_in (is_synced_in c k) k f)) (decisions.Corrupt id place) e))
    ∙ clear_avoids is_corrupt (is_synced_in c k) k f f.unmarked (λ n. refl) (marked_avoids is_corrupt (is_synced_in c k) (nat_lt 0 (file_pending f)) (file_wants_bounce f k && not f.bounced) (decisions.Sync k) (decisions.Back k) (decisions.Bounce k) (decisions.Remove k) refl refl refl refl) in
    cc

damaged_shown : (c : Core) (id : Id) (place : Place) (seen : Seen) → next_clearing_in c seen ≡ Some (decisions.Corrupt id place) → shows_damaged seen id ≡ true
damaged_shown c id place Unknown e = cc
damaged_shown c id place (Known f) e = cleared_damaged c id place f e

-- a file that active didn't show was taken from incoming or deferred
pub record IsCorruptPicked (c : Core) : Type 0 where
  pub active : is_known c.active ≡ true
  pub incoming : is_known c.incoming ≡ true

corrupt_at : (c : Core) (id : Id) (place : Place) (o : Option Decision) → next_clearing_in c c.active ≡ o → option_or o (option_or (next_admission_in c c.incoming) (option_or (next_read_in c) (next_start_in c))) ≡ Some (decisions.Corrupt id place) →
    shows_damaged c.active id ≡ false → IsCorruptPicked c
corrupt_at c id place (Some x) e h hidden = let same : x ≡ decisions.Corrupt id place = cc in let bad : true ≡ false = sym (damaged_shown c id place c.active (e ∙ h)) ∙ hidden in cc
corrupt_at c id place None e h hidden =
    let p = is_corrupt in
    let taken = or_first p (next_admission_in c c.incoming) (option_or (next_read_in c) (next_start_in c)) (decisions.Corrupt id place)
    (or_avoids p (next_read_in c) (next_start_in c) (reads_avoid p (λ k from max. refl) c) (starts_avoid p corrupt_no_start c)) refl h in
    record {
      active = active_known c c.active e;
      incoming = incoming_known c (decisions.Corrupt id place) c.incoming (has_message_room_in c) (λ s. let bad : true ≡ false = ap is_corrupt s in cc) taken;
    }

pub corrupt_picked_parts : (c : Core) (id : Id) (place : Place) → is_whole c ≡ true → decide_in c ≡ Some (decisions.Corrupt id place) → shows_damaged c.active id ≡ false → IsCorruptPicked c
corrupt_picked_parts c id place whole e hidden = corrupt_at c id place (next_clearing_in c c.active) refl (corrupt_behind c id place whole e) hidden

-- incoming was looked at before an admission
pub admit_known : (c : Core) (id : Id) (place : Place) → decide_in c ≡ Some (decisions.Admit id place) → is_known c.incoming ≡ true
admit_known c id place e =
    incoming_known c (decisions.Admit id place) c.incoming (has_message_room_in c) (λ s. let bad : true ≡ false = ap is_admit s in cc) (admit_first c (decisions.Admit id place) refl e)
