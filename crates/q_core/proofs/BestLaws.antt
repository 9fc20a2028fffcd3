-- The message that preempts, as the schedule finds it.
use Rattle.std.proofs.Common.{◌≡◌, ◌∙◌, ◌∷◌, ◌*◌, ◌+◌, ◌-◌, ◌<◌, ◌^◌, [], ap, arith, Bool, cond, false, List, map, None, not, Option, option_map, option_and_then, refl, Some, subst, sym, true, ℕ}
use Rattle.std.proofs.lemmas.Bool.{and_from, and_parts, eq-eqb, eqb-true, lt-ltb, ltb-true}
use Rattle.std.specs.List.{AllByRecursion, list_all}
use Rattle.std.specs.Option.{option_map_or}
use Rattle.std.specs.Prelude.{◌&&◌, ◌==◌, count_by, filter, nat_le, nat_lt}
use Rattle.q_core.proofs.ChoiceLaws.{least-map, least-same, list_all-filter}
use Rattle.q_core.proofs.EarlyLaws.{no_process}
use Rattle.q_core.proofs.LineSteps.{able_behind}
use Rattle.q_core.proofs.ListLaws.{filter-map}
use Rattle.q_core.specs.Choosing.{best_in, candidate_slot, current_in, is_better_in, is_fresh_among, is_fresh_in, job_left_in, jobs_at, pays_in}
use Rattle.q_core.specs.declared.state.Core.{Core}
use Rattle.q_core.specs.Held.{slot_in, unread_in}
use Rattle.q_core.specs.RowWalks.{is_row_for}
use Rattle.q_core.specs.Starting.{can_start_in, flights_at}
use Rattle.q_core.specs.Ties.{admitted_of}
use Rattle.q_dest.specs.declared.dest.Dest.{Dest}
use Rattle.q_jobs.specs.declared.job.Job.{Job}
use Rattle.q_jobs.specs.Jobs.{AreOfOthers, behind_jobs}
use Rattle.q_model.specs.declared.id.Id.{Id}
use Rattle.q_model.specs.Ids.{id_eq}
use Rattle.q_model.specs.Lists.{least}
use Rattle.q_pool.specs.declared.slot.Slot.{Slot}
use Rattle.q_pool.specs.Kept.{unread_of}
use Rattle.q_rounds.specs.declared.peer.Peer.{Peer}
use Rattle.q_rounds.specs.Rounds.{rows_left}
use Rattle.q_schedule.proofs.Leasts.{least_holds}
use Rattle.q_schedule.specs.declared.admitted.Admitted.{Admitted}
use Rattle.q_schedule.specs.Schedule.{is_better, may_preempt}
use Rattle.q_schedule.specs.Schedule.{best_in as best_of}
use Rattle.q_turns.specs.Turns.{is_able}

-- Bool
none_last : (f s l : Bool) → (f && s && l && false) ≡ false
none_last true true true = refl
none_last true true false = refl
none_last true false l = refl
none_last false s l = refl

-- the message that is left out isn't behind the current one
is_out : (n f g s p l : Bool) → false ≡ (g && s) → (n && g && s && p) ≡ (f && s && l && false)
is_out true f true true p l h = absurd cc
is_out true f true false p l h = sym (none_last f false l)
is_out true f false s p l h = sym (none_last f s l)
is_out false f g s p l h = sym (none_last f s l)

is_in : (n f g s p l : Bool) → (f && s) ≡ (g && s) → (n && p) ≡ l → (n && g && s && p) ≡ (f && s && l && true)
is_in true true true true p true h k = k
is_in true true true true p false h k = k
is_in true true true false p l h k = refl
is_in true true false true p l h k = absurd cc
is_in true true false false p l h k = refl
is_in true false true true p l h k = absurd cc
is_in true false true false p l h k = refl
is_in true false false s p l h k = refl
is_in false true g true p true h k = absurd cc
is_in false true g true p false h k = refl
is_in false true g false p l h k = refl
is_in false false g s p l h k = refl

arranged : (n f g s p e l : Bool) → (not e && f && s) ≡ (g && s) → (n && p) ≡ l → (n && g && s && p) ≡ (f && s && l && not e)
arranged n f g s p true l h k = is_out n f g s p l h
arranged n f g s p false l h k = is_in n f g s p l h k

-- tests that agree on those that pass another one keep the same
kept_step : {X : Type 0} (x : X) (a b : Bool) (xs ys : List X) → a ≡ b → xs ≡ ys → cond a (x ∷ xs) xs ≡ cond b (x ∷ ys) ys
kept_step x a b xs ys h k = ap (λ c. cond c (x ∷ xs) xs) h ∙ ap (λ zs. cond b (x ∷ zs) zs) k

pub filter_where : {X : Type 0} (q p r : X → Bool) → ((x : X) → q x ≡ true → p x ≡ r x) → (xs : List X) → list_all q xs ≡ true → filter p xs ≡ filter r xs
filter_where q p r same [] all = refl
filter_where q p r same (x ∷ xs) all =
    let parts = and_parts (q x) (list_all q xs) all in
    kept_step x (p x) (r x) (filter p xs) (filter r xs) (same x parts.0) (filter_where q p r same xs parts.1)

module _ (c : Core) (ds : List Dest) (ps : List Peer) (t most : ℕ) (parent : Job) (rows : (id : Id) → rows_left id t ps ≡ count_by (is_row_for id t) c.waiting) (able : (id : Id) → is_able ds ps t id ≡ can_start_in c t id) (apart : AreOfOthers (jobs_at c t)) (current : current_in c t ≡ Some parent)
    (pays : (need : ℕ) → need < 2 ^ 64 → (not (c.params.slot_cost == 0) && pays_in c.params parent (job_left_in c t parent.id) need) ≡ nat_le need most) where
  -- what is unread of it is what its slot says, and it isn't too much
  abbrev is_known : Slot → Bool
  is_known s = (unread_in c s.id == unread_of s) && nat_lt (job_left_in c t s.id) (2 ^ 64)

  same_unread : (s : Slot) → is_known s ≡ true → unread_in c s.id ≡ unread_of s
  same_unread s h = eqb-true (unread_in c s.id) (unread_of s) (and_parts (unread_in c s.id == unread_of s) (nat_lt (job_left_in c t s.id) (2 ^ 64)) h).0

  few_left : (s : Slot) → is_known s ≡ true → job_left_in c t s.id < 2 ^ 64
  few_left s h = ltb-true (job_left_in c t s.id) (2 ^ 64) (and_parts (unread_in c s.id == unread_of s) (nat_lt (job_left_in c t s.id) (2 ^ 64)) h).1

  abbrev may : Slot → Bool
  may s = may_preempt ds c.lines ps t most parent.id (admitted_of s)

  abbrev better : Slot → Slot → Bool
  better a b = is_better ps t c.clock.seconds (admitted_of a) (admitted_of b)

  job_left_is : (s : Slot) → is_known s ≡ true → rows_left s.id t ps + unread_of s ≡ job_left_in c t s.id
  job_left_is s h = ap (λ n. n + unread_of s) (rows s.id) ∙ ap (λ n. count_by (is_row_for s.id t) c.waiting + n) (sym (same_unread s h))

  may_same : (s : Slot) → is_known s ≡ true → candidate_slot c t (behind_jobs parent.id (jobs_at c t)) parent s ≡ may s
  may_same s h =
      arranged (not (c.params.slot_cost == 0)) (is_fresh_in (jobs_at c t) s.id) (is_fresh_among (behind_jobs parent.id (jobs_at c t)) s.id) (can_start_in c t s.id) (pays_in c.params parent (job_left_in c t parent.id) (job_left_in c t s.id)) (id_eq s.id parent.id) (nat_le (job_left_in c t s.id) most)
      (able_behind (can_start_in c t) s.id parent (jobs_at c t) apart current) (pays (job_left_in c t s.id) (few_left s h))
      ∙ ap (λ b. is_fresh_in (jobs_at c t) s.id && b && nat_le (job_left_in c t s.id) most && not (id_eq s.id parent.id)) (sym (able s.id))
      ∙ ap (λ n. is_fresh_in (jobs_at c t) s.id && is_able ds ps t s.id && nat_le n most && not (id_eq s.id parent.id)) (sym (job_left_is s h))

  better_same : (a b : Slot) → is_known a ≡ true → is_known b ≡ true → is_better_in c t a b ≡ better a b
  better_same a b h k =
      ap (λ n. nat_lt ((c.clock.seconds - b.arrival + 1) * n) ((c.clock.seconds - a.arrival + 1) * job_left_in c t b.id)) (sym (job_left_is a h))
      ∙ ap (λ n. nat_lt ((c.clock.seconds - b.arrival + 1) * (rows_left a.id t ps + unread_of a)) ((c.clock.seconds - a.arrival + 1) * n)) (sym (job_left_is b k))

  known_all : (slots : List Slot) → AllByRecursion (λ s. slot_in c s.id ≡ Some s) slots → AllByRecursion (λ s. job_left_in c t s.id < 2 ^ 64) slots → list_all is_known slots ≡ true
  known_all [] all few = refl
  known_all (s ∷ slots) all few =
      ap (λ b. b && list_all is_known slots)
      (and_from (unread_in c s.id == unread_of s) (nat_lt (job_left_in c t s.id) (2 ^ 64)) (eq-eqb (unread_in c s.id) (unread_of s) (ap (λ o. option_map_or unread_of o 0) all.0)) (lt-ltb (job_left_in c t s.id) (2 ^ 64) few.0))
      ∙ known_all slots all.1 few.1

  -- the best of both
  best_mapped : (slots : List Slot) → list_all is_known slots ≡ true → least (is_better ps t c.clock.seconds) (filter (may_preempt ds c.lines ps t most parent.id) (map admitted_of slots))
      ≡ option_map admitted_of (least (is_better_in c t) (filter (candidate_slot c t (behind_jobs parent.id (jobs_at c t)) parent) slots))
  best_mapped slots all =
      ap (least (is_better ps t c.clock.seconds)) (filter-map (may_preempt ds c.lines ps t most parent.id) admitted_of slots)
      ∙ least-map (is_better ps t c.clock.seconds) admitted_of (filter may slots)
      ∙ ap (option_map admitted_of)
      (sym (least-same (is_better_in c t) better is_known better_same (filter may slots) (list_all-filter is_known may slots all))
      ∙ ap (least (is_better_in c t)) (sym (filter_where is_known (candidate_slot c t (behind_jobs parent.id (jobs_at c t)) parent) may may_same slots all)))

  all_found : (slots : List Slot) → AllByRecursion (λ s. slot_in c s.id ≡ Some s) slots → AllByRecursion (λ s. candidate_slot c t (behind_jobs parent.id (jobs_at c t)) parent s ≡ true → slot_in c s.id ≡ Some s) slots
  all_found [] all = tt
  all_found (s ∷ slots) all = ((λ h. all.0), all_found slots all.1)

  slot_step : (o : Option Slot) → best_in c t (behind_jobs parent.id (jobs_at c t)) parent ≡ o → ((s : Slot) → o ≡ Some s → slot_in c s.id ≡ Some s) → option_and_then (slot_in c) (option_map (λ (m : Admitted). m.id) (option_map admitted_of o)) ≡ o
  slot_step None is there = refl
  slot_step (Some s) is there = there s refl

  -- the slot of the message that the schedule finds
  pub best_found : (ms : List Admitted) (o : Option Id) → ms ≡ map admitted_of c.admitted → AllByRecursion (λ s. slot_in c s.id ≡ Some s) c.admitted → AllByRecursion (λ s. job_left_in c t s.id < 2 ^ 64) c.admitted → o ≡ option_map (λ (m : Admitted). m.id) (best_of ds c.lines ps t most c.clock.seconds parent.id ms) →
      option_and_then (slot_in c) o ≡ best_in c t (behind_jobs parent.id (jobs_at c t)) parent
  best_found ms o tied found few is =
      ap (option_and_then (slot_in c))
      (is ∙ ap (λ xs. option_map (λ (m : Admitted). m.id) (best_of ds c.lines ps t most c.clock.seconds parent.id xs)) tied
      ∙ ap (option_map (λ (m : Admitted). m.id)) (best_mapped c.admitted (known_all c.admitted found few)))
      ∙ slot_step (best_in c t (behind_jobs parent.id (jobs_at c t)) parent) refl
      (λ s h. least_holds (is_better_in c t) (candidate_slot c t (behind_jobs parent.id (jobs_at c t)) parent) (λ x. slot_in c x.id ≡ Some x) c.admitted (all_found c.admitted found) s h)

-- no message pays
none_step : (n g s p : Bool) → (n && p) ≡ false → (n && g && s && p) ≡ false
none_step true true true p h = h
none_step true true false p h = refl
none_step true false s p h = refl
none_step false g s p h = refl

none_kept : {X : Type 0} (p : X → Bool) (xs : List X) → AllByRecursion (λ x. p x ≡ false) xs → filter p xs ≡ []
none_kept p [] all = refl
none_kept p (x ∷ xs) all = ap (λ b. cond b (x ∷ filter p xs) (filter p xs)) all.0 ∙ none_kept p xs all.1

module _ (c : Core) (t : ℕ) (parent : Job) (pays : (need : ℕ) → need < 2 ^ 64 → (not (c.params.slot_cost == 0) && pays_in c.params parent (job_left_in c t parent.id) need) ≡ false) where
  none_pay : (behind : List Job) (slots : List Slot) → AllByRecursion (λ s. job_left_in c t s.id < 2 ^ 64) slots → AllByRecursion (λ s. candidate_slot c t behind parent s ≡ false) slots
  none_pay behind [] few = tt
  none_pay behind (s ∷ slots) few =
      (none_step (not (c.params.slot_cost == 0)) (is_fresh_among behind s.id) (can_start_in c t s.id) (pays_in c.params parent (job_left_in c t parent.id) (job_left_in c t s.id)) (pays (job_left_in c t s.id) few.0), none_pay behind slots few.1)

  pub none_best : (behind : List Job) → AllByRecursion (λ s. job_left_in c t s.id < 2 ^ 64) c.admitted → best_in c t behind parent ≡ None
  none_best behind few = ap (least (is_better_in c t)) (none_kept (candidate_slot c t behind parent) c.admitted (none_pay behind c.admitted few))

-- what a message has left is few
few_unread : (ms : List Admitted) (slots : List Slot) → ms ≡ map admitted_of slots → AllByRecursion (λ m. m.unread < 2 ^ 32) ms → AllByRecursion (λ s. unread_of s < 2 ^ 32) slots
few_unread ms slots tied few = step slots (subst (λ xs. AllByRecursion (λ m. m.unread < 2 ^ 32) xs) tied few)
  where
    step : (slots : List Slot) → AllByRecursion (λ m. m.unread < 2 ^ 32) (map admitted_of slots) → AllByRecursion (λ s. unread_of s < 2 ^ 32) slots
    step [] few = tt
    step (s ∷ slots) few = (few.0, step slots few.1)

few_job_left_step : (c : Core) (t : ℕ) (bound : (id : Id) → count_by (is_row_for id t) c.waiting < 2 ^ 30) (slots : List Slot) → AllByRecursion (λ s. slot_in c s.id ≡ Some s) slots → AllByRecursion (λ s. unread_of s < 2 ^ 32) slots → AllByRecursion (λ s. job_left_in c t s.id < 2 ^ 64) slots
few_job_left_step c t bound [] found few = tt
few_job_left_step c t bound (s ∷ slots) found few =
    let unread : unread_in c s.id ≡ unread_of s = ap (λ o. option_map_or unread_of o 0) found.0 in
    (omega (arith, unread, few.0, bound s.id), few_job_left_step c t bound slots found.1 few.1)

pub few_job_left : (c : Core) (t : ℕ) (ms : List Admitted) → ((id : Id) → count_by (is_row_for id t) c.waiting < 2 ^ 30) → ms ≡ map admitted_of c.admitted → AllByRecursion (λ s. slot_in c s.id ≡ Some s) c.admitted → AllByRecursion (λ m. m.unread < 2 ^ 32) ms → AllByRecursion (λ s. job_left_in c t s.id < 2 ^ 64) c.admitted
few_job_left c t ms bound tied found few = few_job_left_step c t bound c.admitted found (few_unread ms c.admitted tied few)

-- a current job begins something, so it may
process_step : (c : Core) (t : ℕ) (parent : Job) (b : Bool) → nat_lt (flights_at c t) c.params.process_limit ≡ b → current_in c t ≡ Some parent → b ≡ true
process_step c t parent true is current = refl
process_step c t parent false is current = let bad : None ≡ Some parent = sym (no_process c t is) ∙ current in cc

pub has_process : (c : Core) (t : ℕ) (parent : Job) → current_in c t ≡ Some parent → nat_lt (flights_at c t) c.params.process_limit ≡ true
has_process c t parent current = process_step c t parent (nat_lt (flights_at c t) c.params.process_limit) refl current
