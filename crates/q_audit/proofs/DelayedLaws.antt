-- How many deliveries go before a preempted job is bounded by the recipients of its message.
use Rattle.std.proofs.Common.{◌≡◌, ◌≢◌, ℕ, ◌+◌, ◌-◌, ◌*◌, ◌^◌, ◌≤◌, ◌<◌, ◌++◌, Bool, true, false, List, [], ◌∷◌, map, filter, Option, Some, None, not, refl, sym, ap, ◌∙◌, subst, arith, cond, if◌then◌else◌, eqb-true, ltb-true, le-leb}
use Rattle.std.proofs.Math.Nat.{le-mul_of_pos_right, le_trans}
use Rattle.std.proofs.lemmas.Bool.{and_from, and_parts}
use Rattle.std.proofs.lemmas.List.{map-append}
use Rattle.std.specs.List.{list_all, list_any}
use Rattle.std.specs.Option.{option_map_or}
use Rattle.std.specs.Prelude.{◌==◌, ◌&&◌, min}
use Rattle.q_audit.proofs.SinceLaws.{AreSince, IsSince, since_goes_on}
use Rattle.q_audit.specs.Delays.{Delay, delay_by, delays, first_delay, Preempted, preempted_by, recipients_of, was_preempted}
use Rattle.q_audit.specs.ReportLaws.{capped, has_few, is_bounded}
use Rattle.q_inflation.proofs.Falling.{entry_may}
use Rattle.q_inflation.proofs.Inflation.{job_inflation}
use Rattle.q_laws.proofs.Kept.{entry_consistent}
use Rattle.q_laws.proofs.Members.{all_at, any_in, find_in}
use Rattle.q_laws.specs.Consistency.{IsConsistent}
use Rattle.q_laws.specs.Traces.{AreEntriesOf}
use Rattle.q_model.proofs.IdLaws.{id_eq-true}
use Rattle.q_model.specs.Accounts.{job_left, starts_of}
use Rattle.q_model.specs.Candidates.{candidates, ids_behind, is_better, is_candidate, pays}
use Rattle.q_model.specs.Ids.{id_eq}
use Rattle.q_model.specs.Ledger.{Ledger}
use Rattle.q_model.specs.Lists.{least}
use Rattle.q_model.specs.Memory.{is_admitted}
use Rattle.q_model.specs.Preemptions.{is_best, is_current}
use Rattle.q_model.specs.PreemptingStarts.{preempting_starts}
use Rattle.q_model.specs.Settings.{World}
use Rattle.q_model.specs.Startable.{can_start, current, is_startable, line_of}
use Rattle.q_model.specs.Step.{after, after_all, may}
use Rattle.q_model.specs.declared.entry.Entry.{Entry}
use Rattle.q_model.specs.declared.id.Id.{Id}
use Rattle.q_model.specs.declared.rows.Admitted.{Admitted}
use Rattle.q_model.specs.declared.rows.Row.{Row}
use Rattle.q_model.specs.declared.entry.Entry.TheVariants as entries
use Rattle.q_tallies.proofs.LaterLaws.{later}

-- ---- who is preempted is in memory, and slots cost something

starter_admitted : (w : World) (l : Ledger) (t : ℕ) (id : Id) → IsConsistent w l → can_start w l t id ≡ true → is_admitted l id ≡ true
starter_admitted w l t id c h =
    let one = any_in (λ (r : Row). id_eq r.id id && (r.site.transport == t) && is_startable w l r) l.waiting h in
    let parts = and_parts (id_eq (one.0).id id && ((one.0).site.transport == t)) (is_startable w l one.0) one.2 in
    let name = id_eq-true (one.0).id id (and_parts (id_eq (one.0).id id) ((one.0).site.transport == t) parts.0).0 in
    subst (λ (i : Id). is_admitted l i ≡ true) name (all_at (λ (r : Row). is_admitted l r.id) one.0 l.waiting c.memory.waiting one.1)

current_admitted : (w : World) (l : Ledger) (t : ℕ) (id : Id) → IsConsistent w l → is_current w l t id ≡ true → is_admitted l id ≡ true
current_admitted w l t id c h = which (current w l t) refl h
  where
    which : (o : Option Id) → current w l t ≡ o → option_map_or (λ (x : Id). id_eq x id) o false ≡ true → is_admitted l id ≡ true
    which None e k = absurd cc
    which (Some x) e k = subst (λ (i : Id). is_admitted l i ≡ true) (id_eq-true x id k) (starter_admitted w l t x c (find_in (can_start w l t) x (line_of l t) e).1)

passed_by_none : (p : Id → Bool) (ids : List Id) → ((id : Id) → p id ≡ false) → filter p ids ≡ []
passed_by_none p [] h = refl
passed_by_none p (i ∷ is) h = ap (λ (b : Bool). cond b (i ∷ filter p is) (filter p is)) (h i) ∙ passed_by_none p is h

costs : (n : ℕ) → (n == 0) ≡ false → n ≢ 1 → 2 ≤ n
costs n some one = which (n == 1) refl
  where
    which : (b : Bool) → (n == 1) ≡ b → 2 ≤ n
    which true e = absurd (one (eqb-true n 1 e))
    which false e = grind (arith, e, some)

no_best : (w : World) (l : Ledger) (t : ℕ) (parent child : Id) → (w.settings.slot_cost == 0) ≡ true → is_best w l t parent child ≡ false
no_best w l t parent child free = ap (λ (ids : List Id). option_map_or (λ (b : Id). id_eq b child) (least (is_better l t) ids) false) none
  where
    none : candidates w l t parent ≡ []
    none = passed_by_none (is_candidate w l t parent) (map (λ (a : Admitted). a.id) l.admitted)
        (λ id. ap (λ (b : Bool). not b && list_any (id_eq id) (ids_behind parent (line_of l t)) && (starts_of l id t == 0) && can_start w l t id && pays w l t parent (job_left l id t)) free)

-- what an entry that preempts says
record IsPreempted (w : World) (l : Ledger) (p : Preempted) : Type 0 where
  admitted : is_admitted l p.id ≡ true
  cost : (w.settings.slot_cost == 0) ≡ false

preempted_is : (w : World) (l : Ledger) (e : Entry) (p : Preempted) → IsConsistent w l → may w l e ≡ true → preempted_by e ≡ Some p → IsPreempted w l p
preempted_is w l (entries.Preempt child parent t need) p c h is =
    let rest = and_parts (is_current w l t parent && is_best w l t parent child) (need == job_left l child t) h in
    let two = and_parts (is_current w l t parent) (is_best w l t parent child) rest.0 in
    let same : record { id = parent; transport = t } ≡ p = cc in
    subst (IsPreempted w l) same (record { admitted = current_admitted w l t parent c two.0; cost = which (w.settings.slot_cost == 0) refl two.1 })
  where
    which : (b : Bool) → (w.settings.slot_cost == 0) ≡ b → is_best w l t parent child ≡ true → b ≡ false
    which false e k = refl
    which true e k = let bad : false ≡ true = sym (no_best w l t parent child e) ∙ k in absurd cc
preempted_is w l e p c h is = absurd cc

-- ---- at one preemption

entries_join : (w : World) (l : Ledger) (es fs : List Entry) → AreEntriesOf w l es → AreEntriesOf w (after_all w l es) fs → AreEntriesOf w l (es ++ fs)
unfolding after_all
entries_join w l [] fs h k = k
entries_join w l (e ∷ es) fs h k = (h.0, entries_join w (after w l e) es fs h.1 k)

bounded_since : (w : World) (l : Ledger) (id : Id) (t : ℕ) (fs : List Entry) → IsSince w l id t → AreEntriesOf w l fs → preempting_starts id t fs * (w.settings.slot_cost - 1) ≤ recipients_of l id
unfolding after_all
bounded_since w l id t fs s h =
    let there : AreEntriesOf w (after_all w s.before (entries.Admit id ∷ s.quiet)) fs = subst (λ (k : Ledger). AreEntriesOf w k fs) (sym s.here) h in
    let all = entries_join w s.before (entries.Admit id ∷ s.quiet) fs s.run there in
    let bound = job_inflation w s.before id t s.message (s.quiet ++ fs) s.consistent all s.there in
    subst (λ (n : ℕ). n * (w.settings.slot_cost - 1) ≤ recipients_of l id) (later id t s.quiet fs s.leaves)
    (subst (λ (n : ℕ). preempting_starts id t (s.quiet ++ fs) * (w.settings.slot_cost - 1) ≤ n) (sym s.recipients) bound)

more_than_one : (n : ℕ) → 2 ≤ n → 0 < n - 1
more_than_one n h = omega (arith, h)

-- ---- each delay

joined_all : {A : Type 0} (p : A → Bool) (xs ys : List A) → list_all p xs ≡ true → list_all p ys ≡ true → list_all p (xs ++ ys) ≡ true
joined_all p [] ys h k = k
joined_all p (x ∷ xs) ys h k = let two = and_parts (p x) (list_all p xs) h in and_from (p x) (list_all p (xs ++ ys)) two.0 (joined_all p xs ys two.1 k)

-- what the trace tells of a job, at its first preemption
abbrev delay_at : Ledger → Preempted → List Entry → Delay
delay_at l p fs = record { id = p.id; transport = p.transport; recipients = recipients_of l p.id; starts = preempting_starts p.id p.transport fs }

module _ (w : World) where
  bounded_by : (l : Ledger) (e : Entry) (es : List Entry) → AreSince w l → IsConsistent w l → AreEntriesOf w l (e ∷ es) → list_all (is_bounded w) (delay_by l e es) ≡ true
  bounded_by l e es since c h = which (preempted_by e) refl
    where
      first : (p : Preempted) → preempted_by e ≡ Some p → (b : Bool) → was_preempted l p.id p.transport ≡ b → list_all (is_bounded w) (if b then [] else delay_at l p (e ∷ es) ∷ []) ≡ true
      first p is true was = refl
      first p is false was =
          let one = preempted_is w l e p c (entry_may w l e c h.0) is in
          let bound = bounded_since w l p.id p.transport (e ∷ es) (since p.id p.transport one.admitted was) h in
          and_from (is_bounded w (delay_at l p (e ∷ es))) true (le-leb (preempting_starts p.id p.transport (e ∷ es) * (w.settings.slot_cost - 1)) (recipients_of l p.id) bound) refl

      which : (o : Option Preempted) → preempted_by e ≡ o → list_all (is_bounded w) (option_map_or (first_delay l (e ∷ es)) o []) ≡ true
      which None is = refl
      which (Some p) is = first p is (was_preempted l p.id p.transport) refl

  -- the starts before each job, times the slot cost less one, are at most its recipients
  pub delays_bounded : (l : Ledger) (es : List Entry) → AreSince w l → IsConsistent w l → AreEntriesOf w l es → list_all (is_bounded w) (delays w l es) ≡ true
  delays_bounded l [] since c h = refl
  delays_bounded l (e ∷ es) since c h =
      joined_all (is_bounded w) (delay_by l e es) (delays w (after w l e) es) (bounded_by l e es since c h)
      (delays_bounded (after w l e) es (since_goes_on w l e since c h.0) (entry_consistent w l e c h.0) h.1)

  whole_by : (l : Ledger) (e : Entry) (es : List Entry) → AreSince w l → IsConsistent w l → AreEntriesOf w l (e ∷ es) → w.settings.slot_cost ≢ 1 → list_all has_few (delay_by l e es) ≡ true
      → map capped (delay_by l e es) ≡ delay_by l e es
  whole_by l e es since c h one few = which (preempted_by e) refl few
    where
      first : (p : Preempted) → preempted_by e ≡ Some p → (b : Bool) → was_preempted l p.id p.transport ≡ b → list_all has_few (if b then [] else delay_at l p (e ∷ es) ∷ []) ≡ true
          → map capped (if b then [] else delay_at l p (e ∷ es) ∷ []) ≡ (if b then [] else delay_at l p (e ∷ es) ∷ [])
      first p is true was few = refl
      first p is false was few =
          let which = preempted_is w l e p c (entry_may w l e c h.0) is in
          let n = preempting_starts p.id p.transport (e ∷ es) in
          let bound : n * (w.settings.slot_cost - 1) ≤ recipients_of l p.id = bounded_since w l p.id p.transport (e ∷ es) (since p.id p.transport which.admitted was) h in
          let most : n ≤ recipients_of l p.id = le_trans (le-mul_of_pos_right n (more_than_one w.settings.slot_cost (costs w.settings.slot_cost which.cost one))) bound in
          let less : recipients_of l p.id < 2 ^ 64 = ltb-true (recipients_of l p.id) (2 ^ 64) (and_parts (has_few (delay_at l p (e ∷ es))) true few).0 in
          let same : min n (2 ^ 64 - 1) ≡ n = omega (arith, most, less) in
          ap (λ (m : ℕ). record { id = p.id; transport = p.transport; recipients = recipients_of l p.id; starts = m } ∷ []) same

      which : (o : Option Preempted) → preempted_by e ≡ o → list_all has_few (option_map_or (first_delay l (e ∷ es)) o []) ≡ true
          → map capped (option_map_or (first_delay l (e ∷ es)) o []) ≡ option_map_or (first_delay l (e ∷ es)) o []
      which None is few = refl
      which (Some p) is few = first p is (was_preempted l p.id p.transport) refl few

  split_all : {A : Type 0} (p : A → Bool) (xs ys : List A) → list_all p (xs ++ ys) ≡ true → (list_all p xs ≡ true) × (list_all p ys ≡ true)
  split_all p [] ys h = (refl, h)
  split_all p (x ∷ xs) ys h =
      let two = and_parts (p x) (list_all p (xs ++ ys)) h in
      let rest = split_all p xs ys two.1 in
      (and_from (p x) (list_all p xs) two.0 rest.0, rest.1)

  -- so they are fewer than 64 bits count
  pub delays_whole : (l : Ledger) (es : List Entry) → AreSince w l → IsConsistent w l → AreEntriesOf w l es → w.settings.slot_cost ≢ 1 → list_all has_few (delays w l es) ≡ true
      → map capped (delays w l es) ≡ delays w l es
  delays_whole l [] since c h one few = refl
  delays_whole l (e ∷ es) since c h one few =
      let two = split_all has_few (delay_by l e es) (delays w (after w l e) es) few in
      map-append capped (delay_by l e es) (delays w (after w l e) es)
      ∙ ap (λ (x : List Delay). x ++ map capped (delays w (after w l e) es)) (whole_by l e es since c h one two.0)
      ∙ ap (λ (x : List Delay). delay_by l e es ++ x) (delays_whole (after w l e) es (since_goes_on w l e since c h.0) (entry_consistent w l e c h.0) h.1 one two.1)
