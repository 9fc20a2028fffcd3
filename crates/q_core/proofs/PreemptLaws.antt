-- A job goes before the current one, which is charged.
use Rattle.q_jobs.specs.Jobs.{moved_job}
use Rattle.std.proofs.Common.{◌≡◌, ℕ, ◌+◌, ◌-◌, ◌*◌, ◌≤◌, ◌<◌, ◌^◌, Bool, true, false, cond, List, [], ◌∷◌, map, min, refl, sym, ap, ◌∙◌, subst, Option, Some, None, option_map, option_and_then, arith, if◌then◌else◌, eqb-true, leb-true, ltb-true, zero, suc, zero-add}
use Rattle.std.proofs.lemmas.List.Sums.{sum_by-cons}
use Rattle.std.specs.List.{enumerate_from, list_all, list_any}
use Rattle.std.specs.Option.{option_map_or}
use Rattle.std.specs.Prelude.{◌&&◌, ◌||◌, ◌==◌, filter, IsTrue, nat_le, nat_lt, not, slice_get}
use Rattle.q_core.proofs.AccountLaws.{job_charged, lines_changed, map-twice, starts_of-le}
use Rattle.q_core.proofs.ChosenLaws.{some_given}
use Rattle.q_core.proofs.JobLaws.{moved_map}
use Rattle.q_core.proofs.ListLaws.{length-numbered}
use Rattle.q_core.proofs.NameLaws.{and_true_parts, id_eq-same, id_eq-true, or_right}
use Rattle.q_core.proofs.TidyLaws.{tidy_law}
use Rattle.q_core.proofs.StartLaws.{same_job_left}
use Rattle.q_core.proofs.StepLaws.{HoldsRaw, IsStillSeen, raw_law}
use Rattle.q_core.specs.Agrees.{Agrees, AgreesButScan, Matches, job_of, jobs_of}
use Rattle.q_core.specs.Sending.{charged_job, IsPreempted, moved_line, preempted_line, with_charge}
use Rattle.q_core.specs.Changes.{IsTidied, is_looked_at}
use Rattle.q_core.specs.Choosing.{job_left_in}
use Rattle.q_jobs.specs.declared.job.Job.{Job}
use Rattle.q_core.specs.declared.state.Core.{Core}
use Rattle.q_core.specs.declared.state.Seen.{Seen}
use Rattle.q_core.specs.declared.state.Seen.TheVariants.{Known, Unknown}
use Rattle.q_laws.proofs.Members.{all_at, any_from, any_in, in_filtered, least_in}
use Rattle.q_laws.proofs.Places.{got_in}
use Rattle.q_laws.specs.Consistency.{IsConsistent}
use Rattle.q_model.specs.Accounts.{charged, job_left, starts_of}
use Rattle.q_model.specs.Candidates.{ids_behind, best, candidates, is_better, is_candidate, pays}
use Rattle.q_model.specs.Choice.{choice, next_row, start_of}
use Rattle.q_model.specs.Ids.{are_distinct, id_eq}
use Rattle.q_model.specs.Ledger.{Ledger}
use Rattle.q_model.specs.Lists.{first_some}
use Rattle.q_model.specs.Next.{start_rule}
use Rattle.q_model.specs.Past.{is_start, starts}
use Rattle.q_model.specs.Preemptions.{after_preempt, preempt_line, put_before}
use Rattle.q_model.specs.Settings.{World}
use Rattle.q_model.specs.Startable.{can_start, current, line_of}
use Rattle.q_model.specs.Step.{noted, tidied}
use Rattle.q_model.specs.declared.entry.Entry.{Entry}
use Rattle.q_model.specs.declared.entry.Entry.TheVariants as entries
use Rattle.q_model.specs.declared.id.Id.{Id}
use Rattle.q_model.specs.declared.rows.Admitted.{Admitted}
use Rattle.q_model.specs.declared.rows.Row.{Row}

-- ---- the choice that preempts

same_Some : {A : Type 0} (x y : A) → Some x ≡ Some y → x ≡ y
same_Some x y h = cc

-- the best candidate, and its need
record IsBest (w : World) (l : Ledger) (child parent : Id) (transport need : ℕ) : Type 0 where
  few : nat_lt (starts l) (2 ^ 48) ≡ true
  best : best w l transport parent ≡ Some child
  needs : job_left l child transport ≡ need

abbrev preempt_or : Ledger → ℕ → Id → Option Id → Option Row → Option Entry
preempt_or l t parent o q = option_map_or (λ child. Some (entries.Preempt child parent t (job_left l child t))) o (option_map (start_of l) q)

best_chosen : (w : World) (l : Ledger) (t : ℕ) (first : Id) (child parent : Id) (transport need : ℕ) (o : Option Id) (q : Option Row) → nat_lt (starts l) (2 ^ 48) ≡ true → best w l t first ≡ o →
    preempt_or l t first o q ≡ Some (entries.Preempt child parent transport need) → IsBest w l child parent transport need
best_chosen w l t first child parent transport need None None few e h = cc
best_chosen w l t first child parent transport need None (Some r) few e h = let bad = same_Some (start_of l r) (entries.Preempt child parent transport need) h in cc
best_chosen w l t first child parent transport need (Some x) q few e h =
    let same = same_Some (entries.Preempt x first t (job_left l x t)) (entries.Preempt child parent transport need) h in
    let name : x ≡ child = cc in
    let before : first ≡ parent = cc in
    let line : t ≡ transport = cc in
    let count : job_left l x t ≡ need = cc in
    record {
      few = few;
      best = ap (λ i. best w l transport i) (sym before) ∙ ap (λ n. best w l n first) (sym line) ∙ e ∙ ap Some name;
      needs = ap (λ i. job_left l i transport) (sym name) ∙ ap (job_left l x) (sym line) ∙ count;
    }

current_chosen : (w : World) (l : Ledger) (t : ℕ) (child parent : Id) (transport need : ℕ) (o : Option Id) → nat_lt (starts l) (2 ^ 48) ≡ true →
    option_and_then (λ first. preempt_or l t first (best w l t first) (next_row w l t first)) o ≡ Some (entries.Preempt child parent transport need) → IsBest w l child parent transport need
current_chosen w l t child parent transport need None few h = cc
current_chosen w l t child parent transport need (Some first) few h = best_chosen w l t first child parent transport need (best w l t first) (next_row w l t first) few refl h

chosen_on : (w : World) (l : Ledger) (child parent : Id) (transport need : ℕ) (b : Bool) → nat_lt (starts l) (2 ^ 48) ≡ b →
    (if b then first_some (λ (line : ℕ × List Id). choice w l line.0) (enumerate_from 0 l.lines) else None) ≡ Some (entries.Preempt child parent transport need) → IsBest w l child parent transport need
chosen_on w l child parent transport need false few h = cc
chosen_on w l child parent transport need true few h =
    let one = some_given (λ (line : ℕ × List Id). choice w l line.0) (entries.Preempt child parent transport need) (enumerate_from 0 l.lines) h in
    current_chosen w l (one.0).0 child parent transport need (current w l (one.0).0) few one.1

-- what its rule says of a preemption
record IsPaid (w : World) (l : Ledger) (child parent : Id) (transport need : ℕ) : Type 0 where
  few : starts l < 2 ^ 48
  behind_it : list_any (id_eq child) (ids_behind parent (line_of l transport)) ≡ true
  paid : need + charged l parent transport ≤ starts_of l parent transport + job_left l parent transport

some_cost : (cost need owed credit : ℕ) → not (cost == 0) ≡ true → cost * need + cost * owed ≤ credit → need + owed ≤ credit
some_cost zero need owed credit some h = cc
some_cost (suc n) need owed credit some h = grind (arith, h)

paid : (w : World) (l : Ledger) (child parent : Id) (transport need : ℕ) → IsBest w l child parent transport need → IsPaid w l child parent transport need
paid w l child parent transport need b =
    let good = (in_filtered (is_candidate w l transport parent) child (map (λ (a : Admitted). a.id) l.admitted) (least_in (is_better l transport) child (candidates w l transport parent) b.best)).1 in
    let cost = not (w.settings.slot_cost == 0) in
    let inside = list_any (id_eq child) (ids_behind parent (line_of l transport)) in
    let fresh = starts_of l child transport == 0 in
    let starts = can_start w l transport child in
    let one = and_true_parts (cost && inside && fresh && starts) (pays w l transport parent (job_left l child transport)) good in
    let two = and_true_parts (cost && inside && fresh) starts one.0 in
    let three = and_true_parts (cost && inside) fresh two.0 in
    let four = and_true_parts cost inside three.0 in
    let need' = job_left l child transport in
    let begun = starts_of l parent transport in
    let owed = w.settings.slot_cost * charged l parent transport in
    let left = job_left l parent transport in
    let price = nat_le (need' * (100 - w.settings.slot_discount) * w.settings.slot_cost + 100 * owed) (100 * (begun + w.settings.slot_loan * w.settings.slot_cost)) in
    let held = nat_le (w.settings.slot_cost * need' + owed) (begun + left) in
    let many = nat_le (w.settings.slot_cost * w.settings.minimum_slots) (begun + left) in
    let five = and_true_parts (price && held) many one.1 in
    let six = and_true_parts price held five.0 in
    record {
      few = ltb-true _ _ b.few;
      behind_it = four.1;
      paid = subst (λ n. n + charged l parent transport ≤ begun + left) b.needs (some_cost w.settings.slot_cost need' (charged l parent transport) (begun + left) four.0 (leb-true _ _ six.1));
    }

-- ---- the child is in the line

any_flip : (child : Id) (ids : List Id) → list_any (id_eq child) ids ≡ true → list_any (λ i. id_eq i child) ids ≡ true
any_flip child ids h =
    let one = any_in (id_eq child) ids h in
    any_from (λ i. id_eq i child) one.0 ids one.1 (ap (λ i. id_eq i child) (sym (id_eq-true child one.0 one.2)) ∙ id_eq-same child)

behind_step : (child x : Id) (xs rest : List Id) → (list_any (id_eq child) rest ≡ true → list_any (id_eq child) xs ≡ true) → (b : Bool) → list_any (id_eq child) (if b then xs else rest) ≡ true → (id_eq child x || list_any (id_eq child) xs) ≡ true
behind_step child x xs rest later true h = or_right (id_eq child x) (list_any (id_eq child) xs) h
behind_step child x xs rest later false h = or_right (id_eq child x) (list_any (id_eq child) xs) (later h)

any_behind : (child parent : Id) (ids : List Id) → list_any (id_eq child) (ids_behind parent ids) ≡ true → list_any (id_eq child) ids ≡ true
any_behind child parent [] h = h
any_behind child parent (x ∷ xs) h = behind_step child x xs (ids_behind parent xs) (any_behind child parent xs) (id_eq x parent) h

-- ---- the account

within_both : (a b m : ℕ) → a ≤ b → b ≤ m → min (min a m) (min b m) ≡ a
within_both a b m h k = grind (arith, h, k)

charge_is : (need left : ℕ) (j : Job) (b : Bool) → (b ≡ true → need + j.charged ≤ j.starts + left) → j.starts + left ≤ 2 ^ 64 - 1 → (if b then with_charge need left j else j) ≡ record j { charged = (if b then need else 0) + j.charged }
charge_is need left j false paid few = ap (λ n. record j { charged = n }) (sym (zero-add j.charged))
charge_is need left j true paid few =
    let held = paid refl in
    let order : j.charged + need ≡ need + j.charged = omega arith in
    ap (λ n. record j { charged = n }) (within_both (j.charged + need) (j.starts + left) (2 ^ 64 - 1) (omega (arith, held)) few ∙ order)

-- what is left of the parent is within a number of 64 bits
few_left : (starts begun left : ℕ) → starts < 2 ^ 48 → begun ≤ starts → left ≤ 2 ^ 63 + 2 ^ 32 → begun + left ≤ 2 ^ 64 - 1
few_left starts begun left few most less = omega (arith, few, most, less)

job_paid : (w : World) (l : Ledger) (child parent : Id) (transport need left t : ℕ) → IsPaid w l child parent transport need → left ≡ job_left l parent transport → left ≤ 2 ^ 63 + 2 ^ 32 → (k : Id) →
    charged_job parent transport need left t (job_of l t k) ≡ job_of (noted (entries.Preempt child parent transport need) l) t k
job_paid w l child parent transport need left t p same less k =
    charge_is need left (job_of l t k) (id_eq parent k && (transport == t)) (λ e.
    let both = and_true_parts (id_eq parent k) (transport == t) e in
    subst (λ i. need + charged l i t ≤ starts_of l i t + left) (id_eq-true parent k both.0)
    (subst (λ n. need + charged l parent n ≤ starts_of l parent n + left) (eqb-true transport t both.1)
    (subst (λ n. need + charged l parent transport ≤ starts_of l parent transport + n) (sym same) p.paid)))
    (few_left (starts l) (starts_of l k t) left p.few (starts_of-le l k t) less)
    ∙ sym (job_charged l child parent transport need t k)

-- ---- the line

moved_case : (k : Ledger) (child parent : Id) (transport j : ℕ) (ids : List Id) → (j ≡ transport → (are_distinct ids ≡ true) × (list_any (λ i. id_eq i child) ids ≡ true)) → (b : Bool) → (j == transport) ≡ b →
    (if b then moved_job child parent (map (job_of k j) ids) else map (job_of k j) ids) ≡ map (job_of k j) (if b then put_before child parent (filter (λ x. not (id_eq x child)) ids) else ids)
moved_case k child parent transport j ids there false e = refl
moved_case k child parent transport j ids there true e = let both = there (eqb-true j transport e) in moved_map k j child parent ids both.0 both.1

line_there : (l : Ledger) (child parent : Id) (transport j i : ℕ) (ids : List Id) → list_all are_distinct l.lines ≡ true → list_any (id_eq child) (ids_behind parent (line_of l transport)) ≡ true → j ≡ 0 + i → slice_get l.lines i ≡ Some ids → j ≡ transport →
    (are_distinct ids ≡ true) × (list_any (λ x. id_eq x child) ids ≡ true)
line_there l child parent transport j i ids single inside e there same =
    let at : transport ≡ i = omega (arith, e, same) in
    let line : line_of l transport ≡ ids = ap (λ n. option_map_or (λ (xs : List Id). xs) (slice_get l.lines n) []) at ∙ ap (λ o. option_map_or (λ (xs : List Id). xs) o []) there in (
      all_at are_distinct ids l.lines single (got_in ids l.lines i there),
      any_flip child ids (ap (list_any (id_eq child)) (sym line) ∙ any_behind child parent (line_of l transport) inside),
    )

lines_preempted : (w : World) (l : Ledger) (child parent : Id) (transport need left : ℕ) → list_all are_distinct l.lines ≡ true → IsPaid w l child parent transport need → left ≡ job_left l parent transport → left ≤ 2 ^ 63 + 2 ^ 32 →
    map (preempted_line child parent transport need left) (enumerate_from 0 (map (jobs_of l) (enumerate_from 0 l.lines))) ≡
    map (jobs_of (noted (entries.Preempt child parent transport need) l)) (enumerate_from 0 (map (preempt_line child parent transport) (enumerate_from 0 l.lines)))
lines_preempted w l child parent transport need left single p same less =
    let k : Ledger = noted (entries.Preempt child parent transport need) l in
    lines_changed l k (preempted_line child parent transport need left) (preempt_line child parent transport) 0 l.lines (λ i j ids e there.
    ap (λ js. moved_line child parent transport (j, js)) (map-twice (charged_job parent transport need left j) (job_of l j) (job_of k j) (job_paid w l child parent transport need left j p same less) ids)
    ∙ moved_case k child parent transport j ids (line_there l child parent transport j i ids single p.behind_it e there) (j == transport) refl)

still_preempted : (seen : Seen) (l : Ledger) (ls : List (List Id)) (es : List Entry) → IsStillSeen seen l → IsStillSeen seen (record l { lines = ls; past = es })
still_preempted Unknown l ls es h = tt
still_preempted (Known found) l ls es h = h

preempt_raw : {w : World} {c d : Core} {l : Ledger} → HoldsRaw w c l → IsConsistent w l → (child parent : Id) (transport need left : ℕ) → IsPaid w l child parent transport need → left ≡ job_left_in c transport parent → left ≤ 2 ^ 63 + 2 ^ 32 →
    IsPreempted c d child parent transport need left → HoldsRaw w d (noted (entries.Preempt child parent transport need) (after_preempt l child parent transport))
preempt_raw {w = w} {c = c} {d = d} {l = l} r k child parent transport need left p same less change =
    let h = r.parts in
    let next : Ledger = noted (entries.Preempt child parent transport need) (after_preempt l child parent transport) in
    let lines : d.lines ≡ map (jobs_of next) (enumerate_from 0 next.lines) =
    change.lines
    ∙ ap (λ (js : List (List Job)). map (preempted_line child parent transport need left) (enumerate_from 0 js)) h.lines
    ∙ lines_preempted w l child parent transport need left k.memory.single p (same ∙ same_job_left h transport parent) less in
    let parts : AgreesButScan w (record c { lines = d.lines }) next = record {
      settings = h.settings;
      count = (h.count ∙ sym (length-numbered (preempt_line child parent transport) 0 l.lines));
      transports = (length-numbered (preempt_line child parent transport) 0 l.lines ∙ h.transports);
      mode = h.mode;
      clock = h.clock;
      timed = h.timed;
      next_run = h.next_run;
      ignores = h.ignores;
      deferred_follows = h.deferred_follows;
      admitted = h.admitted;
      waiting = h.waiting;
      flights = h.flights;
      memory = h.memory;
      served = h.served;
      unsettled = h.unsettled;
      lines = lines;
      sites = h.sites;
      synced = h.synced;
      starts = (h.starts ∙ sym (sum_by-cons (λ x. cond (is_start x) 1 0) (entries.Preempt child parent transport need) l.past ∙ zero-add (starts l)));
      active = h.active;
      incoming = h.incoming;
    } in
    let raw : HoldsRaw w (record c { lines = d.lines }) next = record { parts = parts; scan = r.scan; asked = r.asked; seen = still_preempted c.deferred l next.lines next.past r.seen } in
    subst (λ x. HoldsRaw w x next) (sym change.rest) raw

-- the whole entry
pub preempt_law : {w : World} {c u d : Core} {l : Ledger} → Agrees w c l → IsTrue (is_looked_at c) → (child parent : Id) (transport need left : ℕ) → start_rule w l ≡ Some (entries.Preempt child parent transport need) → left ≡ job_left_in c transport parent → left ≤ 2 ^ 63 + 2 ^ 32 →
    IsPreempted c u child parent transport need left → IsTidied u d → Matches w d (tidied w l (noted (entries.Preempt child parent transport need) (after_preempt l child parent transport)))
preempt_law {w = w} {c = c} {u = u} {d = d} {l = l} a looked child parent transport need left rule same less change s =
    let p = paid w l child parent transport need (chosen_on w l child parent transport need (nat_lt (starts l) (2 ^ 48)) refl rule) in
    tidy_law l refl refl (preempt_raw (raw_law a.matches looked) a.consistent child parent transport need left p same less change) s
