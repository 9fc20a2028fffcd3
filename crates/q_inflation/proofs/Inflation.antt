-- Preemption puts no more deliveries before a job than its recipients allow.
use Rattle.std.proofs.Common.{eq-eqb, ◌≡◌, ℕ, zero, suc, ◌+◌, ◌-◌, ◌*◌, ◌≤◌, Bool, true, false, cond, not, List, [], ◌∷◌, ◌++◌, map, length, Option, Some, None, ◌⊎◌, inl, inr, refl, sym, ap, ◌∙◌, subst, arith, if◌then◌else◌, eqb-true, leb-true, le_trans}
use Rattle.std.proofs.Math.Nat.{add-mul, mul-add, mul-le-mul_right}
use Rattle.std.proofs.lemmas.Bool.{and_parts, not-true}
use Rattle.std.specs.List.{list_any}
use Rattle.std.specs.Option.{option_map_or}
use Rattle.std.specs.Prelude.{◌==◌, ◌&&◌, nat_le}
use Rattle.q_inflation.proofs.Falling.{IsFall, entry_may, falls}
use Rattle.q_inflation.proofs.Entered.{entered}
use Rattle.q_laws.proofs.Beginnings.{life_consistent}
use Rattle.q_laws.proofs.Kept.{entry_consistent}
use Rattle.q_laws.proofs.Members.{in_filtered, least_in}
use Rattle.q_laws.proofs.Runs.{front_consistent, run_entries}
use Rattle.q_laws.specs.Consistency.{IsConsistent, IsUsable}
use Rattle.q_laws.specs.Traces.{AreAllowed, AreEntriesOf}
use Rattle.q_model.proofs.IdLaws.{id_eq-true}
use Rattle.q_model.specs.Accounts.{charge_of, charged, is_start_of, job_left, starts_of}
use Rattle.q_model.specs.Book.{Book, message_of}
use Rattle.q_model.specs.Candidates.{ids_behind, best, candidates, is_better, is_candidate, pays}
use Rattle.q_model.specs.Book.{all_ids}
use Rattle.q_model.specs.Ids.{are_distinct}
use Rattle.q_model.specs.Ids.{id_eq}
use Rattle.q_model.specs.Ledger.{Ledger, opening}
use Rattle.q_model.specs.Message.{Message}
use Rattle.q_model.specs.Orderly.{is_orderly}
use Rattle.q_model.specs.Past.{is_life}
use Rattle.q_model.specs.PreemptingStarts.{child_of, ends_job, preempting_starts, starts_through}
use Rattle.q_model.specs.Preemptions.{is_best, is_current, may_preempt}
use Rattle.q_model.specs.Run.{run, run_of, turn}
use Rattle.q_model.specs.Settings.{World}
use Rattle.q_model.specs.Startable.{can_start, line_of}
use Rattle.q_model.specs.Step.{after, after_all, may}
use Rattle.q_model.specs.declared.entry.Entry.{Entry}
use Rattle.q_model.specs.declared.event.LifeEvent.{LifeEvent}
use Rattle.q_model.specs.declared.event.LifeEvent.TheVariants.{Begin}
use Rattle.q_model.specs.declared.event.Mode.{Mode}
use Rattle.q_model.specs.declared.id.Id.{Id}
use Rattle.q_model.specs.declared.rows.Admitted.{Admitted}
use Rattle.q_model.specs.declared.entry.Entry.TheVariants as entries

-- ---- what a preemption says

-- a job with nothing started preempts, and what it is charged for is paid
record IsPaid (w : World) (l : Ledger) (child id : Id) (t need : ℕ) : Type 0 where
  cost : (w.settings.slot_cost == 0) ≡ false
  new : starts_of l child t ≡ 0
  same : need ≡ job_left l child t
  paid : w.settings.slot_cost * need + w.settings.slot_cost * charged l id t ≤ starts_of l id t + job_left l id t

candidate_paid : (w : World) (l : Ledger) (id b : Id) (t need : ℕ) → need ≡ job_left l b t → is_candidate w l t id b ≡ true → IsPaid w l b id t need
candidate_paid w l id b t need same h =
    let cost = w.settings.slot_cost in
    let owes = cost * charged l id t in
    let left = job_left l id t in
    let started = starts_of l id t in
    let n = job_left l b t in
    let has = not (cost == 0) in
    let stands = list_any (id_eq b) (ids_behind id (line_of l t)) in
    let new = starts_of l b t == 0 in
    let one = and_parts (has && stands && new && can_start w l t b) (pays w l t id n) h in
    let two = and_parts (has && stands && new) (can_start w l t b) one.0 in
    let three = and_parts (has && stands) new two.0 in
    let four = and_parts has stands three.0 in
    let some = and_parts (nat_le (n * (100 - w.settings.slot_discount) * cost + 100 * owes) (100 * (started + w.settings.slot_loan * cost)) && nat_le (cost * n + owes) (started + left)) (nat_le (cost * w.settings.minimum_slots) (started + left)) one.1 in
    let second = (and_parts (nat_le (n * (100 - w.settings.slot_discount) * cost + 100 * owes) (100 * (started + w.settings.slot_loan * cost))) (nat_le (cost * n + owes) (started + left)) some.0).1 in
    record {
      cost = not-true (cost == 0) four.0;
      new = eqb-true (starts_of l b t) 0 three.1;
      same = same;
      paid = subst (λ x. cost * x + owes ≤ started + left) (sym same) (leb-true (cost * n + owes) (started + left) second);
    }

best_paid : (w : World) (l : Ledger) (id child : Id) (t need : ℕ) (o : Option Id) → best w l t id ≡ o → option_map_or (λ b. id_eq b child) o false ≡ true → need ≡ job_left l child t → IsPaid w l child id t need
best_paid w l id child t need None e h same = absurd cc
best_paid w l id child t need (Some b) e h same =
    let name : b ≡ child = id_eq-true b child h in
    let good = (in_filtered (is_candidate w l t id) b (map (λ (a : Admitted). a.id) l.admitted) (least_in (is_better l t) b (candidates w l t id) e)).1 in
    candidate_paid w l id child t need same (subst (λ (x : Id). is_candidate w l t id x ≡ true) name good)

preempt_paid : (w : World) (l : Ledger) (child id : Id) (t need : ℕ) → may_preempt w l child id t need ≡ true → IsPaid w l child id t need
preempt_paid w l child id t need may =
    let two = and_parts (is_current w l t id && is_best w l t id child) (need == job_left l child t) may in
    let one = and_parts (is_current w l t id) (is_best w l t id child) two.0 in
    best_paid w l id child t need (best w l t id) refl one.1 (eqb-true need (job_left l child t) two.1)

-- what an entry charges a job for
record IsCharge (w : World) (l : Ledger) (e : Entry) (id : Id) (t : ℕ) : Type 0 where
  child : Id
  need : ℕ
  entry : e ≡ entries.Preempt child id t need
  there : child_of id t e ≡ Some child
  charge : charge_of id t e ≡ need
  paid : IsPaid w l child id t need

abbrev Charges : World → Ledger → Entry → Id → ℕ → Type 0
Charges w l e id t = ((child_of id t e ≡ None) × (charge_of id t e ≡ 0)) ⊎ IsCharge w l e id t

preempt_charges : (w : World) (l : Ledger) (child parent : Id) (transport need : ℕ) (id : Id) (t : ℕ) → may_preempt w l child parent transport need ≡ true → Charges w l (entries.Preempt child parent transport need) id t
preempt_charges w l child parent transport need id t h = which (id_eq parent id && (transport == t)) refl
  where
    which : (b : Bool) → (id_eq parent id && (transport == t)) ≡ b → Charges w l (entries.Preempt child parent transport need) id t
    which false e = inl (ap (λ b. if b then Some child else None) e, ap (λ b. if b then need else 0) e)
    which true e =
        let two = and_parts (id_eq parent id) (transport == t) e in
        let name : parent ≡ id = id_eq-true parent id two.0 in
        let at : transport ≡ t = eqb-true transport t two.1 in
        inr (record {
          child = child;
          need = need;
          entry = ap (λ (j : Id). entries.Preempt child j transport need) name ∙ ap (λ n. entries.Preempt child id n need) at;
          there = ap (λ b. if b then Some child else None) e;
          charge = ap (λ b. if b then need else 0) e;
          paid = preempt_paid w l child id t need (subst (λ n. may_preempt w l child id n need ≡ true) at (subst (λ (j : Id). may_preempt w l child j transport need ≡ true) name h));
        })

charges : (w : World) (l : Ledger) (e : Entry) (id : Id) (t : ℕ) → may w l e ≡ true → Charges w l e id t
charges w l (entries.Preempt child parent transport need) id t h = preempt_charges w l child parent transport need id t h
charges w l (entries.Life generation mode) id t h = inl (refl, refl)
charges w l (entries.At moment) id t h = inl (refl, refl)
charges w l (entries.Arrive i sender to content) id t h = inl (refl, refl)
charges w l (entries.Back i) id t h = inl (refl, refl)
charges w l (entries.Admit i) id t h = inl (refl, refl)
charges w l (entries.Load i from to) id t h = inl (refl, refl)
charges w l (entries.Start number i site ps) id t h = inl (refl, refl)
charges w l (entries.Reply number state os) id t h = inl (refl, refl)
charges w l (entries.Skip i site ps) id t h = inl (refl, refl)
charges w l (entries.Log i failure) id t h = inl (refl, refl)
charges w l (entries.Mark i position) id t h = inl (refl, refl)
charges w l (entries.Sync i) id t h = inl (refl, refl)
charges w l (entries.Defer i due) id t h = inl (refl, refl)
charges w l (entries.Bounce i) id t h = inl (refl, refl)
charges w l (entries.Remove i) id t h = inl (refl, refl)
charges w l (entries.Corrupt i) id t h = inl (refl, refl)
charges w l (entries.Trigger kind) id t h = inl (refl, refl)
charges w l entries.End id t h = inl (refl, refl)

-- ---- what a job starts and is charged for, in these entries

abbrev own_starts : Id → ℕ → List Entry → ℕ
own_starts id t [] = 0
own_starts id t (e ∷ es) = if ends_job id e then 0 else cond (is_start_of id t e) 1 0 + own_starts id t es

abbrev charges_in : Id → ℕ → List Entry → ℕ
charges_in id t [] = 0
charges_in id t (e ∷ es) = if ends_job id e then 0 else charge_of id t e + charges_in id t es

through_parts : (id : Id) (t : ℕ) (es : List Entry) → starts_through id t es ≡ own_starts id t es + preempting_starts id t es
unfolding starts_through preempting_starts
through_parts id t [] = refl
through_parts id t (e ∷ es) = which (ends_job id e) (through_parts id t es)
  where
    which : (b : Bool) → starts_through id t es ≡ own_starts id t es + preempting_starts id t es →
        (if b then 0 else (if is_start_of id t e then 1 else 0) + option_map_or (λ child. starts_through child t es) (child_of id t e) 0 + starts_through id t es)
        ≡ (if b then 0 else cond (is_start_of id t e) 1 0 + own_starts id t es) + (if b then 0 else option_map_or (λ child. starts_through child t es) (child_of id t e) 0 + preempting_starts id t es)
    which true h = refl
    which false h = omega (arith, h)

-- a job starts no more than it has left
starts_fit : (w : World) (l : Ledger) (id : Id) (t : ℕ) (es : List Entry) → IsConsistent w l → AreEntriesOf w l es → own_starts id t es ≤ job_left l id t
starts_fit w l id t [] c h = omega arith
starts_fit w l id t (e ∷ es) c h = which (ends_job id e) refl (starts_fit w (after w l e) id t es (entry_consistent w l e c h.0) h.1)
  where
    which : (b : Bool) → ends_job id e ≡ b → own_starts id t es ≤ job_left (after w l e) id t → (if b then 0 else cond (is_start_of id t e) 1 0 + own_starts id t es) ≤ job_left l id t
    which true goes later = omega arith
    which false goes later =
        let fall : cond (is_start_of id t e) 1 0 + job_left (after w l e) id t ≤ job_left l id t = (falls w l e id t c (entry_may w l e c h.0) goes).job_left in
        omega (arith, fall, later)

-- a job is charged nothing more, or all of it was paid
abbrev IsCovered : World → Ledger → Id → ℕ → ℕ → Type 0
IsCovered w l id t n = (n ≡ 0) ⊎ (w.settings.slot_cost * (charged l id t + n) ≤ starts_of l id t + job_left l id t)

covered_more : (w : World) (l : Ledger) (e : Entry) (id : Id) (t n : ℕ) → IsFall w l e id t → Charges w l e id t → IsCovered w (after w l e) id t n → IsCovered w l id t (charge_of id t e + n)
covered_more w l e id t n fall (inl none) (inl nothing) =
    let k : charge_of id t e ≡ 0 = none.1 in
    inl (omega (arith, k, nothing))
covered_more w l e id t n fall (inr charge) (inl nothing) =
    let cost = w.settings.slot_cost in
    let paid : cost * charge.need + cost * charged l id t ≤ starts_of l id t + job_left l id t = charge.paid.paid in
    let sum : charged l id t + (charge_of id t e + n) ≡ charged l id t + (charge.need + 0) = ap (λ x. charged l id t + (x + n)) charge.charge ∙ ap (λ x. charged l id t + (charge.need + x)) nothing in
    let all : cost * (charged l id t + (charge_of id t e + n)) ≡ cost * (charged l id t + (charge.need + 0)) = ap (λ x. cost * x) sum in
    inr (omega (arith, paid, all))
covered_more w l e id t n fall charge (inr covered) =
    let cost = w.settings.slot_cost in
    let sum : charged (after w l e) id t + n ≡ charged l id t + (charge_of id t e + n) = (let k = fall.charged in omega (arith, k)) in
    let all : cost * (charged (after w l e) id t + n) ≡ cost * (charged l id t + (charge_of id t e + n)) = ap (λ x. cost * x) sum in
    let started = fall.starts in
    let left : cond (is_start_of id t e) 1 0 + job_left (after w l e) id t ≤ job_left l id t = fall.job_left in
    inr (omega (arith, covered, all, started, left))

charges_covered : (w : World) (l : Ledger) (id : Id) (t : ℕ) (es : List Entry) → IsConsistent w l → AreEntriesOf w l es → IsCovered w l id t (charges_in id t es)
charges_covered w l id t [] c h = inl refl
charges_covered w l id t (e ∷ es) c h = which (ends_job id e) refl (charges_covered w (after w l e) id t es (entry_consistent w l e c h.0) h.1)
  where
    which : (b : Bool) → ends_job id e ≡ b → IsCovered w (after w l e) id t (charges_in id t es) → IsCovered w l id t (if b then 0 else charge_of id t e + charges_in id t es)
    which true goes later = inl refl
    which false goes later =
        let may = entry_may w l e c h.0 in
        covered_more w l e id t (charges_in id t es) (falls w l e id t c may goes) (charges w l e id t may) later

-- ---- the starts before a job

-- of a child with this need, which starts at most that and is charged at most that
child_bound : (cost need own through owed : ℕ) → own ≤ need → through * (cost - 1) ≤ cost * owed → cost * owed ≤ need → (cost == 0) ≡ false → (own + through) * (cost - 1) ≤ cost * need
child_bound cost need own through owed few bound paid some =
    let one : 1 ≤ cost = positive cost some in
    let k : cost ≡ 1 + (cost - 1) = omega (arith, one) in
    let starts : own * (cost - 1) ≤ need * (cost - 1) = mul-le-mul_right (cost - 1) few in
    let whole : cost * need ≡ (1 + (cost - 1)) * need = ap (λ x. x * need) k in
    let sum : (own + through) * (cost - 1) ≡ own * (cost - 1) + through * (cost - 1) = add-mul own through (cost - 1) in
    let split : (1 + (cost - 1)) * need ≡ need + need * (cost - 1) = spread need (cost - 1) in
    omega (arith, starts, whole, sum, split, bound, paid)
  where
    positive : (n : ℕ) → (n == 0) ≡ false → 1 ≤ n
    positive zero h = absurd cc
    positive (suc n) h = omega arith

    spread : (n k : ℕ) → (1 + k) * n ≡ n + n * k
    spread n k = omega arith

-- the child of a preemption, from just after it
child_fits : (w : World) (l : Ledger) (child id : Id) (t need : ℕ) (es : List Entry) → IsConsistent w l → AreEntriesOf w l (entries.Preempt child id t need ∷ es) → IsPaid w l child id t need →
    (own_starts child t es ≤ need) × (w.settings.slot_cost * charges_in child t es ≤ need)
child_fits w l child id t need es c h paid =
    let e = entries.Preempt child id t need in
    let k = after w l e in
    let fall = falls w l e child t c (entry_may w l e c h.0) refl in
    let next = entry_consistent w l e c h.0 in
    let started : starts_of k child t ≡ 0 + starts_of l child t = fall.starts in
    let left : 0 + job_left k child t ≤ job_left l child t = fall.job_left in
    let same = paid.same in
    let new = paid.new in
    let starts = starts_fit w k child t es next h.1 in
    (omega (arith, starts, left, same), owed (charges_covered w k child t es next h.1) (omega (arith, started, left, same, new)))
  where
    owed : IsCovered w (after w l (entries.Preempt child id t need)) child t (charges_in child t es) → starts_of (after w l (entries.Preempt child id t need)) child t + job_left (after w l (entries.Preempt child id t need)) child t ≤ need → w.settings.slot_cost * charges_in child t es ≤ need
    owed (inl none) few =
        let zero : w.settings.slot_cost * charges_in child t es ≡ w.settings.slot_cost * 0 = ap (λ x. w.settings.slot_cost * x) none in
        omega (arith, zero)
    owed (inr covered) few =
        let n = charges_in child t es in
        let before = charged (after w l (entries.Preempt child id t need)) child t in
        let sum : w.settings.slot_cost * (before + n) ≡ w.settings.slot_cost * before + w.settings.slot_cost * n = mul-add w.settings.slot_cost before n in
        omega (arith, covered, few, sum)

-- the sums of two such bounds
added : (cost a n b m x y : ℕ) → x ≡ a → y ≡ n → a * (cost - 1) ≤ cost * n → b * (cost - 1) ≤ cost * m → (x + b) * (cost - 1) ≤ cost * (y + m)
added cost a n b m x y same equal one two =
    let left : (x + b) * (cost - 1) ≡ a * (cost - 1) + b * (cost - 1) = ap (λ z. (z + b) * (cost - 1)) same ∙ add-mul a b (cost - 1) in
    let right : cost * (y + m) ≡ cost * n + cost * m = ap (λ z. cost * (z + m)) equal ∙ mul-add cost n m in
    omega (arith, left, right, one, two)

-- preempting starts, times the cost less one, are at most the charges times the cost
pub charges_bound : (w : World) (l : Ledger) (id : Id) (t : ℕ) (es : List Entry) → IsConsistent w l → AreEntriesOf w l es → preempting_starts id t es * (w.settings.slot_cost - 1) ≤ w.settings.slot_cost * charges_in id t es
unfolding preempting_starts
charges_bound w l id t [] c h = omega arith
charges_bound w l id t (e ∷ es) c h =
    which (ends_job id e) refl (λ i. charges_bound w (after w l e) i t es (entry_consistent w l e c h.0) h.1)
  where
    which : (b : Bool) → ends_job id e ≡ b → ((i : Id) → preempting_starts i t es * (w.settings.slot_cost - 1) ≤ w.settings.slot_cost * charges_in i t es) →
        (if b then 0 else option_map_or (λ child. starts_through child t es) (child_of id t e) 0 + preempting_starts id t es) * (w.settings.slot_cost - 1) ≤ w.settings.slot_cost * (if b then 0 else charge_of id t e + charges_in id t es)
    which true goes bound = omega arith
    which false goes bound = by (charges w l e id t (entry_may w l e c h.0)) bound
      where
        by : Charges w l e id t → ((i : Id) → preempting_starts i t es * (w.settings.slot_cost - 1) ≤ w.settings.slot_cost * charges_in i t es) →
            (option_map_or (λ child. starts_through child t es) (child_of id t e) 0 + preempting_starts id t es) * (w.settings.slot_cost - 1) ≤ w.settings.slot_cost * (charge_of id t e + charges_in id t es)
        by (inl none) bound = added w.settings.slot_cost 0 0 (preempting_starts id t es) (charges_in id t es) (option_map_or (λ child. starts_through child t es) (child_of id t e) 0) (charge_of id t e)
            (ap (λ (o : Option Id). option_map_or (λ child. starts_through child t es) o 0) none.0) none.1 (omega arith) (bound id)
        by (inr charge) bound =
            let child = charge.child in
            let fits = child_fits w l child id t charge.need es c (subst (λ x. AreEntriesOf w l (x ∷ es)) charge.entry h) charge.paid in
            added w.settings.slot_cost (own_starts child t es + preempting_starts child t es) charge.need (preempting_starts id t es) (charges_in id t es) (option_map_or (λ child. starts_through child t es) (child_of id t e) 0) (charge_of id t e)
            (ap (λ (o : Option Id). option_map_or (λ child. starts_through child t es) o 0) charge.there ∙ through_parts child t es) charge.charge
            (child_bound w.settings.slot_cost charge.need (own_starts child t es) (preempting_starts child t es) (charges_in child t es) fits.0 (bound child) fits.1 charge.paid.cost) (bound id)

-- ---- whole runs

-- the entries of a trace up to one, and from there
entries_parts : (w : World) (l : Ledger) (es fs : List Entry) → AreEntriesOf w l (es ++ fs) → AreEntriesOf w l es × AreEntriesOf w (after_all w l es) fs
unfolding after_all
entries_parts w l [] fs h = (tt, h)
entries_parts w l (e ∷ es) fs h = let rest = entries_parts w (after w l e) es fs h.1 in ((h.0, rest.0), rest.1)

-- of a job, from where its message comes into memory
pub job_inflation : (w : World) (l : Ledger) (id : Id) (t : ℕ) (m : Message) (fs : List Entry) → IsConsistent w l → AreEntriesOf w l (entries.Admit id ∷ fs) → message_of l.book id ≡ Some m → preempting_starts id t fs * (w.settings.slot_cost - 1) ≤ length m.recipients
job_inflation w l id t m fs c h there =
    let e = entries.Admit id in
    let k = after w l e in
    let next = entry_consistent w l e c h.0 in
    let new = entered w l id t m c (entry_may w l e c h.0) there in
    let bound : preempting_starts id t fs * (w.settings.slot_cost - 1) ≤ w.settings.slot_cost * charges_in id t fs = charges_bound w k id t fs next h.1 in
    let few : starts_of k id t + job_left k id t ≤ length m.recipients = (let a = new.starts in let b : job_left k id t ≤ length m.recipients = new.left in omega (arith, a, b)) in
    le_trans bound (all (charges_covered w k id t fs next h.1) few)
  where
    all : IsCovered w (after w l (entries.Admit id)) id t (charges_in id t fs) → starts_of (after w l (entries.Admit id)) id t + job_left (after w l (entries.Admit id)) id t ≤ length m.recipients → w.settings.slot_cost * charges_in id t fs ≤ length m.recipients
    all (inl none) few =
        let zero : w.settings.slot_cost * charges_in id t fs ≡ w.settings.slot_cost * 0 = ap (λ x. w.settings.slot_cost * x) none in
        omega (arith, zero)
    all (inr covered) few =
        let n = charges_in id t fs in
        let before = charged (after w l (entries.Admit id)) id t in
        let sum : w.settings.slot_cost * (before + n) ≡ w.settings.slot_cost * before + w.settings.slot_cost * n = mul-add w.settings.slot_cost before n in
        omega (arith, covered, few, sum)

first_entry : (w : World) (mode : Mode) (book : Book) (items : List LifeEvent) → (rest : List Entry) × (run_of w mode book items ≡ entries.Life (book.generation + 1) mode ∷ rest)
unfolding run_of run turn
first_entry w mode book items = (_, refl)

same_first : {A : Type 0} (x y : A) (xs ys : List A) → ◌≡◌ {A = List A} (x ∷ xs) (y ∷ ys) → x ≡ y
same_first x y xs ys h = cc

run_all : (w : World) (mode : Mode) (book : Book) (items : List LifeEvent) → AreAllowed w (opening mode book) (Begin ∷ items) → AreEntriesOf w (opening mode book) (run_of w mode book items)
unfolding run_of
run_all w mode book items h = run_entries w (opening mode book) (Begin ∷ items) h

-- where a slot costs nothing, nothing goes before a job
none_free : (w : World) (l : Ledger) (id : Id) (t : ℕ) (es : List Entry) → w.settings.slot_cost ≡ 0 → IsConsistent w l → AreEntriesOf w l es → preempting_starts id t es ≡ 0
unfolding preempting_starts
none_free w l id t [] free c h = refl
none_free w l id t (e ∷ es) free c h = which (ends_job id e) (charges w l e id t (entry_may w l e c h.0)) (none_free w (after w l e) id t es free (entry_consistent w l e c h.0) h.1)
  where
    which : (b : Bool) → Charges w l e id t → preempting_starts id t es ≡ 0 → (if b then 0 else option_map_or (λ child. starts_through child t es) (child_of id t e) 0 + preempting_starts id t es) ≡ 0
    which true some rest = refl
    which false (inl none) rest =
        let first : option_map_or (λ child. starts_through child t es) (child_of id t e) 0 ≡ 0 = ap (λ (o : Option Id). option_map_or (λ child. starts_through child t es) o 0) none.0 in
        omega (arith, first, rest)
    which false (inr charge) rest = let bad : true ≡ false = sym (eq-eqb w.settings.slot_cost 0 free) ∙ charge.paid.cost in absurd cc

-- where a message comes into memory in a run on an orderly book
record IsAdmittedIn (w : World) (k : Ledger) (id : Id) (fs : List Entry) : Type 0 where
  consistent : IsConsistent w k
  entries : AreEntriesOf w k (entries.Admit id ∷ fs)

run_admits : (w : World) (mode : Mode) (book : Book) (items : List LifeEvent) → IsUsable w → are_distinct (all_ids book) ≡ true → is_orderly book ≡ true → AreAllowed w (opening mode book) (Begin ∷ items) →
    (es : List Entry) (id : Id) (fs gs : List Entry) → run_of w mode book items ≡ es ++ (entries.Admit id ∷ (fs ++ gs)) → IsAdmittedIn w (after_all w (opening mode book) es) id fs
unfolding after_all
run_admits w mode book items usable distinct orderly h [] id fs gs same =
    let first = first_entry w mode book items in
    let bad = same_first (entries.Life (book.generation + 1) mode) (entries.Admit id) first.0 (fs ++ gs) (sym first.1 ∙ same) in
    let no : true ≡ false = ap is_life bad in
    absurd cc
run_admits w mode book items usable distinct orderly h (e ∷ es) id fs gs same =
    let l = opening mode book in
    let first = first_entry w mode book items in
    let is = same_first (entries.Life (book.generation + 1) mode) e first.0 (es ++ (entries.Admit id ∷ (fs ++ gs))) (sym first.1 ∙ same) in
    let all = subst (AreEntriesOf w l) same (run_all w mode book items h) in
    let begun : IsConsistent w (after w l e) = subst (λ x. IsConsistent w (after w l x)) is (life_consistent w l mode usable distinct orderly) in
    let here = front_consistent w (after w l e) es (entries.Admit id ∷ (fs ++ gs)) begun all.1 in
    let later = (entries_parts w (after w l e) es (entries.Admit id ∷ (fs ++ gs)) all.1).1 in
    let k = after_all w (after w l e) es in
    record { consistent = here; entries = (later.0, (entries_parts w (after w k (entries.Admit id)) fs gs later.1).0) }

-- at each moment of a run on an orderly book
pub run_inflation : (w : World) (mode : Mode) (book : Book) (items : List LifeEvent) → IsUsable w → are_distinct (all_ids book) ≡ true → is_orderly book ≡ true → AreAllowed w (opening mode book) (Begin ∷ items) →
    (es : List Entry) (id : Id) (fs gs : List Entry) → run_of w mode book items ≡ es ++ (entries.Admit id ∷ (fs ++ gs)) → (m : Message) → message_of (after_all w (opening mode book) es).book id ≡ Some m → (t : ℕ) →
    preempting_starts id t fs * (w.settings.slot_cost - 1) ≤ length m.recipients
run_inflation w mode book items usable distinct orderly h es id fs gs same m there t =
    let k = run_admits w mode book items usable distinct orderly h es id fs gs same in
    job_inflation w (after_all w (opening mode book) es) id t m fs k.consistent k.entries there

pub run_none : (w : World) (mode : Mode) (book : Book) (items : List LifeEvent) → IsUsable w → are_distinct (all_ids book) ≡ true → is_orderly book ≡ true → AreAllowed w (opening mode book) (Begin ∷ items) →
    (es : List Entry) (id : Id) (fs gs : List Entry) → run_of w mode book items ≡ es ++ (entries.Admit id ∷ (fs ++ gs)) → w.settings.slot_cost ≡ 0 → (t : ℕ) → preempting_starts id t fs ≡ 0
run_none w mode book items usable distinct orderly h es id fs gs same free t =
    let l = after_all w (opening mode book) es in
    let k = run_admits w mode book items usable distinct orderly h es id fs gs same in
    none_free w (after w l (entries.Admit id)) id t fs free (entry_consistent w l (entries.Admit id) k.consistent k.entries.0) k.entries.1
