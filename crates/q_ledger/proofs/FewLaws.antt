-- What is counted of the entries so far fits: no more than there are entries, and what jobs are charged is paid for.
use Rattle.std.proofs.Common.{◌≡◌, ℕ, ◌+◌, ◌*◌, ◌-◌, ◌<◌, ◌≤◌, ◌^◌, Bool, true, false, cond, List, [], ◌∷◌, ◌++◌, length, length-append, map, take_while, refl, ap, subst, arith, Option, Some, None, not, if◌then◌else◌}
use Rattle.std.proofs.Math.Nat.{mul-le-mul_right}
use Rattle.std.proofs.lemmas.Bool.{and_parts, eqb-true, leb-true, not-true}
use Rattle.std.proofs.lemmas.List.Sums.{sum_by-cons, take_while-cons}
use Rattle.std.specs.List.{list_any}
use Rattle.std.specs.Option.{option_map_or}
use Rattle.std.specs.Prelude.{◌&&◌, ◌==◌, count_by, nat_le}
use Rattle.q_bare.specs.CountedRows.{best_by, candidates_by, is_best_by, is_candidate_by, may_preempt_by, pays_by}
use Rattle.q_bare.specs.Counts.{Counts, counted, counts_after, no_counts}
use Rattle.q_laws.proofs.Members.{in_filtered, least_in}
use Rattle.q_ledger.specs.Accounting.{AreFew}
use Rattle.q_ledger.specs.Beside.{IsOfLedger}
use Rattle.q_model.proofs.IdLaws.{id_eq-true}
use Rattle.q_model.specs.Accounts.{is_admit_of, is_start_of, job_left, starts_of}
use Rattle.q_model.specs.Candidates.{ids_behind, is_better}
use Rattle.q_model.specs.Ids.{id_eq}
use Rattle.q_model.specs.Ledger.{Ledger}
use Rattle.q_model.specs.Past.{is_arrive, is_life, is_start, starts}
use Rattle.q_model.specs.Preemptions.{is_current}
use Rattle.q_model.specs.Settings.{World}
use Rattle.q_model.specs.Startable.{can_start, line_of}
use Rattle.q_model.specs.declared.entry.Entry.{Entry}
use Rattle.q_model.specs.declared.entry.Entry.TheVariants as entries
use Rattle.q_model.specs.declared.id.Id.{Id}
use Rattle.q_model.specs.declared.rows.Admitted.{Admitted}

-- ---- no job begins more than the life does

at_most_one : (b : Bool) → cond b 1 0 ≤ 1
at_most_one true = omega arith
at_most_one false = omega arith

start_of_one : (k : Id) (t : ℕ) (e : Entry) → cond (is_start_of k t e) 1 0 ≤ cond (is_start e) 1 0
start_of_one k t (entries.Start number id site positions) = at_most_one (is_start_of k t (entries.Start number id site positions))
start_of_one k t (entries.Life generation mode) = omega arith
start_of_one k t (entries.At moment) = omega arith
start_of_one k t (entries.Arrive id sender to content) = omega arith
start_of_one k t (entries.Back id) = omega arith
start_of_one k t (entries.Admit id) = omega arith
start_of_one k t (entries.Load id from to) = omega arith
start_of_one k t (entries.Preempt child parent transport need) = omega arith
start_of_one k t (entries.Reply number state outcomes) = omega arith
start_of_one k t (entries.Skip id site positions) = omega arith
start_of_one k t (entries.Log id failure) = omega arith
start_of_one k t (entries.Mark id position) = omega arith
start_of_one k t (entries.Sync id) = omega arith
start_of_one k t (entries.Defer id due) = omega arith
start_of_one k t (entries.Bounce id) = omega arith
start_of_one k t (entries.Remove id) = omega arith
start_of_one k t (entries.Corrupt id) = omega arith
start_of_one k t (entries.Trigger kind) = omega arith
start_of_one k t entries.End = omega arith

starts_step : (k : Id) (t : ℕ) (e : Entry) (es fs : List Entry) → count_by (is_start_of k t) fs ≤ count_by is_start es → (b : Bool) → count_by (is_start_of k t) (cond b (e ∷ fs) []) ≤ count_by is_start (e ∷ es)
starts_step k t e es fs less false = omega arith
starts_step k t e es fs less true =
    let one = start_of_one k t e in
    let mine = sum_by-cons (λ x. cond (is_start_of k t x) 1 0) e fs in
    let all = sum_by-cons (λ x. cond (is_start x) 1 0) e es in
    omega (arith, one, mine, all, less)

starts_within : (k : Id) (t : ℕ) (f : Entry → Bool) (es : List Entry) → count_by (is_start_of k t) (take_while f es) ≤ count_by is_start es
starts_within k t f [] = omega arith
starts_within k t f (e ∷ es) =
    let step = starts_step k t e es (take_while f es) (starts_within k t f es) (f e) in
    let same : count_by (is_start_of k t) (take_while f (e ∷ es)) ≡ count_by (is_start_of k t) (cond (f e) (e ∷ take_while f es) []) = ap (count_by (is_start_of k t)) (take_while-cons f e es) in
    omega (arith, step, same)

starts_of-le : (l : Ledger) (k : Id) (t : ℕ) → starts_of l k t ≤ starts l
starts_of-le l k t = starts_within k t (λ e. not (is_admit_of k e)) l.past

-- what is counted of a front shorter than 2^60 fits
pub are_few : (w : World) (c : Counts) (b : Ledger) (n : ℕ) → IsOfLedger w c b → c.deliveries ≤ n → c.messages ≤ n → n < 2 ^ 60 → AreFew c
are_few w c b n k d m short = record {
  deliveries = omega (arith, d, short);
  messages = omega (arith, m, short);
  begun = subst (λ (x : Counts). (id : Id) (t : ℕ) → x.deliveries_of id t ≤ x.deliveries) k.counts (starts_of-le k.ledger);
}

-- ---- one entry more counts one at most

one_more : (b : Bool) (k n : ℕ) → k ≤ n → (if b then 1 else 0) + k ≤ n + 1
one_more true k n h = omega (arith, h)
one_more false k n h = omega (arith, h)

deliveries_by : (e : Entry) (c : Counts) (n : ℕ) (life : Bool) → c.deliveries ≤ n → (counted e (if life then no_counts else c)).deliveries ≤ n + 1
deliveries_by e c n true h = one_more (is_start e) 0 n (omega arith)
deliveries_by e c n false h = one_more (is_start e) c.deliveries n h

messages_by : (e : Entry) (c : Counts) (n : ℕ) (life : Bool) → c.messages ≤ n → (counted e (if life then no_counts else c)).messages ≤ n + 1
messages_by e c n true h = one_more (is_arrive e) 0 n (omega arith)
messages_by e c n false h = one_more (is_arrive e) c.messages n h

pub few_after : (e : Entry) (c : Counts) (es : List Entry) → (c.deliveries ≤ length es) × (c.messages ≤ length es) →
    ((counts_after e c).deliveries ≤ length (es ++ e ∷ [])) × ((counts_after e c).messages ≤ length (es ++ e ∷ []))
few_after e c es h =
    let n = length-append es (e ∷ []) in
    let d = deliveries_by e c (length es) (is_life e) h.0 in
    let m = messages_by e c (length es) (is_life e) h.1 in
    (omega (arith, n, d), omega (arith, n, m))

-- ---- what a preemption charges is paid for

scaled : (a b k : ℕ) → a ≤ b → a * k ≤ b * k
scaled a b k h = mul-le-mul_right k h

best_is : (c : Counts) (w : World) (b : Ledger) (transport : ℕ) (parent child : Id) (o : Option Id) → best_by c w b transport parent ≡ o → option_map_or (λ x. id_eq x child) o false ≡ true →
    is_candidate_by c w b transport parent child ≡ true
best_is c w b transport parent child None e h = absurd cc
best_is c w b transport parent child (Some x) e h =
    let mine = in_filtered (is_candidate_by c w b transport parent) x (map (λ (a : Admitted). a.id) b.admitted) (least_in (is_better b transport) x (candidates_by c w b transport parent) e) in
    subst (λ i. is_candidate_by c w b transport parent i ≡ true) (id_eq-true x child h) mine.1

paid : (cost need charged begun left : ℕ) → (cost == 0) ≡ false → nat_le (cost * need + cost * charged) (begun + left) ≡ true → charged + need ≤ begun + left
paid cost need charged begun left some h =
    let bound = leb-true (cost * need + cost * charged) (begun + left) h in
    let one : 1 ≤ cost = positive cost some in
    let a = scaled 1 cost need one in
    let b = scaled 1 cost charged one in
    omega (arith, bound, a, b)
  where
    positive : (n : ℕ) → (n == 0) ≡ false → 1 ≤ n
    positive n e = grind (arith, e)

pub charge_paid : (c : Counts) (w : World) (b : Ledger) (child parent : Id) (transport need : ℕ) → may_preempt_by c w b child parent transport need ≡ true →
    c.charged_to parent transport + need ≤ c.deliveries_of parent transport + job_left b parent transport
charge_paid c w b child parent transport need h =
    let top = and_parts (is_current w b transport parent && is_best_by c w b transport parent child) (need == job_left b child transport) h in
    let best = (and_parts (is_current w b transport parent) (is_best_by c w b transport parent child) top.0).1 in
    let left = job_left b child transport in
    let is : need ≡ left = eqb-true need left top.1 in
    let chosen = best_is c w b transport parent child (best_by c w b transport parent) refl best in
    let pays = and_parts (not (w.settings.slot_cost == 0) && list_any (id_eq child) (ids_behind parent (line_of b transport)) && (c.deliveries_of child transport == 0) && can_start w b transport child) (pays_by c w b transport parent left) chosen in
    let can = and_parts (not (w.settings.slot_cost == 0) && list_any (id_eq child) (ids_behind parent (line_of b transport)) && (c.deliveries_of child transport == 0)) (can_start w b transport child) pays.0 in
    let fresh = and_parts (not (w.settings.slot_cost == 0) && list_any (id_eq child) (ids_behind parent (line_of b transport))) (c.deliveries_of child transport == 0) can.0 in
    let cost = and_parts (not (w.settings.slot_cost == 0)) (list_any (id_eq child) (ids_behind parent (line_of b transport))) fresh.0 in
    let p = w.settings in
    let begun = c.deliveries_of parent transport in
    let owed = p.slot_cost * c.charged_to parent transport in
    let rest = job_left b parent transport in
    let front = and_parts (nat_le (left * (100 - p.slot_discount) * p.slot_cost + 100 * owed) (100 * (begun + p.slot_loan * p.slot_cost)) && nat_le (p.slot_cost * left + owed) (begun + rest)) (nat_le (p.slot_cost * p.minimum_slots) (begun + rest)) pays.1 in
    let worth = and_parts (nat_le (left * (100 - p.slot_discount) * p.slot_cost + 100 * owed) (100 * (begun + p.slot_loan * p.slot_cost))) (nat_le (p.slot_cost * left + owed) (begun + rest)) front.0 in
    let less = paid p.slot_cost left (c.charged_to parent transport) begun rest (not-true (p.slot_cost == 0) cost.0) worth.1 in
    omega (arith, less, is)
