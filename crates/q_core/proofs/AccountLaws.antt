-- What entries add to the accounts of jobs.
use Rattle.std.proofs.Common.{◌≡◌, ℕ, ◌+◌, ◌≤◌, ◌<◌, ◌^◌, Bool, true, false, cond, List, [], ◌∷◌, map, take_while, refl, sym, ap, ◌∙◌, zero-add, suc, Some, slice_get, arith, lt-ltb}
use Rattle.std.specs.Prelude.{not, ◌&&◌, ◌==◌, count_by, nat_lt, sum_by, if◌then◌else◌}
use Rattle.std.specs.List.{enumerate_from}
use Rattle.std.proofs.lemmas.List.Sums.{take_while-cons, sum_by-cons}
use Rattle.q_core.specs.Agrees.{job_of, jobs_of}
use Rattle.q_core.specs.Sending.{started_job, started_line, with_start}
use Rattle.q_jobs.specs.declared.job.Job.{Job}
use Rattle.q_model.specs.Accounts.{is_admit_of, is_start_of, charge_of, charged, since_admit, starts_of}
use Rattle.q_model.specs.Ids.{id_eq}
use Rattle.q_model.specs.Ledger.{Ledger}
use Rattle.q_model.specs.Past.{is_start, starts}
use Rattle.q_model.specs.Step.{noted}
use Rattle.q_model.specs.Values.{Site}
use Rattle.q_model.specs.declared.entry.Entry.{Entry}
use Rattle.q_model.specs.declared.entry.Entry.TheVariants as entries
use Rattle.q_model.specs.declared.id.Id.{Id}

-- ---- an entry more

-- an entry that doesn't admit the id is one more since then
since_more : (e : Entry) (l : Ledger) (k : Id) → is_admit_of k e ≡ false → since_admit (noted e l) k ≡ e ∷ since_admit l k
since_more e l k h = take_while-cons (λ x. not (is_admit_of k x)) e l.past ∙ ap (λ b. cond (not b) (e ∷ since_admit l k) []) h

starts_more : (e : Entry) (l : Ledger) (k : Id) (t : ℕ) → is_admit_of k e ≡ false → starts_of (noted e l) k t ≡ cond (is_start_of k t e) 1 0 + starts_of l k t
starts_more e l k t h = ap (count_by (is_start_of k t)) (since_more e l k h) ∙ sum_by-cons (λ x. cond (is_start_of k t x) 1 0) e (since_admit l k)

charged_more : (e : Entry) (l : Ledger) (k : Id) (t : ℕ) → is_admit_of k e ≡ false → charged (noted e l) k t ≡ charge_of k t e + charged l k t
charged_more e l k t h = ap (sum_by (charge_of k t)) (since_more e l k h) ∙ sum_by-cons (charge_of k t) e (since_admit l k)

-- ---- no job begins more than the life does

start_of_one : (k : Id) (t : ℕ) (e : Entry) → cond (is_start_of k t e) 1 0 ≤ cond (is_start e) 1 0
start_of_one k t (entries.Start number id site positions) = at_most (is_start_of k t (entries.Start number id site positions))
  where
    at_most : (b : Bool) → cond b 1 0 ≤ 1
    at_most true = omega arith
    at_most false = omega arith
start_of_one k t (entries.Life generation mode) = omega arith
start_of_one k t (entries.At moment) = omega arith
start_of_one k t (entries.Arrive id sender to content) = omega arith
start_of_one k t (entries.Back id) = omega arith
start_of_one k t (entries.Admit id) = omega arith
start_of_one k t (entries.Load id from to) = omega arith
start_of_one k t (entries.Preempt child parent transport need) = omega arith
start_of_one k t (entries.Reply number state outcomes) = omega arith
start_of_one k t (entries.Skip id site positions) = omega arith
start_of_one k t (entries.Log id failure) = omega arith
start_of_one k t (entries.Mark id position) = omega arith
start_of_one k t (entries.Sync id) = omega arith
start_of_one k t (entries.Defer id due) = omega arith
start_of_one k t (entries.Bounce id) = omega arith
start_of_one k t (entries.Remove id) = omega arith
start_of_one k t (entries.Corrupt id) = omega arith
start_of_one k t (entries.Trigger kind) = omega arith
start_of_one k t entries.End = omega arith

starts_step : (k : Id) (t : ℕ) (e : Entry) (es fs : List Entry) → count_by (is_start_of k t) fs ≤ count_by is_start es → (b : Bool) → count_by (is_start_of k t) (cond b (e ∷ fs) []) ≤ count_by is_start (e ∷ es)
starts_step k t e es fs less false = omega arith
starts_step k t e es fs less true =
    let one = start_of_one k t e in
    let mine = sum_by-cons (λ x. cond (is_start_of k t x) 1 0) e fs in
    let all = sum_by-cons (λ x. cond (is_start x) 1 0) e es in
    omega (arith, one, mine, all, less)

starts_within : (k : Id) (t : ℕ) (f : Entry → Bool) (es : List Entry) → count_by (is_start_of k t) (take_while f es) ≤ count_by is_start es
starts_within k t f [] = omega arith
starts_within k t f (e ∷ es) =
    let step = starts_step k t e es (take_while f es) (starts_within k t f es) (f e) in
    let same : count_by (is_start_of k t) (take_while f (e ∷ es)) ≡ count_by (is_start_of k t) (cond (f e) (e ∷ take_while f es) []) = ap (count_by (is_start_of k t)) (take_while-cons f e es) in
    omega (arith, step, same)

pub starts_of-le : (l : Ledger) (k : Id) (t : ℕ) → starts_of l k t ≤ starts l
starts_of-le l k t = starts_within k t (λ e. not (is_admit_of k e)) l.past

-- ---- a delivery begins

started_is : (b : Bool) (j : Job) → nat_lt j.starts (2 ^ 48) ≡ true → (if b then with_start j else j) ≡ record j { starts = cond b 1 0 + j.starts }
started_is true j h = ap (λ c. if c then record j { starts = j.starts + 1 } else j) h ∙ ap (λ n. record j { starts = n }) (omega arith)
started_is false j h = ap (λ n. record j { starts = n }) (sym (zero-add j.starts))

job_begun : (l : Ledger) (number : ℕ) (id : Id) (site : Site) (positions : List ℕ) (t : ℕ) → starts l < 2 ^ 48 → (k : Id) →
    started_job id site.transport t (job_of l t k) ≡ job_of (noted (entries.Start number id site positions) l) t k
job_begun l number id site positions t few k =
    let less = starts_of-le l k t in
    started_is (id_eq id k && (site.transport == t)) (job_of l t k) (lt-ltb (starts_of l k t) (2 ^ 48) (omega (arith, few, less)))
    ∙ ap (λ n. record { id = k; starts = cond (id_eq id k && (site.transport == t)) 1 0 + starts_of l k t; charged = n })
    (sym (charged_more (entries.Start number id site positions) l k t refl ∙ zero-add (charged l k t)))
    ∙ ap (λ n. record { id = k; starts = n; charged = charged (noted (entries.Start number id site positions) l) k t }) (sym (starts_more (entries.Start number id site positions) l k t refl))

-- ---- lines, where each job changes

pub map-twice : {X Y Z : Type 0} (f : Y → Z) (g : X → Y) (k : X → Z) → ((x : X) → f (g x) ≡ k x) → (xs : List X) → map f (map g xs) ≡ map k xs
map-twice f g k same [] = refl
map-twice f g k same (x ∷ xs) = ap (λ y. y ∷ map f (map g xs)) (same x) ∙ ap (λ ys. k x ∷ ys) (map-twice f g k same xs)

pub lines_begun : (l : Ledger) (number : ℕ) (id : Id) (site : Site) (positions : List ℕ) → starts l < 2 ^ 48 → (n : ℕ) (ls : List (List Id)) →
    map (started_line id site.transport) (enumerate_from n (map (jobs_of l) (enumerate_from n ls))) ≡ map (jobs_of (noted (entries.Start number id site positions) l)) (enumerate_from n ls)
lines_begun l number id site positions few n [] = refl
lines_begun l number id site positions few n (ids ∷ ls) =
    let e : Entry = entries.Start number id site positions in
    ap (λ js. js ∷ map (started_line id site.transport) (enumerate_from (n + 1) (map (jobs_of l) (enumerate_from (n + 1) ls))))
    (map-twice (started_job id site.transport n) (job_of l n) (job_of (noted e l) n) (job_begun l number id site positions n few) ids)
    ∙ ap (λ rest. map (job_of (noted e l) n) ids ∷ rest) (lines_begun l number id site positions few (n + 1) ls)

-- ---- a job is charged

pub job_charged : (l : Ledger) (child parent : Id) (transport need t : ℕ) (k : Id) →
    job_of (noted (entries.Preempt child parent transport need) l) t k ≡ record { id = k; starts = starts_of l k t; charged = (if id_eq parent k && (transport == t) then need else 0) + charged l k t }
job_charged l child parent transport need t k =
    ap (λ n. record { id = k; starts = n; charged = charged (noted (entries.Preempt child parent transport need) l) k t })
    (starts_more (entries.Preempt child parent transport need) l k t refl ∙ zero-add (starts_of l k t))
    ∙ ap (λ n. record { id = k; starts = starts_of l k t; charged = n }) (charged_more (entries.Preempt child parent transport need) l k t refl)

-- ---- lines of which each changes

pub lines_changed : (l k : Ledger) (f : (ℕ × List Job) → List Job) (g : (ℕ × List Id) → List Id) (n : ℕ) (ls : List (List Id)) →
    ((i j : ℕ) (ids : List Id) → j ≡ n + i → slice_get ls i ≡ Some ids → f (j, map (job_of l j) ids) ≡ map (job_of k j) (g (j, ids))) →
    map f (enumerate_from n (map (jobs_of l) (enumerate_from n ls))) ≡ map (jobs_of k) (enumerate_from n (map g (enumerate_from n ls)))
lines_changed l k f g n [] h = refl
lines_changed l k f g n (ids ∷ ls) h =
    ap (λ js. js ∷ map f (enumerate_from (n + 1) (map (jobs_of l) (enumerate_from (n + 1) ls)))) (h 0 n ids (omega arith) refl)
    ∙ ap (λ rest. map (job_of k n) (g (n, ids)) ∷ rest)
    (lines_changed l k f g (n + 1) ls (λ i j xs e there.
    let next : i + 1 ≡ suc i = omega arith in
    h (i + 1) j xs (omega (arith, e)) (ap (slice_get (ids ∷ ls)) next ∙ there)))
