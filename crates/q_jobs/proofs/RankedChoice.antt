-- For callers: of the jobs that pass a test the first is the one with the least rank.
use Rattle.std.proofs.Common.{◌≡◌, ◌∙◌, ◌∷◌, ◌≤◌, [], ap, arith, Bool, cond, false, List, None, refl, Some, sym, true, ℕ}
use Rattle.std.specs.Prelude.{find}
use Rattle.q_model.proofs.IdLaws.{id_eq-refl}
use Rattle.q_model.specs.Ids.{id_eq}
use Rattle.q_jobs.specs.declared.job.Job.{Job}
use Rattle.q_jobs.specs.Jobs.{AreOfOthers, AreRising, is_job_of, rank_of, RiseFrom}
use Rattle.q_jobs.proofs.LineRanks.{above, other_behind}

-- a job that is found behind another is found in the line
find_more : (j x : Job) (js : List Job) (t : Bool) → id_eq j.id x.id ≡ t → find (is_job_of j.id) js ≡ None → find (is_job_of x.id) js ≡ Some x → cond t (Some j) (find (is_job_of x.id) js) ≡ Some x
find_more j x js true e lacks found = absurd (other_behind x.id j x js lacks found e)
find_more j x js false e lacks found = found

rank_more : (j x : Job) (q r : ℕ) (js : List Job) (rs : List ℕ) (t : Bool) → id_eq j.id x.id ≡ t → find (is_job_of j.id) js ≡ None → find (is_job_of x.id) js ≡ Some x → rank_of x.id js rs ≡ Some r → cond t (Some q) (rank_of x.id js rs) ≡ Some r
rank_more j x q r js rs true e lacks found h = absurd (other_behind x.id j x js lacks found e)
rank_more j x q r js rs false e lacks found h = h

-- no job that passes has a lower rank
abbrev pub IsLeast : (Job → Bool) → ℕ → List Job → List ℕ → Type 0
IsLeast p r js rs = (k : Job) (s : ℕ) → find (is_job_of k.id) js ≡ Some k → p k ≡ true
    → rank_of k.id js rs ≡ Some s → r ≤ s

least_step : (p : Job → Bool) (j x : Job) (q r : ℕ) (js : List Job) (rs : List ℕ) (t u : Bool) → p x ≡ t → id_eq x.id j.id ≡ u → RiseFrom q rs → p j ≡ true →
    cond u (Some x) (find (is_job_of j.id) js) ≡ Some j → cond u (Some q) (rank_of j.id js rs) ≡ Some r → (p x ≡ true → r ≤ q) →
    (find (is_job_of j.id) js ≡ Some j → rank_of j.id js rs ≡ Some r → find p js ≡ Some j) → cond t (Some x) (find p js) ≡ Some j
least_step p j x q r js rs true true e f rise passes found h least rest = found
least_step p j x q r js rs true false e f rise passes found h least rest = absurd (omega (arith, least e, above q r j.id js rs rise h))
least_step p j x q r js rs false true e f rise passes found h least rest =
    let same : x ≡ j = cc in
    let fails : p j ≡ false = ap p (sym same) ∙ e in
    cc
least_step p j x q r js rs false false e f rise passes found h least rest = rest found h

least_from : (p : Job → Bool) (j : Job) (low r : ℕ) (js : List Job) (rs : List ℕ) → AreOfOthers js → RiseFrom low rs → find (is_job_of j.id) js ≡ Some j → p j ≡ true → rank_of j.id js rs ≡ Some r → IsLeast p r js rs → find p js ≡ Some j
least_from p j low r [] rs apart rise found passes h least = cc
least_from p j low r (x ∷ js) [] apart rise found passes h least = cc
least_from p j low r (x ∷ js) (q ∷ rs) apart rise found passes h least =
    least_step p j x q r js rs (p x) (id_eq x.id j.id) refl refl rise.1 passes found h
    (λ e. least x q (ap (λ t. cond t (Some x) (find (is_job_of x.id) js)) (id_eq-refl x.id)) e (ap (λ t. cond t (Some q) (rank_of x.id js rs)) (id_eq-refl x.id)))
    (λ there rank. least_from p j q r js rs apart.1 rise.1 there passes rank
    (λ k s g e m. least k s (find_more x k js (id_eq x.id k.id) refl apart.0 g) e (rank_more x k q s js rs (id_eq x.id k.id) refl apart.0 g m)))

-- a job that passes, with the least rank of those that do
pub least_is_first : (p : Job → Bool) (j : Job) (r : ℕ) (js : List Job) (rs : List ℕ) → AreOfOthers js → AreRising rs → find (is_job_of j.id) js ≡ Some j → p j ≡ true → rank_of j.id js rs ≡ Some r → IsLeast p r js rs → find p js ≡ Some j
least_is_first p j r js rs apart rise found passes h least = least_from p j 0 r js rs apart rise found passes h least

own_step : (p : Job → Bool) (j x : Job) (js : List Job) (t : Bool) → find (is_job_of x.id) js ≡ None → cond t (Some x) (find p js) ≡ Some j → (find p js ≡ Some j → find (is_job_of j.id) js ≡ Some j) →
    find (is_job_of j.id) (x ∷ js) ≡ Some j
own_step p j x js true lacks found rest =
    let same : x ≡ j = cc in
    ap (λ t. cond t (Some x) (find (is_job_of j.id) js)) (ap (λ (y : Job). id_eq x.id y.id) (sym same) ∙ id_eq-refl x.id) ∙ ap Some same
own_step p j x js false lacks found rest = find_more x j js (id_eq x.id j.id) refl lacks (rest found)

-- a job that a test finds is that of its message
pub found_own : (p : Job → Bool) (j : Job) (js : List Job) → AreOfOthers js → find p js ≡ Some j → find (is_job_of j.id) js ≡ Some j
found_own p j [] apart found = cc
found_own p j (x ∷ js) apart found = own_step p j x js (p x) apart.0 found (found_own p j js apart.1)

first_step : (p : Job → Bool) (j k x : Job) (q r s : ℕ) (js : List Job) (rs : List ℕ) (t u v : Bool) → p x ≡ t → id_eq x.id j.id ≡ u → id_eq x.id k.id ≡ v → RiseFrom q rs → find (is_job_of x.id) js ≡ None → p k ≡ true →
    (find p js ≡ Some j → find (is_job_of j.id) js ≡ Some j) → cond t (Some x) (find p js) ≡ Some j → cond u (Some q) (rank_of j.id js rs) ≡ Some r →
    cond v (Some x) (find (is_job_of k.id) js) ≡ Some k → cond v (Some q) (rank_of k.id js rs) ≡ Some s →
    (find p js ≡ Some j → rank_of j.id js rs ≡ Some r → find (is_job_of k.id) js ≡ Some k → rank_of k.id js rs ≡ Some s → r ≤ s) → r ≤ s
first_step p j k x q r s js rs t true true e f g rise lacks passes own found h there m rest =
    let first : q ≡ r = cc in
    let second : q ≡ s = cc in
    omega (arith, first, second)
first_step p j k x q r s js rs t true false e f g rise lacks passes own found h there m rest =
    let first : q ≡ r = cc in
    omega (arith, first, above q s k.id js rs rise m)
first_step p j k x q r s js rs true false v e f g rise lacks passes own found h there m rest =
    let same : x ≡ j = cc in
    let its : id_eq x.id j.id ≡ true = ap (λ (y : Job). id_eq x.id y.id) (sym same) ∙ id_eq-refl x.id in
    cc
first_step p j k x q r s js rs false false true e f g rise lacks passes own found h there m rest =
    let same : x ≡ k = cc in
    let fails : p k ≡ false = ap p (sym same) ∙ e in
    cc
first_step p j k x q r s js rs false false false e f g rise lacks passes own found h there m rest = rest found h there m

first_from : (p : Job → Bool) (j : Job) (low r : ℕ) (js : List Job) (rs : List ℕ) → AreOfOthers js → RiseFrom low rs → find p js ≡ Some j → rank_of j.id js rs ≡ Some r → IsLeast p r js rs
first_from p j low r [] rs apart rise found h k s there passes m = cc
first_from p j low r (x ∷ js) [] apart rise found h k s there passes m = cc
first_from p j low r (x ∷ js) (q ∷ rs) apart rise found h k s there passes m =
    first_step p j k x q r s js rs (p x) (id_eq x.id j.id) (id_eq x.id k.id) refl refl refl rise.1 apart.0 passes (found_own p j js apart.1) found h there m
    (λ found h there m. first_from p j q r js rs apart.1 rise.1 found h k s there passes m)

-- and the other way round: the first that passes has the least rank of those that do
pub first_is_least : (p : Job → Bool) (j : Job) (r : ℕ) (js : List Job) (rs : List ℕ) → AreOfOthers js → AreRising rs → find p js ≡ Some j → rank_of j.id js rs ≡ Some r → IsLeast p r js rs
first_is_least p j r js rs apart rise found h = first_from p j 0 r js rs apart rise found h
