-- For callers: what the ranks of jobs say of where the jobs stand.
use Rattle.std.proofs.Common.{◌≡◌, ◌∙◌, ◌∷◌, ◌<◌, [], ap, arith, Bool, cond, false, length, List, map, None, refl, Some, sym, true, ℕ}
use Rattle.std.specs.List.{AllByRecursion}
use Rattle.std.specs.Option.{is_some}
use Rattle.std.specs.Prelude.{find}
use Rattle.q_model.proofs.IdLaws.{id_eq-true}
use Rattle.q_model.specs.declared.id.Id.{Id}
use Rattle.q_model.specs.Ids.{id_eq}
use Rattle.q_jobs.specs.declared.job.Job.{Job}
use Rattle.q_jobs.specs.Jobs.{account_in, AreOfOthers, AreRising, behind_jobs, is_job_of, rank_of, RiseFrom}
use Rattle.q_jobs.proofs.LineWalks.{lacks_behind}

some_step : (id : Id) (j : Job) (js : List Job) (q : ℕ) (rs : List ℕ) (t : Bool) → is_some (rank_of id js rs) ≡ is_some (find (is_job_of id) js) →
    is_some (cond t (Some q) (rank_of id js rs)) ≡ is_some (cond t (Some j) (find (is_job_of id) js))
some_step id j js q rs true rest = refl
some_step id j js q rs false rest = rest

-- just the messages with a job have a rank
pub ranked_with_job : (id : Id) (js : List Job) (rs : List ℕ) → length rs ≡ length js → is_some (rank_of id js rs) ≡ is_some (find (is_job_of id) js)
ranked_with_job id [] rs each = refl
ranked_with_job id (j ∷ js) [] each = absurd (omega (arith, each))
ranked_with_job id (j ∷ js) (q ∷ rs) each = some_step id j js q rs (id_eq j.id id) (ranked_with_job id js rs (omega (arith, each)))

-- jobs that change, but for their messages, keep their ranks
pub rank_changed : (id : Id) (f : Job → Job) (js : List Job) (rs : List ℕ) → ((j : Job) → (f j).id ≡ j.id) → rank_of id (map f js) rs ≡ rank_of id js rs
rank_changed id f [] rs same = refl
rank_changed id f (j ∷ js) [] same = refl
rank_changed id f (j ∷ js) (q ∷ rs) same =
    ap (λ i. cond (id_eq i id) (Some q) (rank_of id (map f js) rs)) (same j) ∙ ap (λ o. cond (id_eq j.id id) (Some q) o) (rank_changed id f js rs same)

account_step : (job j : Job) (t : Bool) → id_eq j.id job.id ≡ t → (cond t job j).id ≡ j.id
account_step job j true e = sym (id_eq-true j.id job.id e)
account_step job j false e = refl

-- so with another account of one
pub rank_put : (id : Id) (job : Job) (js : List Job) (rs : List ℕ) → rank_of id (map (account_in job) js) rs ≡ rank_of id js rs
rank_put id job js rs = rank_changed id (account_in job) js rs (λ j. account_step job j (id_eq j.id job.id) refl)

low_step : (limit q r : ℕ) (id : Id) (js : List Job) (rs : List ℕ) (t : Bool) → q < limit → cond t (Some q) (rank_of id js rs) ≡ Some r → (rank_of id js rs ≡ Some r → r < limit) → r < limit
low_step limit q r id js rs true low h rest = let same : q ≡ r = cc in omega (arith, same, low)
low_step limit q r id js rs false low h rest = rest h

pub rank_below : (limit r : ℕ) (id : Id) (js : List Job) (rs : List ℕ) → AllByRecursion (λ q. q < limit) rs → rank_of id js rs ≡ Some r → r < limit
rank_below limit r id [] rs low h = cc
rank_below limit r id (j ∷ js) [] low h = cc
rank_below limit r id (j ∷ js) (q ∷ rs) low h = low_step limit q r id js rs (id_eq j.id id) low.0 h (rank_below limit r id js rs low.1)

above_step : (low q r : ℕ) (id : Id) (js : List Job) (rs : List ℕ) (t : Bool) → low < q → cond t (Some q) (rank_of id js rs) ≡ Some r → (rank_of id js rs ≡ Some r → q < r) → low < r
above_step low q r id js rs true less h rest = let same : q ≡ r = cc in omega (arith, same, less)
above_step low q r id js rs false less h rest = omega (arith, rest h, less)

-- ranks that rise from one are above it
pub above : (low r : ℕ) (id : Id) (js : List Job) (rs : List ℕ) → RiseFrom low rs → rank_of id js rs ≡ Some r → low < r
above low r id [] rs rise h = cc
above low r id (j ∷ js) [] rise h = cc
above low r id (j ∷ js) (q ∷ rs) rise h = above_step low q r id js rs (id_eq j.id id) rise.0 h (above q r id js rs rise.1)

-- a job that is found behind another isn't this other one
pub other_behind : (b : Id) (j x : Job) (js : List Job) → find (is_job_of j.id) js ≡ None → find (is_job_of b) js ≡ Some x → id_eq j.id b ≡ true → ⊥
other_behind b j x js lacks found e =
    let none : find (is_job_of b) js ≡ None = ap (λ i. find (is_job_of i) js) (sym (id_eq-true j.id b e)) ∙ lacks in
    let some : find (is_job_of b) js ≡ Some x = found in
    cc

-- One that stands ahead of another has the lower rank.
ahead_step : (a b : Id) (j x : Job) (q r s : ℕ) (js : List Job) (rs : List ℕ) (t u : Bool) → id_eq j.id a ≡ t → id_eq j.id b ≡ u → find (is_job_of j.id) js ≡ None → RiseFrom q rs →
    find (is_job_of b) (cond t js (behind_jobs a js)) ≡ Some x → cond t (Some q) (rank_of a js rs) ≡ Some r → cond u (Some q) (rank_of b js rs) ≡ Some s →
    (find (is_job_of b) (behind_jobs a js) ≡ Some x → rank_of a js rs ≡ Some r → rank_of b js rs ≡ Some s → r < s) → r < s
ahead_step a b j x q r s js rs true true e f lacks rise found h k rest = absurd (other_behind b j x js lacks found f)
ahead_step a b j x q r s js rs true false e f lacks rise found h k rest =
    let same : q ≡ r = cc in
    omega (arith, same, above q s b js rs rise k)
ahead_step a b j x q r s js rs false true e f lacks rise found h k rest =
    absurd (other_behind b j x (behind_jobs a js) (lacks_behind j.id a js lacks) found f)
ahead_step a b j x q r s js rs false false e f lacks rise found h k rest = rest found h k

ahead_from : (low : ℕ) (a b : Id) (x : Job) (r s : ℕ) (js : List Job) (rs : List ℕ) → AreOfOthers js → RiseFrom low rs → find (is_job_of b) (behind_jobs a js) ≡ Some x → rank_of a js rs ≡ Some r → rank_of b js rs ≡ Some s → r < s
ahead_from low a b x r s [] rs apart rise found h k = cc
ahead_from low a b x r s (j ∷ js) [] apart rise found h k = cc
ahead_from low a b x r s (j ∷ js) (q ∷ rs) apart rise found h k =
    ahead_step a b j x q r s js rs (id_eq j.id a) (id_eq j.id b) refl refl apart.0 rise.1 found h k (ahead_from q a b x r s js rs apart.1 rise.1)

-- where the job of the second message stands behind that of the first, it has the higher rank
pub rank_lower : (a b : Id) (x : Job) (r s : ℕ) (js : List Job) (rs : List ℕ) → AreOfOthers js → AreRising rs → find (is_job_of b) (behind_jobs a js) ≡ Some x → rank_of a js rs ≡ Some r → rank_of b js rs ≡ Some s → r < s
rank_lower a b x r s js rs apart rise found h k = ahead_from 0 a b x r s js rs apart rise found h k

behind_step : (a b : Id) (j : Job) (q r s : ℕ) (js : List Job) (rs : List ℕ) (t u : Bool) → RiseFrom q rs → cond t (Some q) (rank_of a js rs) ≡ Some r → cond u (Some q) (rank_of b js rs) ≡ Some s → r < s →
    (rank_of a js rs ≡ Some r → rank_of b js rs ≡ Some s → find (is_job_of b) (behind_jobs a js) ≡ find (is_job_of b) js) →
    find (is_job_of b) (cond t js (behind_jobs a js)) ≡ cond u (Some j) (find (is_job_of b) js)
behind_step a b j q r s js rs true true rise h k less rest =
    let first : q ≡ r = cc in
    let second : q ≡ s = cc in
    absurd (omega (arith, first, second, less))
behind_step a b j q r s js rs true false rise h k less rest = refl
behind_step a b j q r s js rs false true rise h k less rest =
    let second : q ≡ s = cc in
    absurd (omega (arith, second, less, above q r a js rs rise h))
behind_step a b j q r s js rs false false rise h k less rest = rest h k

behind_from : (low : ℕ) (a b : Id) (r s : ℕ) (js : List Job) (rs : List ℕ) → RiseFrom low rs → rank_of a js rs ≡ Some r → rank_of b js rs ≡ Some s → r < s → find (is_job_of b) (behind_jobs a js) ≡ find (is_job_of b) js
behind_from low a b r s [] rs rise h k less = refl
behind_from low a b r s (j ∷ js) [] rise h k less = cc
behind_from low a b r s (j ∷ js) (q ∷ rs) rise h k less =
    behind_step a b j q r s js rs (id_eq j.id a) (id_eq j.id b) rise.1 h k less (λ h k. behind_from q a b r s js rs rise.1 h k less)

-- and the other way round: the job with the higher rank is found behind the other
pub behind_by_rank : (a b : Id) (r s : ℕ) (js : List Job) (rs : List ℕ) → AreRising rs → rank_of a js rs ≡ Some r → rank_of b js rs ≡ Some s → r < s → find (is_job_of b) (behind_jobs a js) ≡ find (is_job_of b) js
behind_by_rank a b r s js rs rise h k less = behind_from 0 a b r s js rs rise h k less

one_step : (a b : Id) (j : Job) (q r : ℕ) (js : List Job) (rs : List ℕ) (t u : Bool) → id_eq j.id a ≡ t → id_eq j.id b ≡ u → RiseFrom q rs → cond t (Some q) (rank_of a js rs) ≡ Some r → cond u (Some q) (rank_of b js rs) ≡ Some r →
    (rank_of a js rs ≡ Some r → rank_of b js rs ≡ Some r → a ≡ b) → a ≡ b
one_step a b j q r js rs true true e f rise h k rest = sym (id_eq-true j.id a e) ∙ id_eq-true j.id b f
one_step a b j q r js rs true false e f rise h k rest =
    let same : q ≡ r = cc in
    absurd (omega (arith, same, above q r b js rs rise k))
one_step a b j q r js rs false true e f rise h k rest =
    let same : q ≡ r = cc in
    absurd (omega (arith, same, above q r a js rs rise h))
one_step a b j q r js rs false false e f rise h k rest = rest h k

one_from : (low : ℕ) (a b : Id) (r : ℕ) (js : List Job) (rs : List ℕ) → RiseFrom low rs → rank_of a js rs ≡ Some r → rank_of b js rs ≡ Some r → a ≡ b
one_from low a b r [] rs rise h k = cc
one_from low a b r (j ∷ js) [] rise h k = cc
one_from low a b r (j ∷ js) (q ∷ rs) rise h k =
    one_step a b j q r js rs (id_eq j.id a) (id_eq j.id b) refl refl rise.1 h k (one_from q a b r js rs rise.1)

-- no two messages have one rank
pub one_rank : (a b : Id) (r : ℕ) (js : List Job) (rs : List ℕ) → AreRising rs → rank_of a js rs ≡ Some r → rank_of b js rs ≡ Some r → a ≡ b
one_rank a b r js rs rise h k = one_from 0 a b r js rs rise h k
