-- For callers: walks along a line, and a change of the job of one message.
use Rattle.std.proofs.Common.{◌≡◌, ◌∙◌, ◌∷◌, ◌<◌, [], ap, arith, Bool, cond, false, length, List, map, None, Option, refl, Some, suc, sym, true}
use Rattle.std.specs.Prelude.{find}
use Rattle.q_model.proofs.IdLaws.{id_eq-refl, id_eq-true}
use Rattle.q_model.specs.declared.id.Id.{Id}
use Rattle.q_model.specs.Ids.{id_eq}
use Rattle.q_jobs.specs.declared.job.Job.{Job}
use Rattle.q_jobs.specs.Jobs.{account_in, AreOfOthers, behind_jobs, changed_job, first_job, is_job_of, jobs_from}

flip_step : (a b : Id) (t u : Bool) → id_eq a b ≡ t → id_eq b a ≡ u → t ≡ u
flip_step a b true true e f = refl
flip_step a b false false e f = refl
flip_step a b true false e f =
    let own : id_eq b a ≡ true = ap (id_eq b) (id_eq-true a b e) ∙ id_eq-refl b in
    cc
flip_step a b false true e f =
    let own : id_eq a b ≡ true = ap (id_eq a) (id_eq-true b a f) ∙ id_eq-refl a in
    cc

-- ids are equal either way round
pub flipped : (a b : Id) → id_eq a b ≡ id_eq b a
flipped a b = flip_step a b (id_eq a b) (id_eq b a) refl refl

-- all from the first on
pub from_first : (js : List Job) → jobs_from (first_job js) js ≡ js
from_first [] = refl
from_first (j ∷ js) = ap (λ t. j ∷ cond t js (behind_jobs j.id js)) (id_eq-refl j.id)

-- a job isn't among those that have none of its message
lacks_step : (id : Id) (j : Job) (js : List Job) (t : Bool) → id_eq j.id id ≡ t → cond t (Some j) (find (is_job_of id) js) ≡ None → (t ≡ false) × (find (is_job_of id) js ≡ None)
lacks_step id j js true e h = cc
lacks_step id j js false e h = (refl, h)

lacks_head : (id : Id) (j : Job) (js : List Job) → find (is_job_of id) (j ∷ js) ≡ None → (id_eq j.id id ≡ false) × (find (is_job_of id) js ≡ None)
lacks_head id j js h = lacks_step id j js (id_eq j.id id) refl h

lacks_behind_step : (id of : Id) (j : Job) (js : List Job) (t : Bool) → find (is_job_of id) js ≡ None → find (is_job_of id) (behind_jobs of js) ≡ None → find (is_job_of id) (cond t js (behind_jobs of js)) ≡ None
lacks_behind_step id of j js true h rest = h
lacks_behind_step id of j js false h rest = rest

pub lacks_behind : (id of : Id) (js : List Job) → find (is_job_of id) js ≡ None → find (is_job_of id) (behind_jobs of js) ≡ None
lacks_behind id of [] h = refl
lacks_behind id of (j ∷ js) h =
    let parts = lacks_head id j js h in
    lacks_behind_step id of j js (id_eq j.id of) parts.1 (lacks_behind id of js parts.1)

from_behind : (j : Job) (js ks : List Job) → find (is_job_of j.id) ks ≡ None → jobs_from (first_job ks) js ≡ ks → jobs_from (first_job ks) (j ∷ js) ≡ ks
from_behind j js [] none rest = refl
from_behind j js (k ∷ ks) none rest =
    let parts = lacks_head j.id k ks none in
    ap (λ t. k ∷ cond t js (behind_jobs k.id js)) (flipped j.id k.id ∙ parts.0) ∙ rest

from_own : (j : Job) (js : List Job) → find (is_job_of j.id) js ≡ None → jobs_from (first_job js) (j ∷ js) ≡ js
from_own j js none = from_behind j js js none (from_first js)

next_step : (id : Id) (j : Job) (js : List Job) (t : Bool) → find (is_job_of j.id) js ≡ None → jobs_from (first_job (behind_jobs id js)) js ≡ behind_jobs id js →
    jobs_from (first_job (cond t js (behind_jobs id js))) (j ∷ js) ≡ cond t js (behind_jobs id js)
next_step id j js true none rest = from_own j js none
next_step id j js false none rest = from_behind j js (behind_jobs id js) (lacks_behind j.id id js none) rest

-- all from the one right behind a job on
pub from_next : (id : Id) (js : List Job) → AreOfOthers js → jobs_from (first_job (behind_jobs id js)) js ≡ behind_jobs id js
from_next id [] apart = refl
from_next id (j ∷ js) apart = next_step id j js (id_eq j.id id) apart.0 (from_next id js apart.1)

-- One step of a walk, from a job to the one right behind it.
module _ (js : List Job) (apart : AreOfOthers js) (at next : Option Job) (j : Job) (here : at ≡ Some j) (is : next ≡ first_job (behind_jobs j.id js)) where
  behind : jobs_from next js ≡ behind_jobs j.id js
  behind = ap (λ o. jobs_from o js) is ∙ from_next j.id js apart

  pub shorter : length (jobs_from next js) < length (jobs_from at js)
  shorter =
      let from : length (jobs_from at js) ≡ suc (length (behind_jobs j.id js)) = ap (λ o. length (jobs_from o js)) here in
      let left : length (jobs_from next js) ≡ length (behind_jobs j.id js) = ap length behind in
      omega (arith, from, left)

  -- the job doesn't pass, so the first that does stands behind it
  pub found_behind : (p : Job → Bool) → p j ≡ false → find p (jobs_from next js) ≡ find p (jobs_from at js)
  found_behind p h =
      ap (find p) behind
      ∙ sym (ap (λ t. cond t (Some j) (find p (behind_jobs j.id js))) h)
      ∙ sym (ap (λ o. find p (jobs_from o js)) here)

-- a message without a job has none to change
pub none_changed : (id : Id) (f : Job → Job) (js : List Job) → find (is_job_of id) js ≡ None → map (changed_job id f) js ≡ js
none_changed id f [] h = refl
none_changed id f (j ∷ js) h =
    let parts = lacks_head id j js h in
    ap (λ t. cond t (f j) j ∷ map (changed_job id f) js) parts.0 ∙ ap (λ ks. j ∷ ks) (none_changed id f js parts.1)

none_in : (job : Job) (js : List Job) → find (is_job_of job.id) js ≡ None → map (account_in job) js ≡ js
none_in job [] h = refl
none_in job (j ∷ js) h =
    let parts = lacks_head job.id j js h in
    ap (λ t. cond t job j ∷ map (account_in job) js) parts.0 ∙ ap (λ ks. j ∷ ks) (none_in job js parts.1)

change_step : (id : Id) (f : Job → Job) (new j k : Job) (js : List Job) (t : Bool) → id_eq k.id id ≡ t → new.id ≡ id → find (is_job_of k.id) js ≡ None → cond t (Some k) (find (is_job_of id) js) ≡ Some j → new ≡ f j →
    (find (is_job_of id) js ≡ Some j → map (account_in new) js ≡ map (changed_job id f) js) →
    cond t new k ∷ map (account_in new) js ≡ cond t (f k) k ∷ map (changed_job id f) js
change_step id f new j k js true e of none found is rest =
    let same : k ≡ j = cc in
    let lacks : find (is_job_of id) js ≡ None = ap (λ i. find (is_job_of i) js) (sym (id_eq-true k.id id e)) ∙ none in
    ap (λ x. x ∷ map (account_in new) js) (is ∙ ap f (sym same))
    ∙ ap (λ ks. f k ∷ ks) (none_in new js (ap (λ i. find (is_job_of i) js) of ∙ lacks) ∙ sym (none_changed id f js lacks))
change_step id f new j k js false e of none found is rest = ap (λ ks. k ∷ ks) (rest found)

-- another account of the message's job is a change of it
pub put_changes : (id : Id) (f : Job → Job) (new j : Job) (js : List Job) → AreOfOthers js → new.id ≡ id → find (is_job_of id) js ≡ Some j → new ≡ f j →
    map (account_in new) js ≡ map (changed_job id f) js
put_changes id f new j [] apart of found is = refl
put_changes id f new j (k ∷ js) apart of found is =
    ap (λ i. cond (id_eq k.id i) new k ∷ map (account_in new) js) of
    ∙ change_step id f new j k js (id_eq k.id id) refl of apart.0 found is (λ e. put_changes id f new j js apart.1 of e is)
