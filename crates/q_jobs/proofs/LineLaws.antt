-- The calls of a line in the words of keyed items.
use Rattle.std.proofs.Common.{◌≡◌, ◌∙◌, ◌∷◌, ◌<◌, ◌≤◌, [], ap, arith, Bool, cond, false, length, List, map, None, Option, refl, Some, subst, sym, true, ℕ}
use Rattle.std.specs.Option.{option_map_or}
use Rattle.std.specs.Prelude.{filter, find, IfSome, not}
use Rattle.q_model.proofs.IdLaws.{id_eq-true}
use Rattle.q_model.specs.declared.id.Id.{Id}
use Rattle.q_model.specs.Ids.{id_eq}
use Rattle.q_model.specs.Lists.{drop_first}
use Rattle.q_jobs.specs.declared.job.Job.{Job}
use Rattle.q_jobs.specs.Jobs.{account_in, AreOfOthers, behind_jobs, is_job_of, is_job_of_another, moved_job, put_job}
use Rattle.q_keyed.proofs.Values.{behind_where, change_none, find_none, fewer, held_item, inserted_where, item_found, keep_none, left_none, left_values, NonePass, none_passes, one_under, OnePasses, put_values}
use Rattle.q_keyed.specs.Numbered.{AreApart, AreKeysApart, first_such, item_at, Numbered, put_at, values_of, without_number}

pub behind_is : (id : Id) (js : List Job) → behind_where (is_job_of id) js ≡ behind_jobs id js
behind_is id [] = refl
behind_is id (j ∷ js) = ap (λ ks. cond (id_eq j.id id) js ks) (behind_is id js)

pub put_is : (job : Job) (parent : Id) (js : List Job) → inserted_where (is_job_of parent) job js ≡ put_job job parent js
put_is job parent [] = refl
put_is job parent (j ∷ js) = ap (λ ks. cond (id_eq j.id parent) (job ∷ j ∷ js) (j ∷ ks)) (put_is job parent js)

pub put_none : (job : Job) (parent : Id) (js : List Job) → NonePass (is_job_of parent) js → put_job job parent js ≡ js
put_none job parent [] h = refl
put_none job parent (j ∷ js) h = ap (λ t. cond t (job ∷ j ∷ js) (j ∷ put_job job parent js)) h.0 ∙ ap (λ ks. j ∷ ks) (put_none job parent js h.1)

all_other : (id : Id) (js : List Job) → NonePass (is_job_of id) js → behind_jobs id js ≡ []
all_other id [] h = refl
all_other id (j ∷ js) h = ap (λ t. cond t js (behind_jobs id js)) h.0 ∙ all_other id js h.1

drop_step : (p : Job → Bool) (j : Job) (js : List Job) (t : Bool) → p j ≡ t → (p j ≡ true → NonePass p js) → filter (λ j. not (p j)) js ≡ drop_first p js →
    cond (not t) (j ∷ filter (λ j. not (p j)) js) (filter (λ j. not (p j)) js) ≡ cond t js (j ∷ drop_first p js)
drop_step p j js true e one rest = keep_none p js (one e)
drop_step p j js false e one rest = ap (λ ks. j ∷ ks) rest

-- where one passes at most, without it and without the first are the same
pub drop_is : (p : Job → Bool) (js : List Job) → OnePasses p js → filter (λ j. not (p j)) js ≡ drop_first p js
drop_is p [] one = refl
drop_is p (j ∷ js) one = drop_step p j js (p j) refl one.0 (drop_is p js one.1)

pub apart_jobs : (ks : List (Numbered Job)) → AreKeysApart id_eq (λ (j : Job). j.id) ks → AreOfOthers (values_of ks)
apart_jobs [] h = tt
apart_jobs (k ∷ ks) h = (find_none (is_job_of k.item.id) (values_of ks) (none_passes (is_job_of k.item.id) ks h.0), apart_jobs ks h.1)

pub one_job : (id : Id) (ks : List (Numbered Job)) → AreKeysApart id_eq (λ (j : Job). j.id) ks → OnePasses (is_job_of id) (values_of ks)
one_job id ks h = one_under id_eq (λ (j : Job). j.id) id_eq-true id ks h

own_key : (id : Id) (o : Option Job) (y : Job) → o ≡ Some y → is_job_of id y ≡ true → IfSome o (λ j. j.id ≡ id)
own_key id None y h e = cc
own_key id (Some x) y h e = let same : x ≡ y = cc in ap (λ (j : Job). j.id) same ∙ id_eq-true y.id id e

-- The message has a job under this number.
module _ (id : Id) (n : ℕ) (ks : List (Numbered Job)) (apart : AreApart ks) (keys : AreKeysApart id_eq (λ (j : Job). j.id) ks) (found : first_such (is_job_of id) ks ≡ Some n) where
  pub own : IfSome (item_at n ks) (λ j. j.id ≡ id)
  own = let it = held_item (is_job_of id) n ks apart found in own_key id (item_at n ks) it.0 it.1 it.2

  -- the job that stands there
  pub own_job : (job : Job) → item_at n ks ≡ Some job → job.id ≡ id
  own_job job there = subst (λ (o : Option Job). IfSome o (λ j. j.id ≡ id)) there own

  pub not_gone : item_at n ks ≡ None → ⊥
  not_gone none =
      let it = held_item (is_job_of id) n ks apart found in
      let some : ◌≡◌ {A = Option Job} None (Some it.0) = sym none ∙ it.1 in
      cc

  pub put_there : (job : Job) → job.id ≡ id → values_of (map (put_at n job) ks) ≡ map (account_in job) (values_of ks)
  put_there job same =
      let it = held_item (is_job_of id) n ks apart found in
      put_values (is_job_of id) (λ j. job) n it.0 job ks apart (one_job id ks keys) found it.1 refl
      ∙ ap (λ i. map (λ (j : Job). cond (id_eq j.id i) job j) (values_of ks)) (sym same)

  pub leave_there : values_of (without_number n ks) ≡ filter (is_job_of_another id) (values_of ks)
  leave_there = left_values (is_job_of id) n ks apart (one_job id ks keys) found

  pub none_left : NonePass (is_job_of id) (values_of (without_number n ks))
  none_left = rw leave_there (left_none (is_job_of id) (values_of ks))

  pub fewer_left : (room : ℕ) → length ks ≤ room → length (without_number n ks) < room
  fewer_left room within = let one = fewer (is_job_of id) n ks apart found in omega (arith, one, within)

  -- what the move of a job comes to, whose job was taken out
  pub moved_is : (parent : Id) (job : Job) → item_at n ks ≡ Some job → moved_job id parent (values_of ks) ≡ put_job job parent (values_of (without_number n ks))
  moved_is parent job there =
      ap (λ o. option_map_or (λ j. put_job j parent (drop_first (is_job_of id) (values_of ks))) o (values_of ks)) (sym (item_found (is_job_of id) n ks apart found) ∙ there)
      ∙ ap (put_job job parent) (sym (leave_there ∙ drop_is (is_job_of id) (values_of ks) (one_job id ks keys)))

-- The message has none.
module _ (id : Id) (ks : List (Numbered Job)) (none : first_such (is_job_of id) ks ≡ None) where
  pub not_found : find (is_job_of id) (values_of ks) ≡ None
  not_found = find_none (is_job_of id) (values_of ks) (none_passes (is_job_of id) ks none)

  pub put_nowhere : (job : Job) → job.id ≡ id → map (account_in job) (values_of ks) ≡ values_of ks
  put_nowhere job same =
      ap (λ i. map (λ (j : Job). cond (id_eq j.id i) job j) (values_of ks)) same
      ∙ change_none (is_job_of id) (λ j. job) (values_of ks) (none_passes (is_job_of id) ks none)

  pub leave_nowhere : filter (is_job_of_another id) (values_of ks) ≡ values_of ks
  leave_nowhere = keep_none (is_job_of id) (values_of ks) (none_passes (is_job_of id) ks none)

  pub behind_nothing : behind_jobs id (values_of ks) ≡ []
  behind_nothing = all_other id (values_of ks) (none_passes (is_job_of id) ks none)

  pub moved_nowhere : (parent : Id) → moved_job id parent (values_of ks) ≡ values_of ks
  moved_nowhere parent = ap (λ o. option_map_or (λ j. put_job j parent (drop_first (is_job_of id) (values_of ks))) o (values_of ks)) not_found
