-- After each change of lines, and after rows are added, nothing has to go but what was touched.
use Rattle.q_jobs.specs.Jobs.{moved_job, put_job}
use Rattle.std.proofs.Common.{◌≡◌, ℕ, Bool, true, false, List, [], ◌∷◌, ◌++◌, map, find, Option, Some, None, inl, inr, refl, ap, subst, if◌then◌else◌, replicate, suc, zero}
use Rattle.std.proofs.lemmas.Bool.{and_from, or_left}
use Rattle.std.specs.List.{enumerate_from}
use Rattle.std.specs.Option.{option_map_or}
use Rattle.std.specs.Prelude.{◌&&◌, ◌||◌, ◌==◌, slice_get}
use Rattle.q_core.proofs.StayLaws.{any_appended, stays_by}
use Rattle.q_core.proofs.StillTidyLaws.{jobs_mapped, lines_mapped, lines_touched}
use Rattle.q_core.proofs.TouchedLaws.{touched_here}
use Rattle.q_core.specs.Loading.{joined_line, joins_in}
use Rattle.q_core.specs.Sending.{charged_job, preempted_line, started_job, started_line, with_charge, with_start}
use Rattle.q_core.specs.Tidied.{stays_among, tidied_jobs, tidied_line}
use Rattle.q_core.specs.Touched.{DoJobsStay, IsTidyBut, is_touched, jobs_stay, touched_with}
use Rattle.q_jobs.specs.declared.job.Job.{Job}
use Rattle.q_pool.specs.declared.slot.Slot.{Slot}
use Rattle.q_core.specs.declared.touched.Touched.{Touched}
use Rattle.q_core.specs.declared.touched.Touched.TheVariants.{Nothing}
use Rattle.q_laws.proofs.Members.{IsIn, all_append, all_at, all_from, find_in, in_dropped, in_filtered}
use Rattle.q_model.proofs.IdLaws.{id_eq-refl, id_eq-true}
use Rattle.q_model.specs.Ids.{id_eq}
use Rattle.q_model.specs.Lists.{drop_first}
use Rattle.q_model.specs.declared.id.Id.{Id}
use Rattle.q_model.specs.declared.rows.Row.{Row}

job_either : (b : Bool) (x y : Job) (v : Id) → x.id ≡ v → y.id ≡ v → (if b then x else y).id ≡ v
job_either true x y v h k = h
job_either false x y v h k = k

-- ---- a delivery is counted

started_id : (id : Id) (t at : ℕ) (j : Job) → (started_job id t at j).id ≡ j.id
started_id id t at j = job_either (id_eq id j.id && (t == at)) (with_start j) j j.id (job_either _ _ j j.id refl refl) refl

pub start_counted : {m : Touched Id} {a : List Slot} {w : List Row} {ls : List (List Job)} →
    (id : Id) (transport : ℕ) → IsTidyBut m a w ls → IsTidyBut m a w (map (started_line id transport) (enumerate_from 0 ls))
start_counted {m = m} {a = a} {w = w} {ls = ls} id transport t =
    record { jobs = lines_mapped m a w (started_line id transport) ls (λ k js e. jobs_mapped m a w k (started_job id transport k) (started_id id transport k) js (t.jobs k js e)) }

-- ---- a job goes before another

put_step : (b : Bool) (x job j : Job) (js rest : List Job) → (IsIn x rest → IsIn x (job ∷ js)) → IsIn x (if b then job ∷ j ∷ js else j ∷ rest) → IsIn x (job ∷ j ∷ js)
put_step true x job j js rest h k = k
put_step false x job j js rest h (inl e) = inr (inl e)
put_step false x job j js rest h (inr k) = elim (h k) [ inl e ↦ inl e | inr g ↦ inr (inr g) ]

in_put : (job : Job) (parent : Id) (x : Job) (js : List Job) → IsIn x (put_job job parent js) → IsIn x (job ∷ js)
in_put job parent x [] h = absurd h
in_put job parent x (j ∷ js) h = put_step (id_eq j.id parent) x job j js (put_job job parent js) (in_put job parent x js) h

put_from : (p : Job → Bool) (x job : Job) (js : List Job) → find p js ≡ Some job → IsIn x (job ∷ drop_first p js) → IsIn x js
put_from p x job js e (inl same) = subst (λ z. IsIn z js) same (find_in p job js e).0
put_from p x job js e (inr h) = in_dropped p x js h

moved_from : (child parent : Id) (x : Job) (js : List Job) (o : Option Job) → find (λ (j : Job). id_eq j.id child) js ≡ o →
    IsIn x (option_map_or (λ job. put_job job parent (drop_first (λ (j : Job). id_eq j.id child) js)) o js) → IsIn x js
moved_from child parent x js None e h = h
moved_from child parent x js (Some job) e h = put_from (λ (j : Job). id_eq j.id child) x job js e (in_put job parent x (drop_first (λ (j : Job). id_eq j.id child) js) h)

moved_or : (m : Touched Id) (a : List Slot) (w : List Row) (n : ℕ) (child parent : Id) (js : List Job) (b : Bool) → jobs_stay m a w n js ≡ true → jobs_stay m a w n (if b then moved_job child parent js else js) ≡ true
moved_or m a w n child parent js false h = h
moved_or m a w n child parent js true h =
    let stay = λ (j : Job). is_touched id_eq m j.id || stays_among a w n j.id in
    all_from stay (moved_job child parent js) (λ x inside. all_at stay x js h (moved_from child parent x js (find (λ (j : Job). id_eq j.id child) js) refl inside))

charged_id : (id : Id) (t need left at : ℕ) (j : Job) → (charged_job id t need left at j).id ≡ j.id
charged_id id t need left at j = job_either (id_eq id j.id && (t == at)) (with_charge need left j) j j.id refl refl

pub job_moved : {m : Touched Id} {a : List Slot} {w : List Row} {ls : List (List Job)} →
    (child parent : Id) (transport need left : ℕ) → IsTidyBut m a w ls → IsTidyBut m a w (map (preempted_line child parent transport need left) (enumerate_from 0 ls))
job_moved {m = m} {a = a} {w = w} {ls = ls} child parent transport need left t = record {
  jobs = lines_mapped m a w (preempted_line child parent transport need left) ls (λ k js e.
      moved_or m a w k child parent (map (charged_job parent transport need left k) js) (k == transport)
      (jobs_mapped m a w k (charged_job parent transport need left k) (charged_id parent transport need left k) js (t.jobs k js e)));
}

-- ---- rows are added

abbrev new_job : Id → Job
new_job id = record { id = id; starts = 0; charged = 0 }

joined_or : (m : Touched Id) (a : List Slot) (w : List Row) (n : ℕ) (id : Id) (js : List Job) (b : Bool) → jobs_stay (touched_with id_eq id m) a w n js ≡ true →
    jobs_stay (touched_with id_eq id m) a w n (if b then js ++ new_job id ∷ [] else js) ≡ true
joined_or m a w n id js false h = h
joined_or m a w n id js true h =
    let stay = λ (j : Job). is_touched id_eq (touched_with id_eq id m) j.id || stays_among a w n j.id in
    all_append stay js (new_job id ∷ []) h
    (and_from (stay (new_job id)) true (or_left (is_touched id_eq (touched_with id_eq id m) id) (stays_among a w n id) (touched_here id_eq id_eq-true id id m (id_eq-refl id))) refl)

pub rows_added : {m : Touched Id} {a : List Slot} {w : List Row} {ls : List (List Job)} →
    (id : Id) (rows : List Row) → IsTidyBut m a w ls → IsTidyBut (touched_with id_eq id m) a (w ++ rows) (map (joined_line id rows) (enumerate_from 0 ls))
rows_added {m = m} {a = a} {w = w} {ls = ls} id rows t =
    let v = w ++ rows in
    let before : DoJobsStay (touched_with id_eq id m) a v ls = lines_touched m id a a w v ls
    (λ k i other. stays_by a a w v k i (λ e. e) (any_appended (λ (r : Row). id_eq r.id i && (r.site.transport == k)) w rows)) t.jobs in
    record { jobs = lines_mapped (touched_with id_eq id m) a v (joined_line id rows) ls (λ k js e. joined_or m a v k id js (joins_in id rows k js) (before k js e)) }

-- ---- the core was tidied

pub now_tidy : (a : List Slot) (w : List Row) (ls : List (List Job)) → IsTidyBut Nothing a w (map (tidied_line a w) (enumerate_from 0 ls))
now_tidy a w ls = record {
  jobs = lines_mapped Nothing a w (tidied_line a w) ls (λ k js e. all_from (λ (j : Job). stays_among a w k j.id) (tidied_jobs a w k js)
      (λ j inside. (in_filtered (λ (x : Job). stays_among a w k x.id) j js inside).1));
}

-- ---- a core begins

empty_line : (count n : ℕ) (js : List Job) → slice_get (replicate count []) n ≡ Some js → js ≡ []
empty_line zero n js e = absurd cc
empty_line (suc count) zero js e = cc
empty_line (suc count) (suc n) js e = empty_line count n js e

pub new_tidy : (count : ℕ) → IsTidyBut Nothing [] [] (replicate count [])
new_tidy count = record { jobs = λ k js e. ap (jobs_stay Nothing [] [] k) (empty_line count k js e) }
