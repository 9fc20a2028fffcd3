-- What a contract sees of a line of jobs, and what each call makes of it.
use Rattle.std.specs.Option.{option_map_or}
use Rattle.std.specs.Prelude.{◌<◌, ◌≡◌, [], ◌∷◌, Bool, find, if◌then◌else◌, List, None, not, Option, slice_get, Some, ℕ}
use Rattle.q_model.specs.declared.id.Id.{Id}
use Rattle.q_model.specs.Ids.{id_eq}
use Rattle.q_model.specs.Lists.{drop_first}
use Rattle.q_jobs.specs.declared.job.Job.{Job}

-- the jobs in their order, how many have room, and the ranks of the jobs in the same order
pub record Jobs : Type 0 where
  pub jobs : List Job
  pub room : ℕ
  pub ranks : List ℕ

-- the job is that of the message
abbrev pub is_job_of : Id → Job → Bool
is_job_of id j = id_eq j.id id

-- no message has two jobs
abbrev pub AreOfOthers : List Job → Type 0
AreOfOthers [] = Unit {0}
AreOfOthers (j ∷ js) = (find (is_job_of j.id) js ≡ None) × AreOfOthers js

-- the rank of the message's job, where the jobs have these ranks
abbrev pub rank_of : Id → List Job → List ℕ → Option ℕ
rank_of id [] ranks = None
rank_of id (j ∷ js) [] = None
rank_of id (j ∷ js) (r ∷ rs) = if id_eq j.id id then Some r else rank_of id js rs

-- each is greater than the one before it, and the first than this
abbrev pub RiseFrom : ℕ → List ℕ → Type 0
RiseFrom low [] = Unit {0}
RiseFrom low (r ∷ rs) = (low < r) × RiseFrom r rs

-- ranks rise along the line, and none is 0
abbrev pub AreRising : List ℕ → Type 0
AreRising ranks = RiseFrom 0 ranks

abbrev pub fresh_job : Id → Job
fresh_job id = record { id = id; starts = 0; charged = 0 }

abbrev pub first_job : List Job → Option Job
first_job jobs = slice_get jobs 0

-- those behind that of the message
abbrev pub behind_jobs : Id → List Job → List Job
behind_jobs id [] = []
behind_jobs id (j ∷ js) = if id_eq j.id id then js else behind_jobs id js

-- another account of the same message
abbrev pub account_in : Job → Job → Job
account_in job j = if id_eq j.id job.id then job else j

abbrev pub is_job_of_another : Id → Job → Bool
is_job_of_another id j = not (id_eq j.id id)

-- the job stands just before that of the id, and nowhere without one
abbrev pub put_job : Job → Id → List Job → List Job
put_job job parent [] = []
put_job job parent (j ∷ js) = if id_eq j.id parent then job ∷ j ∷ js else j ∷ put_job job parent js

-- the job of the first id stands just before that of the second
abbrev pub moved_job : Id → Id → List Job → List Job
moved_job child parent jobs = option_map_or
    (λ job. put_job job parent (drop_first (λ j. id_eq j.id child) jobs))
    (find (λ j. id_eq j.id child) jobs) jobs

-- a job and those behind it
abbrev pub jobs_from : Option Job → List Job → List Job
jobs_from None jobs = []
jobs_from (Some j) jobs = j ∷ behind_jobs j.id jobs

-- the job of the message is changed
abbrev pub changed_job : Id → (Job → Job) → Job → Job
changed_job id change j = if id_eq j.id id then change j else j
