-- What entries touched since the core was tidied. Only there may something have to go.
use Rattle.std.specs.List.{list_all}
use Rattle.std.specs.Prelude.{◌≡◌, Bool, false, if◌then◌else◌, List, slice_get, Some, true, ◌||◌, ℕ}
use Rattle.q_model.specs.declared.id.Id.{Id}
use Rattle.q_model.specs.declared.rows.Row.{Row}
use Rattle.q_model.specs.Ids.{id_eq}
use Rattle.q_core.specs.Tidied.{stays_among}
use Rattle.q_jobs.specs.declared.job.Job.{Job}
use Rattle.q_pool.specs.declared.slot.Slot.{Slot}
use Rattle.q_core.specs.declared.touched.Touched.{Touched}
use Rattle.q_core.specs.declared.touched.Touched.TheVariants.{Everything, Nothing, One}

-- this one was touched
abbrev pub is_touched : {K : Type 0} → (K → K → Bool) → Touched K → K → Bool
is_touched same Nothing k = false
is_touched same (One t) k = same k t
is_touched same Everything k = true

abbrev pub is_everything : {K : Type 0} → Touched K → Bool
is_everything Nothing = false
is_everything (One t) = false
is_everything Everything = true

-- touched, and this one too
abbrev pub touched_with : {K : Type 0} → (K → K → Bool) → K → Touched K → Touched K
touched_with same k Nothing = One k
touched_with same k (One t) = if same t k then One t else Everything
touched_with same k Everything = Everything

-- each job of a line has something left, but perhaps those of a message that was touched
abbrev pub jobs_stay : Touched Id → List Slot → List Row → ℕ → List Job → Bool
jobs_stay touched admitted waiting transport jobs = list_all (λ j. is_touched id_eq touched j.id
    || stays_among admitted waiting transport j.id) jobs

-- so it is in each line
abbrev pub DoJobsStay : Touched Id → List Slot → List Row → List (List Job) → Type 0
DoJobsStay touched admitted waiting lines = (transport : ℕ) → (jobs : List Job)
    → slice_get lines transport ≡ Some jobs → jobs_stay touched admitted waiting transport jobs ≡ true

-- Nothing has to go but perhaps what was touched.
pub record IsTidyBut (touched : Touched Id) (admitted : List Slot) (waiting : List Row)
    (lines : List (List Job)) : Type 0 where
  pub jobs : DoJobsStay touched admitted waiting lines
