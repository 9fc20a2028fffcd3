-- How deliveries begin in the core.
use Rattle.std.specs.List.{enumerate_from, remove}
use Rattle.std.specs.Prelude.{◌&&◌, ◌+◌, ◌-◌, ◌++◌, ◌==◌, ◌≡◌, [], ◌^◌, Bool, filter, find, if◌then◌else◌, List, map, min, nat_lt, not, Option, slice_get, Some, ℕ, ◌∷◌}
use Rattle.q_model.specs.declared.id.Id.{Id}
use Rattle.q_model.specs.declared.rows.Row.{Row}
use Rattle.q_model.specs.Sites.{site_eq}
use Rattle.q_model.specs.Ids.{id_eq}
use Rattle.q_model.specs.Values.{Served, Site}
use Rattle.q_jobs.specs.declared.job.Job.{Job}
use Rattle.q_jobs.specs.Jobs.{moved_job}
use Rattle.q_core.specs.declared.state.Core.{Core}

-- a row of the message for the site
abbrev pub is_for : Id → Site → Row → Bool
is_for id site r = id_eq r.id id && site_eq r.site site

-- the first of them
abbrev pub row_for : Core → Id → Site → Option Row
row_for c id site = find (is_for id site) c.waiting

-- this holds of it, where there is one
abbrev pub AtRowFor : Core → Id → Site → (Row → Type 0) → Type 0
AtRowFor c id site P = (r : Row) → row_for c id site ≡ Some r → P r

-- the message was last sent to the site with this number
abbrev pub served_now : Id → Site → ℕ → List Served → List Served
served_now id site number served = record { id = id; site = site; last = number } ∷ filter
    (λ s. not (id_eq s.id id && site_eq s.site site)) served

-- one delivery more; a life begins fewer than 2^48 where another begins
abbrev pub with_start : Job → Job
with_start j = if nat_lt j.starts (2 ^ 48) then record j { starts = j.starts + 1 } else j

-- the job of this id at this transport has begun one more
abbrev pub started_job : Id → ℕ → ℕ → Job → Job
started_job id transport at j = if id_eq id j.id && (transport == at) then with_start j else j

-- the same of a line, with its transport's number
abbrev pub started_line : Id → ℕ → (ℕ × List Job) → List Job
started_line id transport line = map (started_job id transport line.0) line.1

-- What a job is charged where another preempts it with this need. It is never charged more than it
-- has begun
-- and has left.
abbrev pub with_charge : ℕ → ℕ → Job → Job
with_charge need left j = record j {
  charged = min (min (j.charged + need) (2 ^ 64 - 1))
      (min (j.starts + left) (2 ^ 64 - 1));
}

-- the job of this id at this transport is charged
abbrev pub charged_job : Id → ℕ → ℕ → ℕ → ℕ → Job → Job
charged_job id transport need left at j = if id_eq id j.id
    && (transport == at) then with_charge need left j else j

-- the child's job stands just before its parent's at this transport
abbrev pub moved_line : Id → Id → ℕ → (ℕ × List Job) → List Job
moved_line child parent transport line = if line.0 == transport then moved_job child parent line.1
    else line.1

-- the child's job stands just before its parent's, which is charged
abbrev pub preempted_line : Id → Id → ℕ → ℕ → ℕ → (ℕ × List Job) → List Job
preempted_line child parent transport need left line = moved_line child parent transport
    (line.0, map (charged_job parent transport need left line.0) line.1)

-- The row at this place is in flight, and its site is the last served.
pub record IsSent (old new : Core) (number : ℕ) (id : Id) (site : Site) (entry : ℕ) : Type 0 where
  pub rest : new ≡ record old {
    waiting = new.waiting;
    flights = new.flights;
    served =
        new.served;
    starts = number;
  }
  pub waiting : new.waiting ≡ remove old.waiting entry
  pub flights : (r : Row) → slice_get old.waiting entry ≡ Some r → new.flights ≡ old.flights
      ++ record { number = number; row = r } ∷ []
  pub served : new.served ≡ served_now id site number old.served

-- The account of the job has one delivery more.
pub record IsStarted (old new : Core) (id : Id) (transport : ℕ) : Type 0 where
  pub rest : new ≡ record old { lines = new.lines }
  pub lines : new.lines ≡ map (started_line id transport) (enumerate_from 0 old.lines)

-- A job went before another, which is charged.
pub record IsPreempted (old new : Core) (child parent : Id) (transport need left : ℕ) : Type 0 where
  pub rest : new ≡ record old { lines = new.lines }
  pub lines : new.lines ≡ map (preempted_line child parent transport need left)
      (enumerate_from 0 old.lines)
