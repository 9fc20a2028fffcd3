-- Which jobs and served rows are left, by the messages in memory and the rows that wait.
use Rattle.std.specs.List.{list_any}
use Rattle.std.specs.Option.{option_map_or}
use Rattle.std.specs.Prelude.{◌&&◌, ◌-◌, ◌==◌, Bool, filter, find, List, not, Option, ◌||◌, ℕ}
use Rattle.q_model.specs.declared.id.Id.{Id}
use Rattle.q_model.specs.declared.rows.Row.{Row}
use Rattle.q_model.specs.Sites.{site_eq}
use Rattle.q_model.specs.Ids.{id_eq}
use Rattle.q_model.specs.Values.{Served, Site}
use Rattle.q_jobs.specs.declared.job.Job.{Job}
use Rattle.q_pool.specs.declared.slot.Slot.{Slot}

-- the row of a message in memory
abbrev pub slot_among : List Slot → Id → Option Slot
slot_among admitted id = find (λ s. id_eq s.id id) admitted

-- how many of its recipients were not read yet
abbrev pub unread_among : List Slot → Id → ℕ
unread_among admitted id = option_map_or (λ s. s.recipients - s.unread) (slot_among admitted id) 0

-- a row of it waits for the transport
abbrev pub waits_for : List Row → Id → ℕ → Bool
waits_for waiting id transport = list_any (λ r. id_eq r.id id
    && (r.site.transport == transport)) waiting

-- a row of it waits at the site
abbrev pub waits_at_site : List Row → Id → Site → Bool
waits_at_site waiting id site = list_any (λ r. id_eq r.id id && site_eq r.site site) waiting

-- it has something left at the transport
abbrev pub stays_among : List Slot → List Row → ℕ → Id → Bool
stays_among admitted waiting transport id = not (unread_among admitted id == 0)
    || waits_for waiting id transport

-- a job has nothing left there
abbrev pub leaves_among : List Slot → List Row → ℕ → Job → Bool
leaves_among admitted waiting transport j = not (stays_among admitted waiting transport j.id)

-- the jobs of a line that have something left
abbrev pub tidied_jobs : List Slot → List Row → ℕ → List Job → List Job
tidied_jobs admitted waiting transport jobs =
    filter (λ j. stays_among admitted waiting transport j.id) jobs

-- the same with the transport's number
abbrev pub tidied_line : List Slot → List Row → (ℕ × List Job) → List Job
tidied_line admitted waiting line = tidied_jobs admitted waiting line.0 line.1

-- the served rows whose message waits at their site
abbrev pub tidied_served : List Row → List Served → List Served
tidied_served waiting served = filter (λ s. waits_at_site waiting s.id s.site) served
