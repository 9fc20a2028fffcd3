-- How many deliveries went before a job because it was preempted (SCHEDULER_README: what preemption
-- may cost a message).
use Rattle.std.specs.Option.{option_map_or}
use Rattle.std.specs.Prelude.{◌&&◌, ◌+◌, ◌==◌, [], Bool, if◌then◌else◌, List, None, Option, Some, ◌||◌, ℕ, ◌∷◌}
use Rattle.q_model.specs.declared.entry.Entry.{Entry}
use Rattle.q_model.specs.declared.id.Id.{Id}
use Rattle.q_model.specs.Accounts.{is_admit_of, is_start_of}
use Rattle.q_model.specs.Ids.{id_eq}
use Rattle.q_model.specs.Past.{is_life}
use Rattle.q_model.specs.declared.entry.Entry.TheVariants as entries

-- the job is over: its message comes into memory anew, or another life begins
abbrev pub ends_job : Id → Entry → Bool
ends_job id e = is_admit_of id e || is_life e

-- the job that preempts this one
abbrev pub child_of : Id → ℕ → Entry → Option Id
child_of id transport (entries.Preempt child parent t need) =
    if id_eq parent id && (t == transport) then Some child else None
child_of id transport _ = None

-- the deliveries of a job, and of those that preempt it, in these entries (the oldest first)
unfoldable pub starts_through : Id → ℕ → List Entry → ℕ
starts_through id transport [] = 0
starts_through id transport (e ∷ es) = if ends_job id e then 0
    else (if is_start_of id transport e then 1 else 0)
    + option_map_or (λ child. starts_through child transport es) (child_of id transport e) 0
    + starts_through id transport es

-- The deliveries that went before a job, of jobs that preempted it, directly or through others. The
-- entries are those from its admission on, the oldest first.
unfoldable pub preempting_starts : Id → ℕ → List Entry → ℕ
preempting_starts id transport [] = 0
preempting_starts id transport (e ∷ es) = if ends_job id e then 0
    else option_map_or (λ child. starts_through child transport es) (child_of id transport e) 0
    + preempting_starts id transport es
