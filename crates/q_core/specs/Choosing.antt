-- What a transport does next, by what the core holds.
use Rattle.std.specs.List.{list_any}
use Rattle.std.specs.Option.{option_map_or, option_or}
use Rattle.std.specs.Prelude.{◌&&◌, ◌*◌, ◌+◌, ◌-◌, ◌==◌, [], ◌^◌, Bool, count_by, false, filter, find, if◌then◌else◌, List, min, nat_le, nat_lt, None, not, Option, option_and_then, slice_get, Some, suc, zero, ℕ}
use Rattle.q_model.specs.declared.id.Id.{Id}
use Rattle.q_model.specs.Ids.{id_eq}
use Rattle.q_model.specs.Lists.{least}
use Rattle.q_model.specs.Settings.{Settings}
use Rattle.q_core.specs.Held.{unread_in}
use Rattle.q_core.specs.Starting.{can_start_in, start_in}
use Rattle.q_core.specs.declared.decision.Decision.{Decision}
use Rattle.q_jobs.specs.declared.job.Job.{Job}
use Rattle.q_jobs.specs.Jobs.{behind_jobs, is_job_of}
use Rattle.q_pool.specs.declared.slot.Slot.{Slot}
use Rattle.q_core.specs.declared.state.Core.{Core}
use Rattle.q_core.specs.declared.decision.Decision.TheVariants.{Preempt}

-- what the message has left at the transport: its rows that wait, and its unread recipients
abbrev pub job_left_in : Core → ℕ → Id → ℕ
job_left_in c transport id = count_by (λ r. id_eq r.id id && (r.site.transport == transport)) c.waiting + unread_in c id

-- The need of a message that preempts: what it has left, and no more than its recipients. For a
-- ledger with which the core agrees, it is all that is left.
abbrev pub need_in : Core → ℕ → Slot → ℕ
need_in c transport s = min (job_left_in c transport s.id) s.recipients

-- the jobs of a transport in order
abbrev pub jobs_at : Core → ℕ → List Job
jobs_at c transport = option_map_or (λ jobs. jobs) (slice_get c.lines transport) []

-- the first of them that can start
abbrev pub current_in : Core → ℕ → Option Job
current_in c transport = find (λ j. can_start_in c transport j.id) (jobs_at c transport)

-- the id is one of these jobs and has begun nothing
abbrev pub is_fresh_among : List Job → Id → Bool
is_fresh_among jobs id = list_any (λ j. id_eq id j.id && (j.starts == 0)) jobs

-- the message has a job among these that has begun nothing
abbrev pub is_fresh_in : List Job → Id → Bool
is_fresh_in jobs id = option_map_or (λ j. j.starts == 0) (find (is_job_of id) jobs) false

-- a job with this need may preempt the parent, which has so much left
abbrev pub pays_in : Settings → Job → ℕ → ℕ → Bool
pays_in p parent left need =
    let cost = p.slot_cost in
    let owed = cost * parent.charged in
    nat_le (need * (100 - p.slot_discount) * cost + 100 * owed) (100 * (parent.starts + p.slot_loan * cost))
    && nat_le (cost * need + owed) (parent.starts + left)
    && nat_le (cost * p.minimum_slots) (parent.starts + left)

-- the message is a fresh job behind the current one, can start, and may preempt
abbrev pub is_candidate_in : Core → ℕ → List Job → Job → Id → Bool
is_candidate_in c transport behind parent id = not (c.params.slot_cost == 0)
    && is_fresh_among behind id
    && can_start_in c transport id
    && pays_in c.params parent (job_left_in c transport parent.id) (job_left_in c transport id)

-- the same of its slot
abbrev pub candidate_slot : Core → ℕ → List Job → Job → Slot → Bool
candidate_slot c transport behind parent s = is_candidate_in c transport behind parent s.id

-- (age + 1) / need is greater
abbrev pub is_better_in : Core → ℕ → Slot → Slot → Bool
is_better_in c transport a b = nat_lt ((c.clock.seconds - b.arrival + 1) * job_left_in c transport a.id)
    ((c.clock.seconds - a.arrival + 1) * job_left_in c transport b.id)

-- the best candidate; among equals the first admitted
abbrev pub best_in : Core → ℕ → List Job → Job → Option Slot
best_in c transport behind parent = least (is_better_in c transport)
    (filter (candidate_slot c transport behind parent) c.admitted)

-- the best candidate preempts; else the current job starts its next row
abbrev pub preempt_or : Core → ℕ → Job → Option Slot → Option Decision
preempt_or c transport parent best = option_map_or
    (λ (child : Slot). Some (Preempt child.id parent.id transport (need_in c transport child))) best
    (start_in c transport parent.id)

-- what this current job leads to
abbrev pub choose_in : Core → ℕ → Job → Option Decision
choose_in c transport parent = preempt_or c transport parent
    (best_in c transport (behind_jobs parent.id (jobs_at c transport)) parent)

-- what a transport does next
abbrev pub choice_in : Core → ℕ → Option Decision
choice_in c transport = option_and_then (choose_in c transport) (current_in c transport)

-- the first of so many transports, from this one on, that does something
abbrev pub choices_from : Core → ℕ → ℕ → Option Decision
choices_from c transport zero = None
choices_from c transport (suc n) = option_or (choice_in c transport) (choices_from c (transport + 1) n)

-- the first transport that does something; 2^48 deliveries end a life
abbrev pub next_start_in : Core → Option Decision
next_start_in c = if nat_lt c.starts (2 ^ 48) then choices_from c 0 c.transports else None
