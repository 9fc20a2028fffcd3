-- The account of a job, counted from the entries of this life (SCHEDULER_README, "Preemptive
-- scheduling": delivery slots).
use Rattle.std.specs.Prelude.{◌&&◌, ◌+◌, ◌==◌, Bool, count_by, false, if◌then◌else◌, List, not, sum_by, take_while, ℕ}
use Rattle.q_model.specs.declared.entry.Entry.{Entry}
use Rattle.q_model.specs.declared.id.Id.{Id}
use Rattle.q_model.specs.Ids.{id_eq}
use Rattle.q_model.specs.Ledger.{Ledger}
use Rattle.q_model.specs.Memory.{unread_of}
use Rattle.q_model.specs.declared.entry.Entry.TheVariants as entries

-- the message comes into memory
abbrev pub is_admit_of : Id → Entry → Bool
is_admit_of id (entries.Admit other) = id_eq other id
is_admit_of id _ = false

-- a delivery of the job begins
abbrev pub is_start_of : Id → ℕ → Entry → Bool
is_start_of id transport (entries.Start number other site positions) = id_eq other id && (site.transport == transport)
is_start_of id transport _ = false

-- what a preemption charges to the job
abbrev pub charge_of : Id → ℕ → Entry → ℕ
charge_of id transport (entries.Preempt child parent t need) = if id_eq parent id && (t == transport) then need else 0
charge_of id transport _ = 0

-- the entries since the id was admitted
abbrev pub since_admit : Ledger → Id → List Entry
since_admit l id = take_while (λ e. not (is_admit_of id e)) l.past

-- the deliveries that the job has begun since its admission
abbrev pub starts_of : Ledger → Id → ℕ → ℕ
starts_of l id transport = count_by (is_start_of id transport) (since_admit l id)

-- the slots charged to the job since its admission
abbrev pub charged : Ledger → Id → ℕ → ℕ
charged l id transport = sum_by (charge_of id transport) (since_admit l id)

-- what the job has left: its entries that wait, and its unread recipients
abbrev pub job_left : Ledger → Id → ℕ → ℕ
job_left l id transport = count_by (λ r. id_eq r.id id && (r.site.transport == transport)) l.waiting + unread_of l id
