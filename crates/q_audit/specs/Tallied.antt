-- What an audit keeps of the jobs that were preempted, entry by entry.
use Rattle.std.specs.List.{list_any}
use Rattle.std.specs.Option.{option_map_or}
use Rattle.std.specs.Prelude.{◌&&◌, ◌++◌, ◌==◌, [], Bool, if◌then◌else◌, List, not, ℕ, ◌∷◌}
use Rattle.q_model.specs.declared.entry.Entry.{Entry}
use Rattle.q_model.specs.declared.id.Id.{Id}
use Rattle.q_model.specs.Ids.{id_eq}
use Rattle.q_model.specs.Ledger.{Ledger}
use Rattle.q_model.specs.Settings.{World}
use Rattle.q_model.specs.Step.{after}
use Rattle.q_audit.specs.Delays.{Delay, Preempted, preempted_by, recipients_of, was_preempted}
use Rattle.q_tallies.specs.Exact.{counted_all, fresh}
use Rattle.q_tallies.specs.Tallied.{Tallied}
use Rattle.q_tallies.specs.Tallying.{counted}
use Rattle.q_tallies.specs.Ways.{capped_sum}

-- a job that was preempted: its tally, and the recipients of its message
pub record Job : Type 0 where
  pub tally : Tallied
  pub recipients : ℕ

-- the tally behind one entry more
abbrev pub tally_with : Entry → Tallied → Tallied
tally_with e t = record t { counted = counted capped_sum t.id t.transport e t.counted }

-- the job behind one entry more
abbrev pub job_with : Entry → Job → Job
job_with e job = record job { tally = tally_with e job.tally }

-- the job behind these entries, where they begin with its first preemption
abbrev pub first_job : Ledger → List Entry → Preempted → List Job
first_job l es p =
    if was_preempted l p.id p.transport then []
    else record {
      tally = record {
        id = p.id;
        transport = p.transport;
        counted = counted_all capped_sum p.id p.transport es fresh;
      };
      recipients = recipients_of l p.id;
    } ∷ []

-- the job whose first preemption the entry is; these come behind
abbrev pub job_by : Ledger → Entry → List Entry → List Job
job_by l e es = option_map_or (first_job l (e ∷ es)) (preempted_by e) []

-- all of them, behind these entries
abbrev pub jobs : World → Ledger → List Entry → List Job
jobs w l [] = []
jobs w l (e ∷ es) = job_by l e es ++ jobs w (after w l e) es

-- what is reported of a job
abbrev pub delay_of : Job → Delay
delay_of job = record {
  id = job.tally.id;
  transport = job.tally.transport;
  recipients = job.recipients;
  starts = job.tally.counted.count;
}

-- it is the job of this message at the transport, while that goes on
abbrev pub is_of : Id → ℕ → Job → Bool
is_of id transport job =
    not job.tally.counted.over && id_eq job.tally.id id && (job.tally.transport == transport)

-- the job that the entry is the first to preempt, as it is taken up behind these: nothing was counted yet
abbrev pub taken_up : List Job → ℕ → Preempted → List Job
taken_up js recipients p =
    if list_any (is_of p.id p.transport) js then []
    else record {
      tally = record { id = p.id; transport = p.transport; counted = fresh };
      recipients = recipients;
    } ∷ []

-- these, and that job behind them
abbrev pub with_opened : Entry → ℕ → List Job → List Job
with_opened e recipients js = js ++ option_map_or (taken_up js recipients) (preempted_by e) []
