-- Which jobs a trace tells to be preempted, and how many deliveries that put before each.
use Rattle.std.specs.List.{list_any}
use Rattle.std.specs.Option.{option_map_or}
use Rattle.std.specs.Prelude.{◌++◌, [], Bool, if◌then◌else◌, is_some, length, List, None, Option, Some, ℕ, ◌∷◌}
use Rattle.q_model.specs.declared.entry.Entry.{Entry}
use Rattle.q_model.specs.declared.id.Id.{Id}
use Rattle.q_model.specs.Accounts.{since_admit}
use Rattle.q_model.specs.Book.{message_of}
use Rattle.q_model.specs.Ledger.{Ledger}
use Rattle.q_model.specs.PreemptingStarts.{child_of, preempting_starts}
use Rattle.q_model.specs.Settings.{World}
use Rattle.q_model.specs.Step.{after}
use Rattle.q_model.specs.declared.entry.Entry.TheVariants as entries

-- A job that was preempted: one admission of a message at a transport. The recipients are all of its
-- message; the starts are the deliveries that went before it.
pub record Delay : Type 0 where
  pub id : Id
  pub transport : ℕ
  pub recipients : ℕ
  pub starts : ℕ

-- since its message came into memory, the job was preempted
abbrev pub was_preempted : Ledger → Id → ℕ → Bool
was_preempted l id transport = list_any (λ e. is_some (child_of id transport e)) (since_admit l id)

-- the recipients of a message of the book
abbrev pub recipients_of : Ledger → Id → ℕ
recipients_of l id = option_map_or (λ m. length m.recipients) (message_of l.book id) 0

-- a job that an entry puts another in front of
pub record Preempted : Type 0 where
  pub id : Id
  pub transport : ℕ

abbrev pub preempted_by : Entry → Option Preempted
preempted_by (entries.Preempt child parent transport need) =
    Some (record { id = parent; transport = transport })
preempted_by e = None

-- the job, where these entries begin with its first preemption
abbrev pub first_delay : Ledger → List Entry → Preempted → List Delay
first_delay l es p =
    if was_preempted l p.id p.transport then []
    else record {
      id = p.id;
      transport = p.transport;
      recipients = recipients_of l p.id;
      starts = preempting_starts p.id p.transport es;
    } ∷ []

-- the job whose first preemption the entry is; these come behind
abbrev pub delay_by : Ledger → Entry → List Entry → List Delay
delay_by l e es = option_map_or (first_delay l (e ∷ es)) (preempted_by e) []

-- all jobs that are preempted in these entries, in the order of their first preemptions
abbrev pub delays : World → Ledger → List Entry → List Delay
delays w l [] = []
delays w l (e ∷ es) = delay_by l e es ++ delays w (after w l e) es
