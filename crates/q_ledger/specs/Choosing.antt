-- What a transport does next, by what is kept of jobs.
use Rattle.std.specs.Option.{option_map_or, option_or}
use Rattle.std.specs.Prelude.{◌+◌, ◌-◌, ◌^◌, if◌then◌else◌, min, nat_lt, None, Option, option_and_then, option_map, Some, suc, zero, ℕ}
use Rattle.q_ledger.specs.Held.{rest_in}
use Rattle.q_ledger.specs.Preempting.{best_in}
use Rattle.q_ledger.specs.State.{State}
use Rattle.q_ledger.specs.Worlds.{Given, world_of}
use Rattle.q_ledger.specs.declared.accounts.Accounts.{Accounts}
use Rattle.q_ledger.specs.declared.admitted.Slot.{Slot}
use Rattle.q_model.specs.Choice.{next_row}
use Rattle.q_model.specs.Startable.{current}
use Rattle.q_model.specs.declared.entry.Entry.{Entry}
use Rattle.q_model.specs.declared.id.Id.{Id}
use Rattle.q_model.specs.declared.rows.Row.{Row}
use Rattle.q_model.specs.declared.entry.Entry.TheVariants as entries

-- the next delivery is of this row; numbers go as far as they are kept
abbrev pub start_in : Accounts → Row → Entry
start_in accounts r = entries.Start (min (accounts.starts + 1) (2 ^ 64 - 1)) r.id r.site r.positions

-- the message preempts, by all that it has left, which is no more than its recipients
abbrev pub preempt_in : State → ℕ → Id → Slot → Option Entry
preempt_in c transport parent x =
    Some (entries.Preempt x.id parent transport (min (rest_in c x.id transport) x.recipients))

-- the best candidate preempts the current job; where there is none, the current job starts
abbrev pub choice_for_in : Given → State → Accounts → ℕ → Id → Option Entry
choice_for_in g c accounts transport parent =
    option_map_or (preempt_in c transport parent) (best_in g c accounts transport parent)
    (option_map (start_in accounts) (next_row (world_of g) c.ledger transport parent))

-- what a transport does next, where a job of it can start
abbrev pub choice_in : Given → State → Accounts → ℕ → Option Entry
choice_in g c accounts transport =
    option_and_then (choice_for_in g c accounts transport) (current (world_of g) c.ledger transport)

-- the first of so many transports, from this one on, that does something
abbrev pub choices_from : Given → State → Accounts → ℕ → ℕ → Option Entry
choices_from g c accounts transport zero = None
choices_from g c accounts transport (suc n) =
    option_or (choice_in g c accounts transport) (choices_from g c accounts (transport + 1) n)

-- the first of all transports that does something; 2^48 deliveries end a life
abbrev pub choosing_in : Given → State → Accounts → ℕ → Option Entry
choosing_in g c accounts transports =
    if nat_lt accounts.starts (2 ^ 48) then choices_from g c accounts 0 transports else None
