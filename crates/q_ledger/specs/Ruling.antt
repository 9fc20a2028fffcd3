-- The next decision, by what is kept beside a ledger and of jobs.
use Rattle.std.specs.Option.{option_or}
use Rattle.std.specs.Prelude.{◌≡◌, if◌then◌else◌, length, None, Option}
use Rattle.q_ledger.specs.Choosing.{choosing_in}
use Rattle.q_ledger.specs.Deciding.{moving_in, settling_in}
use Rattle.q_ledger.specs.State.{State}
use Rattle.q_ledger.specs.Worlds.{Given, world_of}
use Rattle.q_ledger.specs.declared.accounts.Accounts.{Accounts}
use Rattle.q_model.specs.Ledger.{Ledger}
use Rattle.q_model.specs.Settings.{World}
use Rattle.q_model.specs.declared.entry.Entry.{Entry}

-- the first that applies of all rules; before the first moment of a life there is none
abbrev pub next_in : Given → State → Accounts → Option Entry
next_in g s accounts = if s.ledger.timed
    then option_or (settling_in (world_of g) s)
    (option_or (moving_in g s) (choosing_in g s accounts (length (world_of g).table.transports)))
    else None

-- each transport has its line
abbrev pub HasLines : World → Ledger → Type 0
HasLines w l = length l.lines ≡ length w.table.transports
