-- What a transport does next.
use Rattle.std.specs.Option.{option_map_or}
use Rattle.std.specs.Prelude.{◌&&◌, ◌+◌, find, nat_lt, Option, option_and_then, option_map, Some, ℕ, Bool}
use Rattle.q_model.specs.declared.rows.Served.{Served}
use Rattle.q_model.specs.declared.entry.Entry.{Entry}
use Rattle.q_model.specs.declared.id.Id.{Id}
use Rattle.q_model.specs.declared.rows.Row.{Row}
use Rattle.q_model.specs.Accounts.{job_left}
use Rattle.q_model.specs.Candidates.{best}
use Rattle.q_model.specs.Sites.{site_eq}
use Rattle.q_model.specs.Ids.{id_eq}
use Rattle.q_model.specs.Ledger.{Ledger}
use Rattle.q_model.specs.Lists.{least}
use Rattle.q_model.specs.Past.{starts}
use Rattle.q_model.specs.Settings.{World}
use Rattle.q_model.specs.Startable.{current, startable_rows}
use Rattle.q_model.specs.declared.entry.Entry.TheVariants as entries

-- the message was last started at the row's site
abbrev pub is_served : Row → Served → Bool
is_served r s = id_eq s.id r.id && site_eq s.site r.site

-- the number of the id's last start at the row's site, 0 for none
abbrev pub last_start : Ledger → Row → ℕ
last_start l r = option_map_or (λ s. s.last) (find (is_served r) l.served) 0

-- the row's site was started at earlier, or never
abbrev pub started_before : Ledger → Row → Row → Bool
started_before l a b = nat_lt (last_start l a) (last_start l b)

-- The row that the job starts next: of the site that it has not started at, or longest ago; among
-- equals the first read.
abbrev pub next_row : World → Ledger → ℕ → Id → Option Row
next_row w l transport id = least (started_before l) (startable_rows w l transport id)

-- the next delivery is of this row
abbrev pub start_of : Ledger → Row → Entry
start_of l r = entries.Start (starts l + 1) r.id r.site r.positions

-- the job starts its next row
abbrev pub start_next : World → Ledger → ℕ → Id → Option Entry
start_next w l transport id = option_map (start_of l) (next_row w l transport id)

-- the child preempts, by all that it has left
abbrev pub preempt_by : Ledger → ℕ → Id → Id → Option Entry
preempt_by l transport parent child = Some (entries.Preempt child parent transport (job_left l child transport))

-- the best candidate preempts the current job; where there is none, the current job starts
abbrev pub choice_by : World → Ledger → ℕ → Id → Option Entry
choice_by w l transport parent =
    option_map_or (preempt_by l transport parent) (best w l transport parent) (start_next w l transport parent)

-- what a transport does next, where a job of it can start
abbrev pub choice : World → Ledger → ℕ → Option Entry
choice w l transport = option_and_then (choice_by w l transport) (current w l transport)
