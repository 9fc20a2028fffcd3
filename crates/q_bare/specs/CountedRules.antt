-- The next decision by counts: no past entry is looked at.
use Rattle.std.specs.List.{enumerate_from}
use Rattle.std.specs.Option.{option_map_or, option_or}
use Rattle.std.specs.Prelude.{◌+◌, ◌^◌, if◌then◌else◌, List, nat_lt, None, Option, option_and_then, option_map, ℕ}
use Rattle.q_bare.specs.CountedRows.{best_by}
use Rattle.q_bare.specs.Counts.{Counts}
use Rattle.q_model.specs.declared.entry.Entry.{Entry}
use Rattle.q_model.specs.declared.id.Id.{Id}
use Rattle.q_model.specs.declared.rows.Row.{Row}
use Rattle.q_model.specs.Choice.{next_row, preempt_by}
use Rattle.q_model.specs.Ledger.{Ledger}
use Rattle.q_model.specs.Lists.{first_some}
use Rattle.q_model.specs.Next.{admission_rule, finishing_rule, leftover_rule, load_rule, settling_rule, skip_rule, sync_rule}
use Rattle.q_model.specs.Settings.{World}
use Rattle.q_model.specs.Startable.{current}
use Rattle.q_model.specs.declared.entry.Entry.TheVariants as entries

-- the next delivery is of this row
abbrev pub start_of_by : Counts → Row → Entry
start_of_by c r = entries.Start (c.deliveries + 1) r.id r.site r.positions

-- the job starts its next row
abbrev pub start_next_by : Counts → World → Ledger → ℕ → Id → Option Entry
start_next_by c w l transport id = option_map (start_of_by c) (next_row w l transport id)

-- the best candidate preempts the current job; where there is none, the current job starts
abbrev pub choice_for_by : Counts → World → Ledger → ℕ → Id → Option Entry
choice_for_by c w l transport parent =
    option_map_or (preempt_by l transport parent) (best_by c w l transport parent)
    (start_next_by c w l transport parent)

-- what a transport does next, where a job of it can start
abbrev pub choice_by_counts : Counts → World → Ledger → (ℕ × List Id) → Option Entry
choice_by_counts c w l line = option_and_then (choice_for_by c w l line.0) (current w l line.0)

-- the first transport that has a choice; 2^48 deliveries end a life
abbrev pub start_rule_by : Counts → World → Ledger → Option Entry
start_rule_by c w l =
    if nat_lt c.deliveries (2 ^ 48) then first_some (choice_by_counts c w l) (enumerate_from 0 l.lines) else None

-- the first of the eight rules that applies
abbrev pub first_rule_by : Counts → World → Ledger → Option Entry
first_rule_by c w l =
    option_or (settling_rule l)
    (option_or (sync_rule w l)
    (option_or (skip_rule l)
    (option_or (finishing_rule w l)
    (option_or (leftover_rule w l)
    (option_or (admission_rule w l)
    (option_or (load_rule w l)
    (start_rule_by c w l)))))))

-- before the first `at` of a life there is none
abbrev pub next_by : Counts → World → Ledger → Option Entry
next_by c w l = if l.timed then first_rule_by c w l else None
