-- How a delivery begins: the row is in flight, its site is the last served, and lines and served rows of its message
-- are tidied.
use Rattle.std.specs.Option.{option_map_or}
use Rattle.std.specs.Prelude.{◌++◌, [], filter, find, List, not, ◌∷◌, ℕ}
use Rattle.q_ledger.specs.Changed.{with_ledger}
use Rattle.q_ledger.specs.LinesLeft.{is_served_at, with_lines_left, with_served_left}
use Rattle.q_ledger.specs.State.{State}
use Rattle.q_model.specs.Lists.{drop_first}
use Rattle.q_model.specs.Starts.{is_row}
use Rattle.q_model.specs.Values.{Served, Site}
use Rattle.q_model.specs.declared.id.Id.{Id}
use Rattle.q_model.specs.declared.rows.Row.{Row}

-- the served rows, with that of the message and the site first
abbrev pub served_now : Id → Site → ℕ → List Served → List Served
served_now id site number served =
    record { id = id; site = site; last = number } ∷ filter (λ s. not (is_served_at id site s)) served

-- the row that was found has gone from those that wait, and is in flight
abbrev pub sent : ℕ → Id → Site → List ℕ → State → Row → State
sent number id site positions s row = with_ledger s (record s.ledger {
  waiting = drop_first (is_row id site positions) s.ledger.waiting;
  flights = s.ledger.flights ++ record { number = number; row = row } ∷ [];
  served = served_now id site number s.ledger.served;
})

-- the same of the first such row, where one waits
abbrev pub sent_in : ℕ → Id → Site → List ℕ → State → State
sent_in number id site positions s =
    option_map_or (sent number id site positions s) (find (is_row id site positions) s.ledger.waiting) s

-- the delivery has begun
abbrev pub started_in : ℕ → Id → Site → List ℕ → State → State
started_in number id site positions s =
    with_served_left id site (with_lines_left id (sent_in number id site positions s))
