-- How a row is put off: it waits no more, and what its recipients need without a code is unsettled.
use Rattle.std.specs.Prelude.{◌++◌, length, List, map, Some, ℕ}
use Rattle.q_ledger.specs.Counting.{count_changed}
use Rattle.q_ledger.specs.Needs.{needs_put_off}
use Rattle.q_ledger.specs.Settled.{is_old_in}
use Rattle.q_ledger.specs.State.{State}
use Rattle.q_model.specs.Ledger.{Ledger}
use Rattle.q_model.specs.Lists.{drop_first}
use Rattle.q_model.specs.Settings.{World}
use Rattle.q_model.specs.Starts.{is_row}
use Rattle.q_model.specs.Values.{Site}
use Rattle.q_model.specs.declared.id.Id.{Id}
use Rattle.q_model.specs.declared.rows.Unsettled.{Unsettled}

-- what these recipients of the message need
abbrev pub delays_need : World → Ledger → Id → List ℕ → List Unsettled
delays_need w l id positions = needs_put_off (is_old_in w l id) id positions

-- the row waits no more
abbrev pub without_row : Id → Site → List ℕ → State → State
without_row id site positions c = record c { ledger = record c.ledger { waiting = drop_first (is_row id site positions) c.ledger.waiting } }

-- the row is put off
abbrev pub skipped_in : World → State → Id → Site → List ℕ → State
skipped_in w c id site positions = record c {
  ledger = record c.ledger {
    waiting = drop_first (is_row id site positions) c.ledger.waiting;
    unsettled = c.ledger.unsettled ++ delays_need w c.ledger id positions;
  };
  slots = map (count_changed id (length (delays_need w c.ledger id positions)) 1) c.slots;
  left = Some site;
}
