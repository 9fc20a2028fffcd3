-- How many rows a message has, as some come and some go.
use Rattle.std.specs.Prelude.{◌+◌, ◌-◌, ◌^◌, if◌then◌else◌, map, min, ℕ}
use Rattle.q_ledger.specs.State.{State}
use Rattle.q_ledger.specs.declared.admitted.Slot.{Slot}
use Rattle.q_model.specs.Ids.{id_eq}
use Rattle.q_model.specs.declared.id.Id.{Id}

-- so many rows more, or fewer, of the message; no more than can be counted
abbrev pub count_changed : Id → ℕ → ℕ → Slot → Slot
count_changed id more fewer s = if id_eq s.id id then record s { rows = min (s.rows + more) (2 ^ 128 - 1) - fewer } else s

-- the same of the message in memory
abbrev pub rows_counted : Id → ℕ → ℕ → State → State
rows_counted id more fewer c = record c { slots = map (count_changed id more fewer) c.slots }
