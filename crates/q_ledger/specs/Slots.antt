-- What is kept of a message in memory.
use Rattle.q_model.specs.declared.rows.Admitted.{Admitted}
use Rattle.q_ledger.specs.declared.admitted.Slot.{Slot}

-- the ledger's row of a message in memory
abbrev pub row_of_slot : Slot → Admitted
row_of_slot s = record { id = s.id; unread = s.unread }
