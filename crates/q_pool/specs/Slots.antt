-- What the row of a message in memory says.
use Rattle.std.specs.Prelude.{◌&&◌, ◌+◌, ◌-◌, Bool, false, if◌then◌else◌, nat_lt, not, true, ℕ}
use Rattle.q_model.specs.declared.id.Id.{Id}
use Rattle.q_model.specs.Ids.{id_eq}
use Rattle.q_pool.specs.declared.slot.Slot.{Slot}

-- it has failures and a sender, and is no bounce itself
abbrev pub wants_bounce_in : Slot → Bool
wants_bounce_in s = s.failed && not s.null_sender && not s.id.bounce

-- changed where it is of this id
abbrev pub changed_at : Id → (Slot → Slot) → Slot → Slot
changed_at id change s = if id_eq s.id id then change s else s

-- without a mark that a crash may lose
abbrev pub cleared : Slot → Slot
cleared s = record s { marks = 0 }

-- with a pending recipient logged
abbrev pub with_log : Slot → Slot
with_log s = record s { pending = s.pending - 1; logged = true; failed = true }

-- with a mark more, of the recipient that is logged or of one that is pending
abbrev pub with_slot_mark : Slot → Slot
with_slot_mark s =
    let marks = if nat_lt s.marks s.recipients then s.marks + 1 else s.marks in
    if s.logged then record s { marks = marks; logged = false }
    else record s { marks = marks; pending = s.pending - 1 }

-- read up to this position
abbrev pub read_up : ℕ → Slot → Slot
read_up to s = record s { unread = to }

-- with a record that can't be read: nothing more of it is to be read
abbrev pub with_damage : Slot → Slot
with_damage s = record s { unread = s.recipients; damaged = true }

-- with its bounce stored
abbrev pub with_bounce : Slot → Slot
with_bounce s = record s { bounced = true }
