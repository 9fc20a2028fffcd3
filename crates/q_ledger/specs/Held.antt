-- What is kept of the messages in memory, found, and which rows it allows.
use Rattle.std.specs.Option.{option_map_or}
use Rattle.std.specs.List.{list_any}
use Rattle.std.specs.Prelude.{◌&&◌, ◌+◌, ◌-◌, ◌==◌, ◌||◌, Bool, count_by, false, find, min, nat_le, nat_lt, not, Option, ℕ}
use Rattle.q_model.specs.Finishing.{has_bounce, is_clean, is_done, wants_bounce}
use Rattle.q_model.specs.Leftovers.{was_synced}
use Rattle.q_model.specs.Lists.{has_none}
use Rattle.q_model.specs.Memory.{has_waiting}
use Rattle.q_model.specs.Message.{Message, pending, unmarked_logged}
use Rattle.q_model.specs.Next.{marks_of}
use Rattle.q_model.specs.Places.{is_active}
use Rattle.q_model.specs.Settings.{World}
use Rattle.q_model.specs.Times.{due}
use Rattle.q_ledger.specs.Worlds.{Given, world_of}
use Rattle.q_model.specs.declared.id.Id.{Id}
use Rattle.q_model.specs.Ids.{id_eq}
use Rattle.q_ledger.specs.State.{State}
use Rattle.q_ledger.specs.declared.admitted.Slot.{Slot}

-- what is kept of the message
abbrev pub slot_in : State → Id → Option Slot
slot_in c id = find (λ s. id_eq s.id id) c.slots

-- how many of its recipients were not read yet
abbrev pub unread_in : State → Id → ℕ
unread_in c id = option_map_or (λ s. s.recipients - s.unread) (slot_in c id) 0

-- nothing of it is unread, waits, is in flight or is unsettled
abbrev pub is_idle_slot : Slot → Bool
is_idle_slot s = (s.recipients - s.unread == 0) && (s.rows == 0)

-- the same by id
abbrev pub is_idle_in : State → Id → Bool
is_idle_in c id = option_map_or is_idle_slot (slot_in c id) false

-- idle, or left by an earlier life and synced
abbrev pub is_at_rest_in : State → Id → Bool
is_at_rest_in c id = is_idle_in c id || (list_any (id_eq id) c.leftovers && was_synced c.ledger id)

-- a message that may be bounced
abbrev pub may_bounce_in : State → Id → Message → Bool
may_bounce_in c id m = is_active m.place && is_at_rest_in c id && is_done m && wants_bounce m && not (has_bounce c.ledger id)

-- a message that may be removed
abbrev pub may_remove_in : State → Id → Message → Bool
may_remove_in c id m = is_active m.place && is_at_rest_in c id && is_done m && (not (wants_bounce m) || has_bounce c.ledger id)

-- a message that may be deferred until then, where it is idle
abbrev pub may_defer_in : Given → State → ℕ → Message → Bool
may_defer_in g c t m = not (has_none (pending m)) && is_clean m && (t == due (world_of g) c.ledger.now m)

-- a recipient is pending, and no mark is missing or only written
abbrev pub is_undone : Message → Bool
is_undone m = has_none (unmarked_logged m) && is_clean m && not (has_none (pending m))

-- a message whose marks may be synced
abbrev pub may_sync_in : State → Id → Message → Bool
may_sync_in c id m = is_active m.place && (list_any (id_eq id) c.leftovers || not (is_clean m))

-- what the job has left: its rows that wait, and its unread recipients
abbrev pub rest_in : State → Id → ℕ → ℕ
rest_in c id transport = count_by (λ r. id_eq r.id id && (r.site.transport == transport)) c.ledger.waiting + unread_in c id

-- the message has something unread and nothing that waits, and there is room for it
abbrev pub may_read_in : World → State → Slot → ℕ → Bool
may_read_in w c s free = nat_lt 0 (s.recipients - s.unread) && not (has_waiting c.ledger s.id)
    && nat_le (min w.settings.recipient_minimum (s.recipients - s.unread)) free

-- the message has mark_sync_limit marks that a crash may lose, or some and is idle
abbrev pub wants_sync_in : World → State → Slot → Bool
wants_sync_in w c s = nat_le w.settings.mark_sync_limit (marks_of c.ledger s.id)
    || (nat_lt 0 (marks_of c.ledger s.id) && is_idle_in c s.id)
