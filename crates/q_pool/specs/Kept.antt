-- What is kept of a message in memory, and what it has left to do.
use Rattle.std.specs.Prelude.{◌&&◌, ◌-◌, ◌==◌, Bool, if◌then◌else◌, List, map, min, nat_le, nat_lt, ◌||◌, ℕ}
use Rattle.q_model.specs.declared.id.Id.{Id}
use Rattle.q_model.specs.Ids.{id_eq}
use Rattle.q_pool.specs.Slots.{changed_at}
use Rattle.q_pool.specs.declared.kept.Kept.{Kept}
use Rattle.q_pool.specs.declared.slot.Slot.{Slot}

-- it is of this id
abbrev pub is_of : Id → Kept → Bool
is_of id k = id_eq k.slot.id id

-- recipients that weren't read
abbrev pub unread_of : Slot → ℕ
unread_of s = s.recipients - s.unread

-- nothing of it is unread, and no row is left
abbrev pub is_idle : Kept → Bool
is_idle k = (unread_of k.slot == 0) && (k.waiting == 0) && (k.flying == 0) && (k.unsettled == 0)

-- it has so many marks that a crash may lose, or some and is idle
abbrev pub wants_sync : ℕ → Kept → Bool
wants_sync limit k = nat_le limit k.slot.marks || (nat_lt 0 k.slot.marks && is_idle k)

-- some of it is unread, no row waits, and there is room for so many recipients as it wants at least
abbrev pub may_read : ℕ → ℕ → Kept → Bool
may_read minimum free k = nat_lt 0 (unread_of k.slot) && (k.waiting == 0)
    && nat_le (min minimum (unread_of k.slot)) free

-- with its slot changed, where it is of this id
abbrev pub kept_at : Id → (Slot → Slot) → Kept → Kept
kept_at id change k = record k { slot = changed_at id change k.slot }

-- with other counts of rows, where it is of this id
abbrev pub counted_at : Id → ℕ → ℕ → ℕ → Kept → Kept
counted_at id waiting flying unsettled k = if is_of id k
    then record k { waiting = waiting; flying = flying; unsettled = unsettled } else k

-- the slots of messages
abbrev pub heads : List Kept → List Slot
heads ks = map (λ k. k.slot) ks
