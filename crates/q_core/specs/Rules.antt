-- The rules of the next decision, by what the core holds.
use Rattle.std.specs.List.{list_any}
use Rattle.std.specs.Option.{option_map_or}
use Rattle.std.specs.Prelude.{◌&&◌, Bool, find, if◌then◌else◌, length, nat_le, nat_lt, None, not, Option, option_and_then, option_map, position, slice_get, Some, ℕ, ◌+◌}
use Rattle.q_model.specs.declared.id.Id.{Id}
use Rattle.q_model.specs.declared.rows.Need.{Need}
use Rattle.q_model.specs.declared.rows.Row.{Row}
use Rattle.q_model.specs.declared.rows.Scan.{Scan}
use Rattle.q_model.specs.declared.rows.Unsettled.{Unsettled}
use Rattle.q_model.specs.Admissions.{delivers}
use Rattle.q_model.specs.Ids.{id_eq}
use Rattle.q_model.specs.declared.rows.Need.TheVariants as needs
use Rattle.q_model.specs.declared.rows.Place.TheVariants as places
use Rattle.q_core.specs.Facts.{file_pending, file_wants_bounce, picked_next}
use Rattle.q_core.specs.Held.{finish_in, free_in, is_dead_in, is_idle_in, may_read_in, wants_sync_in}
use Rattle.q_core.specs.declared.decision.Decision.{Decision}
use Rattle.q_core.specs.declared.decision.FileFacts.{FileFacts}
use Rattle.q_core.specs.declared.decision.Found.{Found}
use Rattle.q_core.specs.declared.state.Core.{Core}
use Rattle.q_core.specs.declared.state.Seen.{Seen}
use Rattle.q_core.specs.declared.decision.Decision.TheVariants as decisions
use Rattle.q_core.specs.declared.decision.Found.TheVariants.{Damaged, Nothing, Whole}
use Rattle.q_core.specs.declared.state.Seen.TheVariants.{Known, Unknown}

-- the decision that a need asks for
abbrev pub needed_in : Id → ℕ → Need → Decision
needed_in id position (needs.Log why code) =
    decisions.Log id (record { position = position; why = why; code = code })
needed_in id position needs.Mark = decisions.Mark id position

-- what an outcome needs first
abbrev pub decision_of : Unsettled → Decision
decision_of u = needed_in u.id u.position u.need

-- the first unsettled outcome is logged or marked
abbrev pub first_need_in : Core → Option Decision
first_need_in c = option_map decision_of (slice_get c.unsettled 0)

-- the marks of the first message that wants it are synced
abbrev pub next_sync_in : Core → Option Decision
next_sync_in c = option_map (λ s. decisions.Sync s.id) (find (wants_sync_in c) c.admitted)

-- the number of the row that is put off next; rows are numbered from 1, and begin anew behind 2^32
-- - 1
abbrev pub next_skip_number : Core → ℕ
next_skip_number c = if nat_lt c.skips 4294967295 then c.skips + 1 else 1

-- the row is put off
abbrev pub skip_decision : Core → Row → Decision
skip_decision c r = decisions.Skip r.id r.site (next_skip_number c)

abbrev pub skip_at : Core → ℕ → Option Decision
skip_at c place = option_map (skip_decision c) (slice_get c.waiting place)

-- the first row at a dead site is put off
abbrev pub next_skip_in : Core → Option Decision
next_skip_in c = option_and_then (skip_at c) (position (λ r. is_dead_in c r.site) c.waiting)

-- the first idle message leaves active
abbrev pub next_finish_in : Core → Option Decision
next_finish_in c = option_and_then (finish_in c) (find (λ s. is_idle_in c s.id) c.admitted)

-- the first message that may read reads
abbrev pub next_read_in : Core → Option Decision
next_read_in c = option_map (λ s. decisions.Read s.id s.unread (free_in c))
    (find (may_read_in c) c.admitted)

-- the message was synced in this life
abbrev pub is_synced_in : Core → Id → Bool
is_synced_in c id = list_any (id_eq id) c.synced

-- with each failure marked it is synced, goes back, or is finished
abbrev pub clear_marked_in : Bool → Id → FileFacts → Decision
clear_marked_in synced id f = if not synced then decisions.Sync id
    else (if nat_lt 0 (file_pending f) then decisions.Back id
    else (if file_wants_bounce f id && not f.bounced then decisions.Bounce id
    else decisions.Remove id))

-- what is done with a message that an earlier life left in active
abbrev pub clear_in : Bool → Id → FileFacts → Decision
clear_in synced id f = option_map_or (λ position. decisions.Mark id position) f.unmarked
    (clear_marked_in synced id f)

-- a damaged one goes to corrupt
abbrev pub clear_found_in : Core → Found → Option Decision
clear_found_in c Nothing = None
clear_found_in c (Damaged id due alone) = if alone then Some (decisions.Corrupt id places.Active)
    else None
clear_found_in c (Whole id due f) = Some (clear_in (is_synced_in c id) id f)

-- what the look at active has shown is cleared, or the look is wanted
abbrev pub next_clearing_in : Core → Seen → Option Decision
next_clearing_in c Unknown = Some decisions.LookActive
next_clearing_in c (Known found) = clear_found_in c found

-- another message may come into memory
abbrev pub has_message_room_in : Core → Bool
has_message_room_in c = delivers c.mode && nat_lt (length c.admitted) c.params.active_limit
    && nat_le c.params.recipient_minimum (free_in c)

-- what is taken while a scan goes on, or its look is wanted
abbrev pub admission_of : Core → Found → Scan → Seen → Option Decision
admission_of c incoming scan Unknown = Some (decisions.LookDeferred scan.place scan.until)
admission_of c incoming scan (Known deferred) = picked_next c.deferred_follows incoming deferred

-- what is taken with this answer from incoming
abbrev pub admission_in : Core → Found → Seen → Option Scan → Option Decision
admission_in c incoming deferred None = picked_next c.deferred_follows incoming Nothing
admission_in c incoming deferred (Some scan) = admission_of c incoming scan deferred

-- the look at incoming is wanted first
abbrev pub admission_seen : Core → Seen → Option Decision
admission_seen c Unknown = Some decisions.LookIncoming
admission_seen c (Known incoming) = admission_in c incoming c.deferred c.scan

-- the next file comes in where there is room
abbrev pub next_admission_in : Core → Seen → Option Decision
next_admission_in c incoming = if not (has_message_room_in c) then None
    else admission_seen c incoming
