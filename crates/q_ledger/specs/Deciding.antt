-- The next decision, by what is kept beside a ledger: of each rule, what it gives.
use Rattle.std.specs.List.{list_any}
use Rattle.std.specs.Option.{option_map_or, option_or}
use Rattle.std.specs.Prelude.{◌&&◌, ◌==◌, [], Bool, false, find, if◌then◌else◌, is_some, min, None, not, Option, option_and_then, option_map, Some, ℕ, ◌∷◌}
use Rattle.q_ledger.specs.Held.{is_idle_in, is_idle_slot, is_undone, may_bounce_in, may_defer_in, may_read_in, may_remove_in, may_sync_in, slot_in, wants_sync_in}
use Rattle.q_ledger.specs.State.{State}
use Rattle.q_ledger.specs.Worlds.{Given, world_of}
use Rattle.q_ledger.specs.declared.admitted.Slot.{Slot}
use Rattle.q_model.specs.Admissions.{cause_gone, has_room}
use Rattle.q_model.specs.Alternation.{Pick, pick, pick_id}
use Rattle.q_model.specs.Batches.{load_end}
use Rattle.q_model.specs.Book.{message_of}
use Rattle.q_model.specs.Ids.{id_before, id_eq}
use Rattle.q_model.specs.Ledger.{Ledger}
use Rattle.q_model.specs.Leftovers.{was_synced}
use Rattle.q_model.specs.Lists.{first_of, least}
use Rattle.q_model.specs.Memory.{free}
use Rattle.q_model.specs.Message.{Message}
use Rattle.q_model.specs.Next.{mark_logged, settling_rule, skip_rule}
use Rattle.q_model.specs.Settings.{World}
use Rattle.q_model.specs.Times.{due}
use Rattle.q_model.specs.declared.entry.Entry.{Entry}
use Rattle.q_model.specs.declared.id.Id.{Id}
use Rattle.q_model.specs.declared.entry.Entry.TheVariants as entries

-- the message of an id may be deferred until then
abbrev pub defers_in : Given → State → Id → ℕ → Bool
defers_in g s id t = is_idle_in s id && option_map_or (may_defer_in g s t) (message_of s.ledger.book id) false

-- it may be bounced
abbrev pub bounces_in : State → Id → Bool
bounces_in s id = option_map_or (may_bounce_in s id) (message_of s.ledger.book id) false

-- it may be removed
abbrev pub removes_in : State → Id → Bool
removes_in s id = option_map_or (may_remove_in s id) (message_of s.ledger.book id) false

-- it may be moved back
abbrev pub backs_in : State → Id → Bool
backs_in s id = list_any (id_eq id) s.leftovers && was_synced s.ledger id
    && option_map_or is_undone (message_of s.ledger.book id) false

-- its marks may be synced
abbrev pub syncs_in : State → Id → Bool
syncs_in s id = option_map_or (may_sync_in s id) (message_of s.ledger.book id) false

-- the marks of the first message that wants it are synced
abbrev pub sync_in : World → State → Option Entry
sync_in w s = option_map (λ x. entries.Sync x.id) (find (wants_sync_in w s) s.slots)

-- a message is deferred, else its bounce is stored, else it is removed
abbrev pub finish_in : Given → State → Message → Option Entry
finish_in g s m =
    let t = due (world_of g) s.ledger.now m in
    first_of ((defers_in g s m.id t, entries.Defer m.id t)
    ∷ (bounces_in s m.id, entries.Bounce m.id)
    ∷ (removes_in s m.id, entries.Remove m.id)
    ∷ [])

-- the first idle message is finished
abbrev pub finishing_in : Given → State → Option Entry
finishing_in g s =
    option_and_then (λ x. option_and_then (finish_in g s) (message_of s.ledger.book x.id)) (find is_idle_slot s.slots)

-- a leftover whose failures are marked is synced, then finished or moved back
abbrev pub clear_marked_in : State → Message → Option Entry
clear_marked_in s m = first_of ((not (was_synced s.ledger m.id), entries.Sync m.id)
    ∷ (bounces_in s m.id, entries.Bounce m.id)
    ∷ (removes_in s m.id, entries.Remove m.id)
    ∷ (backs_in s m.id, entries.Back m.id)
    ∷ [])

-- a leftover is marked, synced, finished or moved back
abbrev pub clear_in : State → Message → Option Entry
clear_in s m = option_or (mark_logged m) (clear_marked_in s m)

-- the least leftover is cleared
abbrev pub clearing_in : State → Option Entry
clearing_in s =
    option_and_then (λ id. option_and_then (clear_in s) (message_of s.ledger.book id)) (least id_before s.leftovers)

-- the load is of the message's first unread position, and goes as far as there is room
abbrev pub reads_on_in : World → State → Slot → ℕ → ℕ → Message → Bool
reads_on_in w s x from to m = may_read_in w s x (free w s.ledger) && (from == x.unread)
    && (to == load_end m from (free w s.ledger))

-- the message of an id may read so far
abbrev pub loads_in : World → State → Id → ℕ → ℕ → Bool
loads_in w s id from to =
    option_map_or (λ x. option_map_or (reads_on_in w s x from to) (message_of s.ledger.book id) false) (slot_in s id) false

-- what a message reads next, as far as there is room, and no further than its recipients
abbrev pub load_of_slot : World → State → Slot → Option Entry
load_of_slot w s x =
    option_map (λ m. entries.Load x.id x.unread (min (load_end m x.unread (free w s.ledger)) x.recipients))
    (message_of s.ledger.book x.id)

-- the first message that may read reads
abbrev pub load_in : World → State → Option Entry
load_in w s = option_and_then (load_of_slot w s) (find (λ x. may_read_in w s x (free w s.ledger)) s.slots)

-- a message that is picked is admitted, where it stands, and alone
abbrev pub admit_in : Ledger → Pick → Option Entry
admit_in l p = if is_some (message_of l.book (pick_id p)) && cause_gone l.book (pick_id p) then Some (entries.Admit (pick_id p)) else None

-- the next file is admitted
abbrev pub admission_in : World → Ledger → Option Entry
admission_in w l = option_and_then (admit_in l) (if has_room w l then pick l else None)

-- the first that applies of the rules for messages
abbrev pub moving_in : Given → State → Option Entry
moving_in g s = option_or (finishing_in g s)
    (option_or (clearing_in s)
    (option_or (admission_in (world_of g) s.ledger)
    (load_in (world_of g) s)))

-- the first that applies of the rules for outcomes
abbrev pub settling_in : World → State → Option Entry
settling_in w s = option_or (settling_rule s.ledger) (option_or (sync_in w s) (skip_rule s.ledger))
