-- What the core says of messages and sites.
use Rattle.std.specs.List.{list_any}
use Rattle.std.specs.Option.{option_map_or}
use Rattle.std.specs.Prelude.{◌&&◌, ◌+◌, ◌-◌, ◌==◌, Bool, false, find, if◌then◌else◌, length, List, max, min, nat_le, nat_lt, None, not, Option, Some, ◌||◌, ℕ}
use Rattle.q_model.specs.declared.id.Id.{Id}
use Rattle.q_model.specs.Sites.{site_eq}
use Rattle.q_model.specs.Ids.{id_eq}
use Rattle.q_model.specs.SiteRecords.{is_alive}
use Rattle.q_model.specs.Values.{Site, SiteRecord}
use Rattle.q_pool.specs.Slots.{wants_bounce_in}
use Rattle.q_core.specs.declared.decision.Decision.{Decision}
use Rattle.q_pool.specs.declared.slot.Slot.{Slot}
use Rattle.q_core.specs.declared.state.Core.{Core}
use Rattle.q_core.specs.declared.decision.Decision.TheVariants.{Bounce, Corrupt, Defer, Remove}
use Rattle.q_model.specs.declared.rows.Place.TheVariants.{Active}

-- the row of a message in memory
abbrev pub slot_in : Core → Id → Option Slot
slot_in c id = find (λ s. id_eq s.id id) c.admitted

-- the record of a site
abbrev pub record_in : Core → Site → Option SiteRecord
record_in c site = find (λ d. site_eq d.site site) c.sites

-- the message is in memory
abbrev pub is_admitted_in : Core → Id → Bool
is_admitted_in c id = list_any (λ s. id_eq s.id id) c.admitted

-- a message in memory of this id has a record that can't be read
abbrev pub is_damaged_in : Core → Id → Bool
is_damaged_in c id = list_any (λ s. id_eq s.id id && s.damaged) c.admitted

-- how many of its recipients were not read yet
abbrev pub unread_in : Core → Id → ℕ
unread_in c id = option_map_or (λ s. s.recipients - s.unread) (slot_in c id) 0

-- it has recipients that wait
abbrev pub has_waiting_in : Core → Id → Bool
has_waiting_in c id = list_any (λ r. id_eq r.id id) c.waiting

-- it has recipients that are in flight
abbrev pub has_flight_in : Core → Id → Bool
has_flight_in c id = list_any (λ f. id_eq f.row.id id) c.flights

-- it has recipients that are unsettled
abbrev pub has_unsettled_in : Core → Id → Bool
has_unsettled_in c id = list_any (λ u. id_eq u.id id) c.unsettled

-- it has any of these
abbrev pub has_rows_in : Core → Id → Bool
has_rows_in c id = has_waiting_in c id || has_flight_in c id || has_unsettled_in c id

-- it is in memory and nothing of it is left to do there
abbrev pub is_idle_in : Core → Id → Bool
is_idle_in c id = is_admitted_in c id && (unread_in c id == 0) && not (has_rows_in c id)

-- the site is dead
abbrev pub is_dead_in : Core → Site → Bool
is_dead_in c site = option_map_or (λ d. not (is_alive d.health)) (record_in c site) false

-- when a message that arrived then is due again
abbrev pub due_in : Core → ℕ → ℕ
due_in c arrival = c.clock.seconds + max c.params.minimal_backoff
    (min c.params.maximal_backoff (c.clock.seconds - arrival))

-- it has mark_sync_limit marks that a crash may lose, or some and is idle
abbrev pub wants_sync_in : Core → Slot → Bool
wants_sync_in c s = nat_le c.params.mark_sync_limit s.marks
    || (nat_lt 0 s.marks && is_idle_in c s.id)

-- how an idle message leaves active
abbrev pub finish_in : Core → Slot → Option Decision
finish_in c s = if nat_lt 0 s.marks then None
    else (if s.damaged then Some (Corrupt s.id Active)
    else (if nat_lt 0 s.pending then Some (Defer s.id (due_in c s.arrival))
    else (if s.logged then None
    else (if wants_bounce_in s && not s.bounced then Some (Bounce s.id) else Some (Remove s.id)))))

-- how many more recipients may be in memory
abbrev pub free_in : Core → ℕ
free_in c = c.params.recipient_limit - c.in_memory

-- outcomes of so many recipients have space beside those that are to be settled
abbrev pub have_space : Core → List ℕ → Bool
have_space c positions = nat_le (length c.unsettled + length positions) c.params.recipient_limit

-- recipients of it are to be read
abbrev pub may_read_in : Core → Slot → Bool
may_read_in c s = nat_lt 0 (s.recipients - s.unread) && not (has_waiting_in c s.id) && nat_le
    (min c.params.recipient_minimum (s.recipients - s.unread)) (free_in c)
