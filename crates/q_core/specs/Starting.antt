-- Which waiting rows may be sent now, by what the core holds.
use Rattle.std.specs.List.{list_any}
use Rattle.q_core.specs.Lists.{sooner_of}
use Rattle.std.specs.Option.{option_map_or}
use Rattle.std.specs.Prelude.{◌&&◌, ◌+◌, ◌==◌, Bool, count_by, false, filter, find, if◌then◌else◌, List, nat_lt, Option, option_map, Some, ℕ}
use Rattle.q_model.specs.declared.id.Id.{Id}
use Rattle.q_model.specs.declared.rows.Row.{Row}
use Rattle.q_model.specs.Sites.{site_eq}
use Rattle.q_model.specs.Ids.{id_eq}
use Rattle.q_model.specs.Lists.{least}
use Rattle.q_model.specs.SiteRecords.{is_awake}
use Rattle.q_model.specs.Values.{Served, Site}
use Rattle.q_core.specs.UsedSites.{busy_in}
use Rattle.q_core.specs.Held.{record_in}
use Rattle.q_core.specs.declared.decision.Decision.{Decision}
use Rattle.q_core.specs.declared.state.Core.{Core}
use Rattle.q_core.specs.declared.decision.Decision.TheVariants.{Start}

-- the deliveries in flight at a transport
abbrev pub flights_at : Core → ℕ → ℕ
flights_at c transport = count_by (λ f. f.row.site.transport == transport) c.flights

-- the site is alive, doesn't rest and has room in its window
abbrev pub has_room_in : Core → Site → Bool
has_room_in c site = option_map_or (λ d. is_awake d
    && nat_lt (busy_in c.flights site) d.window)
    (record_in c site) false

-- the transport has a process left too
abbrev pub is_startable_in : Core → Row → Bool
is_startable_in c r = nat_lt (flights_at c r.site.transport) c.params.process_limit
    && has_room_in c r.site

-- the rows of a message at a transport that may be sent now
abbrev pub rows_for : Core → Id → ℕ → Row → Bool
rows_for c id transport r = id_eq r.id id && (r.site.transport == transport) && is_startable_in c r

-- the message has such a row
abbrev pub can_start_in : Core → ℕ → Id → Bool
can_start_in c transport id = list_any (rows_for c id transport) c.waiting

-- when the message was last sent to the row's site
abbrev pub served_for : Core → Row → Option Served
served_for c r = find (λ s. id_eq s.id r.id && site_eq s.site r.site) c.served

-- the number of that delivery, 0 for none
abbrev pub last_start_in : Core → Row → ℕ
last_start_in c r = option_map_or (λ s. s.last) (served_for c r) 0

-- the row was sent to before another
abbrev pub sent_before : Core → Row → Row → Bool
sent_before c a b = nat_lt (last_start_in c a) (last_start_in c b)

-- the row that starts next of these: the one sent to longest ago; among equals the first read
abbrev pub next_row_of : Core → ℕ → Id → List Row → Option Row
next_row_of c transport id rows = least (sent_before c) (filter (rows_for c id transport) rows)

-- the row that starts next of those that wait
abbrev pub next_row_in : Core → ℕ → Id → Option Row
next_row_in c transport id = next_row_of c transport id c.waiting

-- the row that was found before or this one, whichever starts first
abbrev pub sooner_row : Core → ℕ → Id → Option Row → Row → Option Row
sooner_row c transport id next r = if rows_for c id transport r
    then Some (sooner_of (sent_before c) next r) else next

-- the delivery of a row
abbrev pub start_of_row : Core → Row → Decision
start_of_row c r = Start (c.starts + 1) r.id r.site

-- the next delivery of a message at a transport
abbrev pub start_in : Core → ℕ → Id → Option Decision
start_in c transport id = option_map (start_of_row c) (next_row_in c transport id)
