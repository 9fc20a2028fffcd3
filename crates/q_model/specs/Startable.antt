-- Which waiting recipients may be sent now (SCHEDULER_README; postconf(5): default_process_limit).
use Rattle.std.specs.List.{list_any}
use Rattle.std.specs.Option.{option_map_or}
use Rattle.std.specs.Prelude.{◌&&◌, ◌==◌, [], Bool, false, filter, find, List, nat_lt, Option, slice_get, ℕ}
use Rattle.q_model.specs.declared.id.Id.{Id}
use Rattle.q_model.specs.declared.rows.Row.{Row}
use Rattle.q_model.specs.Deliveries.{busy, flights_of}
use Rattle.q_model.specs.Ids.{id_eq}
use Rattle.q_model.specs.Ledger.{Ledger}
use Rattle.q_model.specs.Settings.{World}
use Rattle.q_model.specs.SiteRecords.{is_awake, record_of}

-- the transport has a process left, and the site is alive, doesn't rest and has room in its window
abbrev pub is_startable : World → Ledger → Row → Bool
is_startable w l r = nat_lt (flights_of l r.site.transport) w.settings.process_limit
    && (option_map_or (λ s. is_awake s && nat_lt (busy l r.site) s.window) (record_of l r.site) false)

-- the entries of a job that may be sent now
abbrev pub startable_rows : World → Ledger → ℕ → Id → List Row
startable_rows w l transport id =
    filter (λ r. id_eq r.id id && (r.site.transport == transport) && is_startable w l r) l.waiting

-- the job has such an entry
abbrev pub can_start : World → Ledger → ℕ → Id → Bool
can_start w l transport id =
    list_any (λ r. id_eq r.id id && (r.site.transport == transport) && is_startable w l r) l.waiting

-- the jobs of a transport in order
abbrev pub line_of : Ledger → ℕ → List Id
line_of l transport = option_map_or (λ ids. ids) (slice_get l.lines transport) []

-- the current job: the first in the line that can start
abbrev pub current : World → Ledger → ℕ → Option Id
current w l transport = find (can_start w l transport) (line_of l transport)
