-- Which sites have room for a delivery more, and which are dead.
use Rattle.std.specs.Option.{option_map_or}
use Rattle.std.specs.Prelude.{◌&&◌, ◌==◌, Bool, false, find, List, nat_lt, not, ℕ}
use Rattle.q_model.specs.declared.id.Id.{Id}
use Rattle.q_model.specs.declared.rows.Row.{Row}
use Rattle.q_model.specs.Ids.{id_eq}
use Rattle.q_model.specs.Settings.{World}
use Rattle.q_model.specs.Startable.{is_startable}
use Rattle.q_model.specs.Deliveries.{busy}
use Rattle.q_model.specs.Ledger.{Ledger}
use Rattle.q_model.specs.SiteRecords.{is_alive, is_awake, record_of}
use Rattle.q_model.specs.Sites.{site_eq}
use Rattle.q_model.specs.Values.{Site, SiteRecord}

-- the site is alive and doesn't rest, with fewer deliveries in flight than its window
abbrev pub has_space : Ledger → Site → Bool
has_space l site =
    option_map_or (λ s. is_awake s && nat_lt (busy l site) s.window) (record_of l site) false

-- the site is dead, by these records
abbrev pub is_dead_by : List SiteRecord → Site → Bool
is_dead_by sites site = option_map_or (λ s. not (is_alive s.health)) (find (λ r. site_eq r.site site) sites) false

-- the row is of the job, and may be sent now
abbrev pub is_startable_of : World → Ledger → ℕ → Id → Row → Bool
is_startable_of w l transport id r = id_eq r.id id && (r.site.transport == transport) && is_startable w l r
