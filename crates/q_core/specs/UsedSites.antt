-- What becomes of the records of sites, by the rows that wait and that are in flight.
use Rattle.std.specs.List.{list_any}
use Rattle.std.specs.Prelude.{◌&&◌, ◌==◌, Bool, count_by, filter, if◌then◌else◌, length, List, nat_lt, not, ℕ}
use Rattle.q_model.specs.declared.rows.Delivery.{Delivery}
use Rattle.q_model.specs.declared.rows.Row.{Row}
use Rattle.q_model.specs.Sites.{site_eq}
use Rattle.q_model.specs.Lists.{drop_first}
use Rattle.q_model.specs.Revival.{is_due, rest_ended}
use Rattle.q_model.specs.Routes.{world_without_table}
use Rattle.q_model.specs.Settings.{Settings}
use Rattle.q_model.specs.SiteRecords.{is_alive, is_awake}
use Rattle.q_model.specs.Values.{Site, SiteRecord}
use Rattle.q_model.specs.Windows.{revived}

-- the deliveries in flight at a site
abbrev pub busy_in : List Delivery → Site → ℕ
busy_in flights site = count_by (λ f. site_eq f.row.site site) flights

-- recipients wait at the site
abbrev pub waits_at_in : List Row → Site → Bool
waits_at_in waiting site = list_any (λ r. site_eq r.site site) waiting

-- nothing waits there, and nothing is in flight
abbrev pub is_unused_in : List Row → List Delivery → Site → Bool
is_unused_in waiting flights site = not (waits_at_in waiting site) && (busy_in flights site == 0)

-- the site is dead, and recipients wait there
abbrev pub is_dead_with : List Row → SiteRecord → Bool
is_dead_with waiting r = not (is_alive r.health) && waits_at_in waiting r.site

-- a site that is dead or rests, and is only remembered
abbrev pub is_remembered_in : List Row → List Delivery → SiteRecord → Bool
is_remembered_in waiting flights r = is_unused_in waiting flights r.site && not (is_awake r)

-- the record of this site, where nothing waits or is in flight any more
abbrev pub is_left_in : List Row → List Delivery → Site → SiteRecord → Bool
is_left_in waiting flights site r = is_unused_in waiting flights r.site && site_eq r.site site

-- a dead site whose time has come is alive again, and a rest that is over ends
abbrev pub wake_due_in : Settings → List Delivery → ℕ → SiteRecord → SiteRecord
wake_due_in p flights moment r = rest_ended moment (if is_due moment r.health
    then revived (world_without_table p) (busy_in flights r.site) r else r)

-- a dead site is alive again
abbrev pub revive_dead_in : Settings → List Delivery → SiteRecord → SiteRecord
revive_dead_in p flights r = if not (is_alive r.health) then revived (world_without_table p)
    (busy_in flights r.site) r else r

-- a record of a site that is dead, rests or is used
abbrev pub is_kept_in : List Row → List Delivery → SiteRecord → Bool
is_kept_in waiting flights r = not (is_unused_in waiting flights r.site
    && not (not (is_awake r)))

-- these records
abbrev pub used_in : List Row → List Delivery → List SiteRecord → List SiteRecord
used_in waiting flights sites = filter (is_kept_in waiting flights) sites

-- the one of them that was unused longest is forgotten, where too many are remembered
abbrev pub forget_in : List Row → List Delivery → ℕ → List SiteRecord → List SiteRecord
forget_in waiting flights limit sites = if nat_lt limit
    (length (filter (is_remembered_in waiting flights) sites)) then drop_first
    (is_remembered_in waiting flights) sites else sites
