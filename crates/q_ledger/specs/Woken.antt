-- The record of a site as dead sites come alive and rests end, by the deliveries in flight.
use Rattle.std.specs.Prelude.{count_by, if◌then◌else◌, List, ℕ}
use Rattle.q_model.specs.declared.rows.Delivery.{Delivery}
use Rattle.q_model.specs.Revival.{is_due, rest_ended}
use Rattle.q_model.specs.Routes.{world_without_table}
use Rattle.q_model.specs.Settings.{Settings}
use Rattle.q_model.specs.SiteRecords.{is_alive}
use Rattle.q_model.specs.Sites.{site_eq}
use Rattle.q_model.specs.Values.{Site, SiteRecord}
use Rattle.q_model.specs.Windows.{revived}

-- how many of these deliveries are to the site
abbrev pub busy_among : List Delivery → Site → ℕ
busy_among flights site = count_by (λ f. site_eq f.row.site site) flights

-- alive again
abbrev pub revived_among : Settings → List Delivery → SiteRecord → SiteRecord
revived_among p flights r = revived (world_without_table p) (busy_among flights r.site) r

-- alive again where its time has come
abbrev pub revived_at : Settings → List Delivery → ℕ → SiteRecord → SiteRecord
revived_at p flights now r = if is_due now r.health then revived_among p flights r else r

-- and without a rest that is over
abbrev pub woken_at : Settings → List Delivery → ℕ → SiteRecord → SiteRecord
woken_at p flights now r = rest_ended now (revived_at p flights now r)

-- alive again where it is dead
abbrev pub revived_if_dead : Settings → List Delivery → SiteRecord → SiteRecord
revived_if_dead p flights r = if is_alive r.health then r else revived_among p flights r
