-- What is known of a site: found, made and changed.
use Rattle.std.specs.List.{list_any}
use Rattle.std.specs.Option.{option_map_or}
use Rattle.std.specs.Prelude.{◌&&◌, ◌++◌, [], Bool, false, find, if◌then◌else◌, is_some, List, map, min, None, not, Option, true, ℕ, ◌∷◌}
use Rattle.q_model.specs.declared.rows.Health.{Health}
use Rattle.q_model.specs.Sites.{site_eq}
use Rattle.q_model.specs.Ledger.{Ledger}
use Rattle.q_model.specs.Settings.{window_limit, World}
use Rattle.q_model.specs.Values.{Site, SiteRecord}
use Rattle.q_model.specs.declared.rows.Health.TheVariants as healths

-- mail may be sent there
abbrev pub is_alive : Health → Bool
is_alive healths.Alive = true
is_alive (healths.DeadUntil t) = false

-- no delivery to the site begins for a while, since one ended
abbrev pub is_resting : SiteRecord → Bool
is_resting r = is_some r.rest

-- the site is alive, and doesn't rest
abbrev pub is_awake : SiteRecord → Bool
is_awake r = is_alive r.health && not (is_resting r)

-- the record of a site
abbrev pub record_of : Ledger → Site → Option SiteRecord
record_of l site = find (λ r. site_eq r.site site) l.sites

-- the site is dead
abbrev pub is_dead_site : Ledger → Site → Bool
is_dead_site l site = option_map_or (λ s. not (is_alive s.health)) (record_of l site) false

-- the window at first: initial_destination_concurrency, within the limit
abbrev pub initial_window : World → ℕ
initial_window w = min w.settings.initial_concurrency (window_limit w.settings)

-- the record of a site that is used anew
abbrev pub new_record : World → Site → SiteRecord
new_record w site =
    record { site = site; window = initial_window w; success = 0; failure = 0; cohorts = 0; health = healths.Alive; rest = None }

-- the records, with one for the site
abbrev pub with_record : World → List SiteRecord → Site → List SiteRecord
with_record w rs site = if list_any (λ r. site_eq r.site site) rs then rs else rs ++ new_record w site ∷ []

-- the record of this site is changed
abbrev pub change_site : List SiteRecord → Site → (SiteRecord → SiteRecord) → List SiteRecord
change_site rs site change = map (λ r. if site_eq r.site site then change r else r) rs
