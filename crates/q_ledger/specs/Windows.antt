-- How a site's record changes by a reply. Where a window is divided by or counts for an amount, it
-- is taken from 1 to 40, as each window is.
use Rattle.std.specs.Prelude.{◌&&◌, ◌*◌, ◌+◌, ◌-◌, ◌/◌, ◌==◌, Bool, if◌then◌else◌, max, min, nat_le, nat_lt, not, ℕ}
use Rattle.q_model.specs.declared.outcome.SiteState.{SiteState}
use Rattle.q_model.specs.Feedbacks.{amount, parts, unit}
use Rattle.q_model.specs.Routes.{world_without_table}
use Rattle.q_model.specs.Settings.{Settings, window_limit}
use Rattle.q_model.specs.SiteRecords.{is_alive}
use Rattle.q_model.specs.Sites.{site_eq}
use Rattle.q_model.specs.Values.{Site, SiteRecord}
use Rattle.q_model.specs.Windows.{rested, revived}
use Rattle.q_model.specs.declared.rows.Health.TheVariants as healths
use Rattle.q_model.specs.declared.outcome.SiteState.TheVariants.{Down, Up}

-- the window, from 1 to 40
abbrev pub open_window : ℕ → ℕ
open_window window = max 1 (min window 40)

-- the window may grow: it is below the limit, and deliveries fill it
abbrev pub may_widen_in : Settings → ℕ → SiteRecord → Bool
may_widen_in p busy r = nat_lt r.window (window_limit p) && nat_lt r.window
    (busy + min p.initial_concurrency (window_limit p))

-- the success so far, with one more
abbrev pub more_success : Settings → SiteRecord → ℕ
more_success p r = r.success + amount p.positive (open_window r.window)

-- one success more; where it comes to 1, the window grows
abbrev pub widened_in : Settings → SiteRecord → SiteRecord
widened_in p r = if nat_le (unit p.positive) (more_success p r)
    then record r {
      window = r.window + 1;
      success = more_success p r - unit p.positive;
      failure =
          0;
    }
    else record r { success = more_success p r }

-- a success at a site that is alive
abbrev pub up_alive_in : Settings → ℕ → SiteRecord → SiteRecord
up_alive_in p busy r = if may_widen_in p busy r then widened_in p (record r { cohorts = 0 })
    else record r { cohorts = 0 }

-- a success
abbrev pub up_in : Settings → ℕ → SiteRecord → SiteRecord
up_in p busy r = if is_alive r.health then up_alive_in p busy r
    else revived (world_without_table p) busy r

-- the fall of one failure
abbrev pub fall_in : Settings → SiteRecord → ℕ
fall_in p r = amount p.negative (open_window r.window)

-- one failure more; where it falls below 0, the window narrows
abbrev pub narrowed_in : Settings → SiteRecord → SiteRecord
narrowed_in p r = if nat_lt r.failure (fall_in p r)
    then record r {
      window = max 1 (r.window - 1);
      failure =
          r.failure + unit p.negative - fall_in p r;
      success = 0;
    }
    else record r { failure = r.failure - fall_in p r }

-- the failed cohorts with one failure more
abbrev pub more_cohorts_in : Settings → SiteRecord → ℕ
more_cohorts_in p r = if p.cohort_limit == 0 then 0 else r.cohorts + parts / open_window r.window

-- so many failed cohorts make a site dead
abbrev pub is_too_much : Settings → ℕ → Bool
is_too_much p cohorts = not (p.cohort_limit == 0) && nat_le (p.cohort_limit * parts) cohorts

-- a failure at a site that is alive
abbrev pub down_alive_in : Settings → ℕ → SiteRecord → SiteRecord
down_alive_in p now r = if is_too_much p (more_cohorts_in p r)
    then record r {
      cohorts = more_cohorts_in p r;
      health =
          healths.DeadUntil (now + p.minimal_backoff);
    }
    else narrowed_in p (record r { cohorts = more_cohorts_in p r })

-- a failure
abbrev pub down_in : Settings → ℕ → SiteRecord → SiteRecord
down_in p now r = if is_alive r.health then down_alive_in p now r else r

-- a delivery reached its site, or did not; the site rests then for the delay, where there is one
abbrev pub heard_in : Settings → ℕ → ℕ → SiteState → SiteRecord → SiteRecord
heard_in p busy now Up r = rested (world_without_table p) now (up_in p busy r)
heard_in p busy now Down r = rested (world_without_table p) now (down_in p now r)

-- the record of this site hears it
abbrev pub heard_at : Settings → Site → ℕ → ℕ → SiteState → SiteRecord → SiteRecord
heard_at p site busy now state r = if site_eq r.site site then heard_in p busy now state r else r
