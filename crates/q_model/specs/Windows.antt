-- How a concurrency window grows and narrows, when a site dies (SCHEDULER_README, "Concurrency scheduling"),
-- and how long it rests after a delivery.
use Rattle.std.specs.Prelude.{◌&&◌, ◌*◌, ◌+◌, ◌-◌, ◌/◌, ◌==◌, if◌then◌else◌, List, max, nat_le, nat_lt, not, Some, ℕ}
use Rattle.q_model.specs.declared.outcome.SiteState.{SiteState}
use Rattle.q_model.specs.declared.outcome.SiteState.TheVariants.{Down, Up}
use Rattle.q_model.specs.Deliveries.{busy}
use Rattle.q_model.specs.Feedbacks.{amount, parts, unit}
use Rattle.q_model.specs.Ledger.{Ledger}
use Rattle.q_model.specs.Settings.{window_limit, World}
use Rattle.q_model.specs.SiteRecords.{change_site, initial_window, is_alive}
use Rattle.q_model.specs.Values.{Site, SiteRecord}
use Rattle.q_model.specs.declared.rows.Health.TheVariants as healths

-- alive again; busy counts a delivery that just replied
abbrev pub revived : World → ℕ → SiteRecord → SiteRecord
revived w busy r =
    record r {
      window = if busy == 0 then initial_window w
          else busy;
      success = 0;
      failure = 0;
      cohorts = 0;
      health = healths.Alive;
    }

-- a success that came to 1 widens the window
abbrev pub grown : World → SiteRecord → SiteRecord
grown w r = if nat_le (unit w.settings.positive) r.success
    then record r { window = r.window + 1; success = r.success - unit w.settings.positive; failure = 0 } else r

-- a success at a site that is alive: the window may grow while deliveries fill it
abbrev pub up_alive : World → ℕ → SiteRecord → SiteRecord
up_alive w busy r = if nat_lt r.window (window_limit w.settings) && nat_lt r.window (busy + initial_window w)
    then grown w (record r { cohorts = 0; success = r.success + amount w.settings.positive r.window })
    else record r { cohorts = 0 }

-- a success; a dead site comes alive and no more
abbrev pub after_up : World → ℕ → SiteRecord → SiteRecord
after_up w busy r = if is_alive r.health then up_alive w busy r else revived w busy r

-- a failure that fell below 0 narrows the window
abbrev pub narrowed : World → SiteRecord → SiteRecord
narrowed w r = let fall = amount w.settings.negative r.window in
    if nat_lt r.failure fall
    then record r { window = max 1 (r.window - 1); failure = r.failure + unit w.settings.negative - fall; success = 0 }
    else record r { failure = r.failure - fall }

-- the failed cohorts with one failure more
abbrev pub more_cohorts : World → SiteRecord → ℕ
more_cohorts w r = if w.settings.cohort_limit == 0 then 0 else r.cohorts + parts / r.window

-- a failure at a site that is alive: too many failed cohorts make it dead
abbrev pub down_alive : World → ℕ → SiteRecord → SiteRecord
down_alive w now r =
    if not (w.settings.cohort_limit == 0) && nat_le (w.settings.cohort_limit * parts) (more_cohorts w r)
    then record r { cohorts = more_cohorts w r; health = healths.DeadUntil (now + w.settings.minimal_backoff) }
    else narrowed w (record r { cohorts = more_cohorts w r })

-- a failure; of a dead site it says nothing new
abbrev pub after_down : World → ℕ → SiteRecord → SiteRecord
after_down w now r = if is_alive r.health then down_alive w now r else r

-- after a delivery it rests for the delay between deliveries, where there is one
abbrev pub rested : World → ℕ → SiteRecord → SiteRecord
rested w now r = if w.settings.rate_delay == 0 then r else record r { rest = Some (now + w.settings.rate_delay) }

-- a delivery to the site replied, and is still counted in flights
abbrev pub after_state : World → Ledger → Site → SiteState → List SiteRecord
after_state w l site Up = change_site l.sites site (λ r. rested w l.now (after_up w (busy l site) r))
after_state w l site Down = change_site l.sites site (λ r. rested w l.now (after_down w l.now r))
