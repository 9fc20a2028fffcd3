-- A window that is open changes by a reply as the core's record does.
use Rattle.std.proofs.Common.{◌≡◌, ℕ, ◌≤◌, ◌+◌, ◌-◌, ◌/◌, true, List, [], ◌∷◌, map, refl, ap, ◌∙◌, arith}
use Rattle.std.specs.Prelude.{◌==◌, if◌then◌else◌, max, nat_le, nat_lt}
use Rattle.std.specs.List.{list_all}
use Rattle.std.proofs.lemmas.Bool.{and_parts, leb-true}
use Rattle.q_ledger.specs.Windows.{down_in, heard_at, is_too_much, may_widen_in, open_window, up_in}
use Rattle.q_laws.specs.SitesConsistency.{is_window}
use Rattle.q_model.specs.Deliveries.{busy}
use Rattle.q_model.specs.Sites.{site_eq}
use Rattle.q_model.specs.Feedbacks.{amount, parts, unit}
use Rattle.q_model.specs.Ledger.{Ledger}
use Rattle.q_model.specs.Settings.{World, window_limit}
use Rattle.q_model.specs.SiteRecords.{change_site, is_alive}
use Rattle.q_model.specs.Values.{Site, SiteRecord}
use Rattle.q_model.specs.Windows.{after_down, after_state, after_up, rested, revived}
use Rattle.q_model.specs.declared.outcome.SiteState.{SiteState}
use Rattle.q_model.specs.declared.outcome.SiteState.TheVariants.{Down, Up}
use Rattle.q_model.specs.declared.rows.Health.TheVariants as healths

open_same : (n : ℕ) → 1 ≤ n → n ≤ 40 → open_window n ≡ n
open_same n low high = omega (arith, low, high)

-- the two changes, with the window that amounts are taken at beside the record
abbrev grown_at : World → ℕ → SiteRecord → SiteRecord
grown_at w n r = if nat_le (unit w.settings.positive) (r.success + amount w.settings.positive n)
    then record r { window = r.window + 1; success = r.success + amount w.settings.positive n - unit w.settings.positive; failure = 0; cohorts = 0 } else record r { success = r.success + amount w.settings.positive n; cohorts = 0 }

abbrev up_at : World → ℕ → ℕ → SiteRecord → SiteRecord
up_at w busy n r = if is_alive r.health then (if may_widen_in w.settings busy r then grown_at w n r else record r { cohorts = 0 }) else revived w busy r

pub up_law : (w : World) (busy : ℕ) (r : SiteRecord) → 1 ≤ r.window → r.window ≤ 40 → up_in w.settings busy r ≡ after_up w busy r
up_law w busy r low high = ap (λ n. up_at w busy n r) (open_same r.window low high)

abbrev cohorts_at : World → ℕ → SiteRecord → ℕ
cohorts_at w n r = if w.settings.cohort_limit == 0 then 0 else r.cohorts + parts / n

abbrev narrowed_at : World → ℕ → SiteRecord → SiteRecord
narrowed_at w n r = if nat_lt r.failure (amount w.settings.negative n)
    then record r { window = max 1 (r.window - 1); failure = r.failure + unit w.settings.negative - amount w.settings.negative n; success = 0; cohorts = cohorts_at w n r }
    else record r { failure = r.failure - amount w.settings.negative n; cohorts = cohorts_at w n r }

abbrev down_at : World → ℕ → ℕ → SiteRecord → SiteRecord
down_at w now n r = if is_alive r.health then (if is_too_much w.settings (cohorts_at w n r)
    then record r { cohorts = cohorts_at w n r; health = healths.DeadUntil (now + w.settings.minimal_backoff) } else narrowed_at w n r) else r

pub down_law : (w : World) (now : ℕ) (r : SiteRecord) → 1 ≤ r.window → r.window ≤ 40 → down_in w.settings now r ≡ after_down w now r
down_law w now r low high = ap (λ n. down_at w now n r) (open_same r.window low high)

-- what is said of windows that are open holds of those within the limit
heard_each : (w : World) (site : Site) (f g : SiteRecord → SiteRecord) → window_limit w.settings ≤ 40 → ((r : SiteRecord) → 1 ≤ r.window → r.window ≤ 40 → f r ≡ g r) →
    (rs : List SiteRecord) → list_all (is_window w) rs ≡ true → map (λ r. if site_eq r.site site then f r else r) rs ≡ change_site rs site g
heard_each w site f g limit same [] all = refl
heard_each w site f g limit same (r ∷ rs) all =
    let parts = and_parts (is_window w r) (list_all (is_window w) rs) all in
    let bounds = and_parts (nat_le 1 r.window) (nat_le r.window (window_limit w.settings)) parts.0 in
    let low = leb-true 1 r.window bounds.0 in
    let high = leb-true r.window (window_limit w.settings) bounds.1 in
    ap (λ x. (if site_eq r.site site then x else r) ∷ map (λ r. if site_eq r.site site then f r else r) rs) (same r low (omega (arith, high, limit)))
    ∙ ap (λ xs. (if site_eq r.site site then g r else r) ∷ xs) (heard_each w site f g limit same rs parts.1)

-- the records of sites after a reply
pub heard_law : (w : World) (l : Ledger) (site : Site) → window_limit w.settings ≤ 40 → list_all (is_window w) l.sites ≡ true → (state : SiteState) →
    map (heard_at w.settings site (busy l site) l.now state) l.sites ≡ after_state w l site state
heard_law w l site limit all Up = heard_each w site (λ r. rested w l.now (up_in w.settings (busy l site) r)) (λ r. rested w l.now (after_up w (busy l site) r)) limit (λ r low high. ap (rested w l.now) (up_law w (busy l site) r low high)) l.sites all
heard_law w l site limit all Down = heard_each w site (λ r. rested w l.now (down_in w.settings l.now r)) (λ r. rested w l.now (after_down w l.now r)) limit (λ r low high. ap (rested w l.now) (down_law w l.now r low high)) l.sites all
