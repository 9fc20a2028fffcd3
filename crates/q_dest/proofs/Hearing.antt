-- For callers: what happens to a site leaves it the site that it is.
use Rattle.std.proofs.Common.{◌≡◌, ◌+◌, ap, Bool, cond, false, if◌then◌else◌, None, refl, Some, true, ◌∙◌, ℕ}
use Rattle.std.specs.Prelude.{◌==◌, ◌||◌, nat_le, nat_lt}
use Rattle.q_dest.specs.declared.dest.Dest.{Dest}
use Rattle.q_dest.specs.Dests.{heard, is_dead, is_due_at, revived_now, revived_when_dead, woken, woken_in, woken_when_due}
use Rattle.q_dest.specs.Windows.{down_alive_in, down_in, fall_in, heard_in, is_too_much, may_widen_in, more_cohorts_in, more_success, narrowed_in, up_alive_in, up_in, widened_in}
use Rattle.q_model.specs.declared.outcome.SiteState.{SiteState}
use Rattle.q_model.specs.declared.outcome.SiteState.TheVariants.{Down, Up}
use Rattle.q_model.specs.declared.rows.Health.TheVariants as healths
use Rattle.q_model.specs.Feedbacks.{unit}
use Rattle.q_model.specs.Routes.{world_without_table}
use Rattle.q_model.specs.Settings.{Settings}
use Rattle.q_model.specs.SiteRecords.{is_alive}
use Rattle.q_model.specs.Values.{Site, SiteRecord}
use Rattle.q_model.specs.Windows.{rested, revived}
use Rattle.q_model.specs.Revival.{is_due, is_rest_over, rest_ended}

either : (b : Bool) (x y : SiteRecord) (site : Site) → x.site ≡ site → y.site ≡ site → (cond b x y).site ≡ site
either true x y site h k = h
either false x y site h k = k

widened_site : (p : Settings) (r : SiteRecord) → (widened_in p r).site ≡ r.site
widened_site p r = either (nat_le (unit p.positive) (more_success p r)) _ _ r.site refl refl

narrowed_site : (p : Settings) (r : SiteRecord) → (narrowed_in p r).site ≡ r.site
narrowed_site p r = either (nat_lt r.failure (fall_in p r)) _ _ r.site refl refl

up_site : (p : Settings) (busy : ℕ) (r : SiteRecord) → (up_alive_in p busy r).site ≡ r.site
up_site p busy r = either (may_widen_in p busy r) (widened_in p (record r { cohorts = 0 })) (record r { cohorts = 0 }) r.site (widened_site p (record r { cohorts = 0 })) refl

down_site : (p : Settings) (now : ℕ) (r : SiteRecord) → (down_alive_in p now r).site ≡ r.site
down_site p now r =
    either (is_too_much p (more_cohorts_in p r))
    (record r { cohorts = more_cohorts_in p r; health = healths.DeadUntil (now + p.minimal_backoff) })
    (narrowed_in p (record r { cohorts = more_cohorts_in p r })) r.site refl (narrowed_site p (record r { cohorts = more_cohorts_in p r }))

rested_site : (p : Settings) (now : ℕ) (r : SiteRecord) → (rested (world_without_table p) now r).site ≡ r.site
rested_site p now r = either (p.rate_delay == 0) r (record r { rest = Some (now + p.rate_delay) }) r.site refl refl

pub heard_in_site : (p : Settings) (busy now : ℕ) (state : SiteState) (r : SiteRecord) → (heard_in p busy now state r).site ≡ r.site
heard_in_site p busy now Up r = rested_site p now (up_in p busy r) ∙ either (is_alive r.health) (up_alive_in p busy r) (revived (world_without_table p) busy r) r.site (up_site p busy r) refl
heard_in_site p busy now Down r = rested_site p now (down_in p now r) ∙ either (is_alive r.health) (down_alive_in p now r) r r.site (down_site p now r) refl

pub heard_site : (p : Settings) (now : ℕ) (state : SiteState) (d : Dest) → (heard p now state d).known.site ≡ d.known.site
heard_site p now state d = heard_in_site p d.busy now state d.known

when : (b : Bool) (x d : Dest) → x.known.site ≡ d.known.site → (cond b x d).known.site ≡ d.known.site
when true x d h = h
when false x d h = refl

woken_site : (p : Settings) (busy now : ℕ) (r : SiteRecord) → (woken_in p busy now r).site ≡ r.site
woken_site p busy now r =
    let first = if is_due now r.health then revived (world_without_table p) busy r else r in
    either (is_rest_over now first) (record first { rest = None }) first r.site (either (is_due now r.health) (revived (world_without_table p) busy r) r r.site refl refl) (either (is_due now r.health) (revived (world_without_table p) busy r) r r.site refl refl)

pub woken_due_site : (p : Settings) (now : ℕ) (d : Dest) → (woken_when_due p now d).known.site ≡ d.known.site
woken_due_site p now d = when (is_due_at now d) (woken p now d) d (woken_site p d.busy now d.known)

pub revived_dead_site : (p : Settings) (d : Dest) → (revived_when_dead p d).known.site ≡ d.known.site
revived_dead_site p d = when (is_dead d) (revived_now p d) d refl

-- ---- a site that wakes

ended : (now : ℕ) (r : SiteRecord) → is_rest_over now (rest_ended now r) ≡ false
ended now r = which (is_rest_over now r) refl
  where
    which : (b : Bool) → is_rest_over now r ≡ b → is_rest_over now (if b then record r { rest = None } else r) ≡ false
    which true e = refl
    which false e = e

alive_now : (p : Settings) (busy now : ℕ) (r : SiteRecord) → is_due now (woken_in p busy now r).health ≡ false
alive_now p busy now r = which (is_due now r.health) refl
  where
    kept : (x : SiteRecord) (b : Bool) → is_due now x.health ≡ false → is_due now (if b then record x { rest = None } else x).health ≡ false
    kept x true h = h
    kept x false h = h

    which : (b : Bool) → is_due now r.health ≡ b → is_due now (rest_ended now (if b then revived (world_without_table p) busy r else r)).health ≡ false
    which true e = kept (revived (world_without_table p) busy r) (is_rest_over now (revived (world_without_table p) busy r)) refl
    which false e = kept r (is_rest_over now r) e

-- it isn't due then
pub woken_not_due : (p : Settings) (now : ℕ) (d : Dest) → is_due_at now (woken p now d) ≡ false
woken_not_due p now d =
    ap (λ b. b || is_rest_over now (woken_in p d.busy now d.known)) (alive_now p d.busy now d.known)
    ∙ ended now (if is_due now d.known.health then revived (world_without_table p) d.busy d.known else d.known)
