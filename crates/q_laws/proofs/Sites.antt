-- What becomes of windows and of deliveries in flight at each site.
use Rattle.std.proofs.Common.{◌≡◌, ℕ, zero, suc, ◌+◌, ◌-◌, ◌≤◌, ◌<◌, max, Bool, true, false, cond, not, List, [], ◌∷◌, ◌++◌, map, find, Option, Some, None, inl, inr, refl, sym, ap, ◌∙◌, subst, arith, if◌then◌else◌, leb-true, ltb-true, le-leb}
use Rattle.std.proofs.lemmas.Bool.{and_from, and_parts}
use Rattle.std.specs.List.{list_all, list_any}
use Rattle.std.specs.Option.{option_map_or}
use Rattle.std.specs.Prelude.{◌&&◌, ◌*◌, ◌==◌, nat_le, nat_lt}
use Rattle.q_laws.proofs.Delivered.{this_row}
use Rattle.q_laws.proofs.Members.{IsIn, all_append, all_at, all_from, any_in, find_in, in_unmap, none_at}
use Rattle.q_laws.proofs.SiteCounts.{tally}
use Rattle.q_laws.proofs.SiteLists.{apart_join, apart_map, busy_in, busy_more}
use Rattle.q_laws.proofs.TidiedSites.{IsSitesReady}
use Rattle.q_laws.specs.SitesConsistency.{IsOpen, IsSitesConsistent, are_apart, is_window}
use Rattle.q_model.proofs.IdLaws.{site_eq-refl, site_eq-true}
use Rattle.q_model.specs.Deliveries.{busy, flights_of}
use Rattle.q_model.specs.Sites.{site_eq}
use Rattle.q_model.specs.Feedbacks.{amount, parts, unit}
use Rattle.q_model.specs.Ledger.{Ledger}
use Rattle.q_model.specs.Loads.{with_records}
use Rattle.q_model.specs.Revival.{is_due, is_rest_over, rest_ended, revive_all, wake_due}
use Rattle.q_model.specs.Settings.{window_limit, World}
use Rattle.q_model.specs.SiteRecords.{initial_window, is_alive, is_awake, new_record, record_of, with_record}
use Rattle.q_model.specs.Past.{starts}
use Rattle.q_model.specs.Startable.{is_startable}
use Rattle.q_model.specs.Starts.{is_row, may_start}
use Rattle.q_model.specs.declared.id.Id.{Id}
use Rattle.q_model.specs.Step.{may}
use Rattle.q_model.specs.UnusedSites.{is_remembered}
use Rattle.q_model.specs.Values.{Site, SiteRecord}
use Rattle.q_model.specs.Windows.{after_down, after_state, after_up, down_alive, grown, more_cohorts, narrowed, rested, revived, up_alive}
use Rattle.q_model.specs.declared.outcome.SiteState.{SiteState}
use Rattle.q_model.specs.declared.outcome.SiteState.TheVariants.{Down, Up}
use Rattle.q_model.specs.declared.rows.Delivery.{Delivery}
use Rattle.q_model.specs.declared.rows.Row.{Row}
use Rattle.q_model.specs.declared.rows.Health.TheVariants as healths

-- ---- windows

-- a window that is open and within the limit
abbrev pub IsWindow : World → SiteRecord → Type 0
IsWindow w r = (1 ≤ r.window) × (r.window ≤ window_limit w.settings)

window_of : (w : World) (r : SiteRecord) → is_window w r ≡ true → IsWindow w r
window_of w r h = let two = and_parts (nat_le 1 r.window) (nat_le r.window (window_limit w.settings)) h in (leb-true 1 r.window two.0, leb-true r.window (window_limit w.settings) two.1)

window_from : (w : World) (r : SiteRecord) → IsWindow w r → is_window w r ≡ true
window_from w r h = and_from (nat_le 1 r.window) (nat_le r.window (window_limit w.settings)) (le-leb 1 r.window h.0) (le-leb r.window (window_limit w.settings) h.1)

-- no window is wider than 40, and one is open at least
pub limit_is : (w : World) → IsOpen w → (1 ≤ window_limit w.settings) × (window_limit w.settings ≤ 40)
limit_is w h = which (w.settings.rate_delay == 0)
  where
    which : (b : Bool) → (1 ≤ (if b then w.settings.concurrency_limit else 1)) × ((if b then w.settings.concurrency_limit else 1) ≤ 40)
    which true = h.concurrency_limit
    which false = (omega arith, omega arith)

initial_is : (w : World) → IsOpen w → (1 ≤ initial_window w) × (initial_window w ≤ window_limit w.settings)
initial_is w h =
    let a : 1 ≤ w.settings.initial_concurrency = h.initial_concurrency in
    let b : 1 ≤ window_limit w.settings = (limit_is w h).0 in
    (omega (arith, a, b), omega (arith, a, b))

-- a window that grows by one where it was below the limit, or stays
grown_window : (w : World) (r : SiteRecord) → (1 ≤ r.window) × (r.window + 1 ≤ window_limit w.settings) → (b : Bool) (success failure : ℕ) → IsWindow w (if b then record r { window = r.window + 1; success = success; failure = failure } else r)
grown_window w r h true success failure = (let a : 1 ≤ r.window = h.0 in omega (arith, a), h.1)
grown_window w r h false success failure = (h.0, let a : r.window + 1 ≤ window_limit w.settings = h.1 in omega (arith, a))

positive : (n : ℕ) → (n == 0) ≡ false → 1 ≤ n
positive zero e = absurd cc
positive (suc n) e = omega arith

-- of a record that is alive again
revived_window : (w : World) (n : ℕ) (r : SiteRecord) → IsOpen w → n ≤ window_limit w.settings → IsWindow w (revived w n r)
revived_window w n r h k = which (n == 0) refl
  where
    which : (b : Bool) → (n == 0) ≡ b → IsWindow w (record r { window = if b then initial_window w else n; success = 0; failure = 0; cohorts = 0; health = healths.Alive })
    which true e = initial_is w h
    which false e = (positive n e, k)

up_window : (w : World) (n : ℕ) (r : SiteRecord) → IsWindow w r → IsWindow w (up_alive w n r)
up_window w n r h = which (nat_lt r.window (window_limit w.settings) && nat_lt r.window (n + initial_window w)) refl
  where
    which : (b : Bool) → (nat_lt r.window (window_limit w.settings) && nat_lt r.window (n + initial_window w)) ≡ b → IsWindow w (if b then grown w (record r { cohorts = 0; success = r.success + amount w.settings.positive r.window }) else record r { cohorts = 0 })
    which false e = h
    which true e =
        let below : r.window < window_limit w.settings = ltb-true r.window (window_limit w.settings) (and_parts (nat_lt r.window (window_limit w.settings)) (nat_lt r.window (n + initial_window w)) e).0 in
        grown_window w (record r { cohorts = 0; success = r.success + amount w.settings.positive r.window }) (h.0, omega (arith, below))
        (nat_le (unit w.settings.positive) (r.success + amount w.settings.positive r.window)) (r.success + amount w.settings.positive r.window - unit w.settings.positive) 0

-- a window that narrows by one, or stays
narrow_window : (w : World) (r : SiteRecord) → IsWindow w r → (b : Bool) (failure less : ℕ) → IsWindow w (if b then record r { window = max 1 (r.window - 1); failure = failure; success = 0 } else record r { failure = less })
narrow_window w r h true failure less = (omega arith, let a : 1 ≤ r.window = h.0 in let b : r.window ≤ window_limit w.settings = h.1 in omega (arith, a, b))
narrow_window w r h false failure less = h

narrowed_window : (w : World) (r : SiteRecord) → IsWindow w r → IsWindow w (narrowed w r)
narrowed_window w r h = narrow_window w r h (nat_lt r.failure (amount w.settings.negative r.window)) (r.failure + unit w.settings.negative - amount w.settings.negative r.window) (r.failure - amount w.settings.negative r.window)

down_window : (w : World) (now : ℕ) (r : SiteRecord) → IsWindow w r → IsWindow w (down_alive w now r)
down_window w now r h = which (not (w.settings.cohort_limit == 0) && nat_le (w.settings.cohort_limit * parts) (more_cohorts w r))
  where
    which : (b : Bool) → IsWindow w (if b then record r { cohorts = more_cohorts w r; health = healths.DeadUntil (now + w.settings.minimal_backoff) } else narrowed w (record r { cohorts = more_cohorts w r }))
    which true = h
    which false = narrowed_window w (record r { cohorts = more_cohorts w r }) h

-- ---- changes of records

-- a change keeps the site and an open window
record KeepsWindow (w : World) (f : SiteRecord → SiteRecord) : Type 0 where
  site : (r : SiteRecord) → (f r).site ≡ r.site
  window : (r : SiteRecord) → IsWindow w r → IsWindow w (f r)

up_site : (w : World) (n : ℕ) (r : SiteRecord) → (up_alive w n r).site ≡ r.site
up_site w n r = which (nat_lt r.window (window_limit w.settings) && nat_lt r.window (n + initial_window w)) (nat_le (unit w.settings.positive) (r.success + amount w.settings.positive r.window))
  where
    which : (a b : Bool) → (if a then (if b then record r { window = r.window + 1; cohorts = 0; success = r.success + amount w.settings.positive r.window - unit w.settings.positive; failure = 0 } else record r { cohorts = 0; success = r.success + amount w.settings.positive r.window }) else record r { cohorts = 0 }).site ≡ r.site
    which true true = refl
    which true false = refl
    which false b = refl

narrowed_site : (w : World) (r : SiteRecord) → (narrowed w r).site ≡ r.site
narrowed_site w r = which (nat_lt r.failure (amount w.settings.negative r.window))
  where
    which : (b : Bool) → (if b then record r { window = max 1 (r.window - 1); failure = r.failure + unit w.settings.negative - amount w.settings.negative r.window; success = 0 } else record r { failure = r.failure - amount w.settings.negative r.window }).site ≡ r.site
    which true = refl
    which false = refl

down_site : (w : World) (now : ℕ) (r : SiteRecord) → (down_alive w now r).site ≡ r.site
down_site w now r = which (not (w.settings.cohort_limit == 0) && nat_le (w.settings.cohort_limit * parts) (more_cohorts w r))
  where
    which : (b : Bool) → (if b then record r { cohorts = more_cohorts w r; health = healths.DeadUntil (now + w.settings.minimal_backoff) } else narrowed w (record r { cohorts = more_cohorts w r })).site ≡ r.site
    which true = refl
    which false = narrowed_site w (record r { cohorts = more_cohorts w r })

keeps_if : (w : World) (test : SiteRecord → Bool) (f g : SiteRecord → SiteRecord) → KeepsWindow w f → KeepsWindow w g → KeepsWindow w (λ r. if test r then f r else g r)
keeps_if w test f g h k = record {
  site = λ r. site_if r (test r);
  window = λ r open_now. window_if r (test r) open_now;
}
  where
    site_if : (r : SiteRecord) (b : Bool) → (if b then f r else g r).site ≡ r.site
    site_if r true = h.site r
    site_if r false = k.site r

    window_if : (r : SiteRecord) (b : Bool) → IsWindow w r → IsWindow w (if b then f r else g r)
    window_if r true o = h.window r o
    window_if r false o = k.window r o

keeps_all : (w : World) → KeepsWindow w (λ r. r)
keeps_all w = record { site = λ r. refl; window = λ r h. h }

up_keeps : (w : World) (n : ℕ) → IsOpen w → n ≤ window_limit w.settings → KeepsWindow w (after_up w n)
up_keeps w n h k = keeps_if w (λ r. is_alive r.health) (up_alive w n) (revived w n) (record { site = up_site w n; window = up_window w n }) (record { site = λ r. refl; window = λ r o. revived_window w n r h k })

down_keeps : (w : World) (now : ℕ) → KeepsWindow w (after_down w now)
down_keeps w now = keeps_if w (λ r. is_alive r.health) (down_alive w now) (λ r. r) (record { site = down_site w now; window = down_window w now }) (keeps_all w)

then_keeps : (w : World) (f g : SiteRecord → SiteRecord) → KeepsWindow w f → KeepsWindow w g → KeepsWindow w (λ r. g (f r))
then_keeps w f g h k = record { site = λ r. k.site (f r) ∙ h.site r; window = λ r o. k.window (f r) (h.window r o) }

rested_keeps : (w : World) (now : ℕ) → KeepsWindow w (rested w now)
rested_keeps w now = keeps_if w (λ r. w.settings.rate_delay == 0) (λ r. r) (λ r. record r { rest = Some (now + w.settings.rate_delay) }) (keeps_all w) (record { site = λ r. refl; window = λ r h. h })

ended_keeps : (w : World) (now : ℕ) → KeepsWindow w (rest_ended now)
ended_keeps w now = keeps_if w (is_rest_over now) (λ r. record r { rest = None }) (λ r. r) (record { site = λ r. refl; window = λ r h. h }) (keeps_all w)

-- the records after such a change
pub record AreGood (w : World) (rs : List SiteRecord) : Type 0 where
  pub apart : are_apart rs ≡ true
  pub windows : list_all (is_window w) rs ≡ true

good_map : (w : World) (f : SiteRecord → SiteRecord) (rs : List SiteRecord) → KeepsWindow w f → AreGood w rs → AreGood w (map f rs)
good_map w f rs k h = record {
  apart = apart_map f k.site rs h.apart;
  windows = all_from (is_window w) (map f rs) (λ r inside.
      let one = in_unmap f r rs inside in
      subst (λ x. is_window w x ≡ true) one.2 (window_from w (f one.0) (k.window one.0 (window_of w one.0 (all_at (is_window w) one.0 rs h.windows one.1)))));
}

pub good_of : {w : World} {l : Ledger} → IsSitesConsistent w l → AreGood w l.sites
good_of h = record { apart = h.apart; windows = h.windows }

-- the ledger with records that are good, no more deliveries, and at most one more dead site unused
pub good_sites : (w : World) (l k : Ledger) → IsSitesConsistent w l → AreGood w k.sites → ((site : Site) → busy k site ≤ window_limit w.settings) → tally (is_remembered k) k.sites ≤ w.settings.recipient_limit + 1 → IsSitesReady w k
good_sites w l k h g busy few = record { settings = h.settings; apart = g.apart; windows = g.windows; busy = busy; few = few }

-- ---- reply

pub state_good : (w : World) (l : Ledger) (site : Site) (state : SiteState) → IsSitesConsistent w l → AreGood w (after_state w l site state)
state_good w l site Up h =
    let keeps = then_keeps w (after_up w (busy l site)) (rested w l.now) (up_keeps w (busy l site) h.settings (h.busy site)) (rested_keeps w l.now) in
    good_map w (λ r. if site_eq r.site site then rested w l.now (after_up w (busy l site) r) else r) l.sites (keeps_if w (λ r. site_eq r.site site) (λ r. rested w l.now (after_up w (busy l site) r)) (λ r. r) keeps (keeps_all w)) (good_of h)
state_good w l site Down h =
    let keeps = then_keeps w (after_down w l.now) (rested w l.now) (down_keeps w l.now) (rested_keeps w l.now) in
    good_map w (λ r. if site_eq r.site site then rested w l.now (after_down w l.now r) else r) l.sites (keeps_if w (λ r. site_eq r.site site) (λ r. rested w l.now (after_down w l.now r)) (λ r. r) keeps (keeps_all w)) (good_of h)

-- ---- revival

pub due_good : (w : World) (l : Ledger) (t : ℕ) → IsSitesConsistent w l → AreGood w (wake_due w (record l { now = t }))
due_good w l t h =
    let revives = keeps_if w (λ r. is_due t r.health) (λ r. revived w (busy l r.site) r) (λ r. r) (record { site = λ r. refl; window = λ r o. revived_window w (busy l r.site) r h.settings (h.busy r.site) }) (keeps_all w) in
    good_map w (λ r. rest_ended t (if is_due t r.health then revived w (busy l r.site) r else r)) l.sites
    (then_keeps w (λ r. if is_due t r.health then revived w (busy l r.site) r else r) (rest_ended t) revives (ended_keeps w t)) (good_of h)

pub all_good : (w : World) (l : Ledger) → IsSitesConsistent w l → AreGood w (revive_all w l)
all_good w l h = good_map w (λ r. if is_alive r.health then r else revived w (busy l r.site) r) l.sites
    (keeps_if w (λ r. is_alive r.health) (λ r. r) (λ r. revived w (busy l r.site) r) (keeps_all w) (record { site = λ r. refl; window = λ r o. revived_window w (busy l r.site) r h.settings (h.busy r.site) })) (good_of h)

-- ---- load

record_good : (w : World) (rs : List SiteRecord) (site : Site) → IsOpen w → AreGood w rs → AreGood w (with_record w rs site)
record_good w rs site o h = which (list_any (λ (r : SiteRecord). site_eq r.site site) rs) refl
  where
    which : (b : Bool) → list_any (λ (r : SiteRecord). site_eq r.site site) rs ≡ b → AreGood w (if b then rs else rs ++ new_record w site ∷ [])
    which true e = h
    which false e = record {
      apart = apart_join rs (new_record w site ∷ []) h.apart refl (λ r s a b same. apart r s a b same);
      windows = all_append (is_window w) rs (new_record w site ∷ []) h.windows (and_from (is_window w (new_record w site)) true (window_from w (new_record w site) (initial_is w o)) refl);
    }
      where
        apart : (r s : SiteRecord) → IsIn r rs → IsIn s (new_record w site ∷ []) → s.site ≡ r.site → ⊥
        apart r s a (inl it) same =
            let here : site_eq r.site site ≡ true = subst (λ x. site_eq x site ≡ true) (ap (λ (y : SiteRecord). y.site) it ∙ same) (site_eq-refl site) in
            let bad : true ≡ false = sym here ∙ none_at (λ (x : SiteRecord). site_eq x.site site) r rs e a in
            absurd cc
        apart r s a (inr it) same = it

pub records_good : (w : World) (rows : List Row) (l : Ledger) → IsOpen w → AreGood w l.sites → AreGood w (with_records w rows l).sites
records_good w [] l o h = h
records_good w (r ∷ rows) l o h = records_good w rows (record l { sites = with_record w l.sites r.site }) o (record_good w l.sites r.site o h)

-- ---- start

busy_one : (w : World) (l : Ledger) (f : Delivery) (site : Site) → IsSitesConsistent w l → busy l f.row.site + 1 ≤ window_limit w.settings → (b : Bool) → site_eq f.row.site site ≡ b → busy_in l.flights site + cond b 1 0 ≤ window_limit w.settings
busy_one w l f site h room false e = let k = h.busy site in omega (arith, k)
busy_one w l f site h room true e = subst (λ s. busy_in l.flights s + 1 ≤ window_limit w.settings) (site_eq-true f.row.site site e) room

pub start_busy : (w : World) (l : Ledger) (f : Delivery) → IsSitesConsistent w l → busy l f.row.site + 1 ≤ window_limit w.settings → (site : Site) → busy_in (l.flights ++ f ∷ []) site ≤ window_limit w.settings
start_busy w l f h room site = let a = busy_more site l.flights f in let b = busy_one w l f site h room (site_eq f.row.site site) refl in omega (arith, a, b)

room_on : (w : World) (l : Ledger) (site : Site) (o : Option SiteRecord) → IsSitesConsistent w l → find (λ (r : SiteRecord). site_eq r.site site) l.sites ≡ o → option_map_or (λ (s : SiteRecord). is_awake s && nat_lt (busy l site) s.window) o false ≡ true → busy l site + 1 ≤ window_limit w.settings
room_on w l site None h e k = absurd cc
room_on w l site (Some s) h e k =
    let inside = (find_in (λ (r : SiteRecord). site_eq r.site site) s l.sites e).0 in
    let fits = (window_of w s (all_at (is_window w) s l.sites h.windows inside)).1 in
    let below : busy l site < s.window = ltb-true (busy l site) s.window (and_parts (is_awake s) (nat_lt (busy l site) s.window) k).1 in
    omega (arith, fits, below)

-- where a delivery may begin, its site has room
pub start_room : (w : World) (l : Ledger) (number : ℕ) (id : Id) (site : Site) (ps : List ℕ) → IsSitesConsistent w l → may_start w l number id site ps ≡ true → busy l site + 1 ≤ window_limit w.settings
start_room w l number id site ps h may =
    let two = and_parts (number == starts l + 1) (list_any (λ r. is_row id site ps r && is_startable w l r) l.waiting) may in
    let one = any_in (λ r. is_row id site ps r && is_startable w l r) l.waiting two.1 in
    let r = one.0 in
    let parts = and_parts (is_row id site ps r) (is_startable w l r) one.2 in
    let room : Bool = option_map_or (λ (s : SiteRecord). is_awake s && nat_lt (busy l r.site) s.window) (record_of l r.site) false in
    subst (λ s. busy l s + 1 ≤ window_limit w.settings) (this_row id site ps r parts.0).at
    (room_on w l r.site (record_of l r.site) h refl (and_parts (nat_lt (flights_of l r.site.transport) w.settings.process_limit) room parts.1).1)
