-- A delivery is over: what is left of sums over those in flight, and which sites have records.
use Rattle.std.proofs.Common.{◌≡◌, ℕ, ◌+◌, Bool, true, false, cond, List, [], ◌∷◌, map, refl, sym, ap, ◌∙◌, arith, Some, sum_by}
use Rattle.std.proofs.lemmas.Bool.{eqb-true}
use Rattle.std.proofs.lemmas.List.Sums.{sum_by-cons}
use Rattle.std.specs.List.{list_any}
use Rattle.std.specs.Prelude.{◌&&◌, ◌==◌, filter, find, if◌then◌else◌, nat_le, nat_lt, not}
use Rattle.q_core.proofs.ListLaws.{list_any-map, list_any-same}
use Rattle.q_core.proofs.MovedLaws.{not_true, or_false_parts}
use Rattle.q_core.proofs.NameLaws.{and_true_parts}
use Rattle.q_laws.specs.Consistency.{are_once}
use Rattle.q_laws.specs.SitesConsistency.{are_apart}
use Rattle.q_model.specs.Sites.{site_eq}
use Rattle.q_model.specs.Feedbacks.{amount, unit}
use Rattle.q_model.specs.Ledger.{Ledger}
use Rattle.q_model.specs.Settings.{World}
use Rattle.q_model.specs.SiteRecords.{change_site, is_alive}
use Rattle.q_model.specs.Values.{Site, SiteRecord}
use Rattle.q_model.specs.Windows.{after_down, after_state, after_up, down_alive, grown, more_cohorts, narrowed, rested, revived, up_alive}
use Rattle.q_model.specs.declared.outcome.SiteState.{SiteState}
use Rattle.q_model.specs.declared.outcome.SiteState.TheVariants.{Down, Up}
use Rattle.q_model.specs.declared.rows.Delivery.{Delivery}

-- where a number isn't there, nothing is taken out
none_picked : (n : ℕ) (fs : List Delivery) → list_any (λ m. m == n) (map (λ (f : Delivery). f.number) fs) ≡ false → filter (λ (f : Delivery). not (f.number == n)) fs ≡ fs
none_picked n [] h = refl
none_picked n (f ∷ fs) h =
    let parts = or_false_parts (f.number == n) (list_any (λ m. m == n) (map (λ (x : Delivery). x.number) fs)) h in
    ap (λ b. cond (not b) (f ∷ filter (λ (x : Delivery). not (x.number == n)) fs) (filter (λ (x : Delivery). not (x.number == n)) fs)) parts.0
    ∙ ap (λ xs. f ∷ xs) (none_picked n fs parts.1)

removed_step : (g : Delivery → ℕ) (n : ℕ) (f x : Delivery) (xs : List Delivery) → list_any (λ m. m == x.number) (map (λ (y : Delivery). y.number) xs) ≡ false →
    (find (λ y. y.number == n) xs ≡ Some f → sum_by g xs ≡ g f + sum_by g (filter (λ y. not (y.number == n)) xs)) →
    (b : Bool) → (x.number == n) ≡ b → cond b (Some x) (find (λ y. y.number == n) xs) ≡ Some f →
    sum_by g (x ∷ xs) ≡ g f + sum_by g (cond (not b) (x ∷ filter (λ y. not (y.number == n)) xs) (filter (λ y. not (y.number == n)) xs))
removed_step g n f x xs alone rest true e h =
    let same : x ≡ f = cc in
    let others : filter (λ (y : Delivery). not (y.number == n)) xs ≡ xs = none_picked n xs (ap (λ k. list_any (λ m. m == k) (map (λ (y : Delivery). y.number) xs)) (sym (eqb-true x.number n e)) ∙ alone) in
    sum_by-cons g x xs ∙ ap (λ (z : Delivery). g z + sum_by g xs) same ∙ ap (λ (ys : List Delivery). g f + sum_by g ys) (sym others)
removed_step g n f x xs alone rest false e h =
    let whole = sum_by-cons g x xs in
    let part = sum_by-cons g x (filter (λ (y : Delivery). not (y.number == n)) xs) in
    let less = rest h in
    omega (arith, whole, part, less)

-- a sum without the one delivery of a number
pub sum_by-removed : (g : Delivery → ℕ) (n : ℕ) (f : Delivery) (fs : List Delivery) → are_once (map (λ (x : Delivery). x.number) fs) ≡ true → find (λ x. x.number == n) fs ≡ Some f →
    sum_by g fs ≡ g f + sum_by g (filter (λ x. not (x.number == n)) fs)
sum_by-removed g n f [] once h = cc
sum_by-removed g n f (x ∷ xs) once h =
    let numbers = map (λ (y : Delivery). y.number) xs in
    let parts = and_true_parts (not (list_any (λ m. m == x.number) numbers)) (are_once numbers) once in
    removed_step g n f x xs (not_true (list_any (λ m. m == x.number) numbers) parts.0) (sum_by-removed g n f xs parts.1) (x.number == n) refl h

either : (b : Bool) (x y : SiteRecord) (s : Site) → x.site ≡ s → y.site ≡ s → (if b then x else y).site ≡ s
either true x y s h k = h
either false x y s h k = k

-- a reply changes no site's name
up_site : (w : World) (busy : ℕ) (r : SiteRecord) → (after_up w busy r).site ≡ r.site
up_site w busy r =
    let more : SiteRecord = record r { cohorts = 0; success = r.success + amount w.settings.positive r.window } in
    let wide = either (nat_le (unit w.settings.positive) more.success) _ more r.site refl refl in
    let live = either _ (grown w more) (record r { cohorts = 0 }) r.site wide refl in
    either (is_alive r.health) (up_alive w busy r) (revived w busy r) r.site live refl

down_site : (w : World) (now : ℕ) (r : SiteRecord) → (after_down w now r).site ≡ r.site
down_site w now r =
    let more : SiteRecord = record r { cohorts = more_cohorts w r } in
    let thin = either (nat_lt r.failure (amount w.settings.negative r.window)) _ _ r.site refl refl in
    let live = either _ _ (narrowed w more) r.site refl thin in
    either (is_alive r.health) (down_alive w now r) r r.site live refl

rested_site : (w : World) (now : ℕ) (r : SiteRecord) → (rested w now r).site ≡ r.site
rested_site w now r = either (w.settings.rate_delay == 0) r (record r { rest = Some (now + w.settings.rate_delay) }) r.site refl refl

at_site : (site : Site) (change : SiteRecord → SiteRecord) → ((r : SiteRecord) → (change r).site ≡ r.site) → (r : SiteRecord) → (if site_eq r.site site then change r else r).site ≡ r.site
at_site site change keeps r = either (site_eq r.site site) (change r) r r.site (keeps r) refl

apart_map : (f : SiteRecord → SiteRecord) → ((r : SiteRecord) → (f r).site ≡ r.site) → (rs : List SiteRecord) → are_apart (map f rs) ≡ are_apart rs
apart_map f keeps [] = refl
apart_map f keeps (r ∷ rs) =
    ap (λ s. not (list_any (λ (x : SiteRecord). site_eq x.site s) (map f rs)) && are_apart (map f rs)) (keeps r)
    ∙ ap (λ b. not b && are_apart (map f rs)) (list_any-map (λ (x : SiteRecord). site_eq x.site r.site) f rs ∙ list_any-same (λ x. site_eq (f x).site r.site) (λ (x : SiteRecord). site_eq x.site r.site) (λ x. ap (λ s. site_eq s r.site) (keeps x)) rs)
    ∙ ap (λ b. not (list_any (λ (x : SiteRecord). site_eq x.site r.site) rs) && b) (apart_map f keeps rs)

apart_change : (rs : List SiteRecord) (site : Site) (change : SiteRecord → SiteRecord) → ((r : SiteRecord) → (change r).site ≡ r.site) → are_apart (change_site rs site change) ≡ are_apart rs
apart_change rs site change keeps = apart_map (λ r. if site_eq r.site site then change r else r) (at_site site change keeps) rs

-- no site gets a second record
pub apart_state : (w : World) (l : Ledger) (site : Site) (state : SiteState) → are_apart (after_state w l site state) ≡ are_apart l.sites
apart_state w l site Up = apart_change l.sites site (λ r. rested w l.now (after_up w _ r)) (λ r. rested_site w l.now (after_up w _ r) ∙ up_site w _ r)
apart_state w l site Down = apart_change l.sites site (λ r. rested w l.now (after_down w l.now r)) (λ r. rested_site w l.now (after_down w l.now r) ∙ down_site w l.now r)
