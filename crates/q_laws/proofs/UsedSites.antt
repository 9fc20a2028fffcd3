-- How many sites are known: a used one has a row that waits or a delivery of its own, and few dead ones are remembered.
use Rattle.std.proofs.Common.{◌≡◌, ℕ, ◌+◌, ◌≤◌, Bool, true, false, cond, not, List, [], ◌∷◌, length, filter, refl, sym, ap, ◌∙◌, arith, if◌then◌else◌}
use Rattle.std.proofs.lemmas.List.Filters.{length-filter_both}
use Rattle.std.specs.Prelude.{◌&&◌, ◌==◌, ◌||◌}
use Rattle.q_laws.proofs.Members.{all_at}
use Rattle.q_laws.proofs.SiteCounts.{fewer_pass, one_more_passes, tally, tally_cons, turned, unused_in, waits_in}
use Rattle.q_laws.proofs.SiteLists.{busy_cons, busy_in}
use Rattle.q_laws.specs.SitesConsistency.{IsSitesConsistent, are_apart, is_kept}
use Rattle.q_model.specs.Ledger.{Ledger}
use Rattle.q_model.specs.Settings.{World}
use Rattle.q_model.specs.SiteRecords.{is_awake}
use Rattle.q_model.specs.Sites.{site_eq}
use Rattle.q_model.specs.UnusedSites.{is_remembered, is_unused}
use Rattle.q_model.specs.Values.{SiteRecord}
use Rattle.q_model.specs.declared.rows.Delivery.{Delivery}
use Rattle.q_model.specs.declared.rows.Row.{Row}

-- a row waits at the record's site, or a delivery is under way to it
abbrev used_in : List Row → List Delivery → SiteRecord → Bool
used_in rows fs r = not (unused_in rows fs r)

none_pass : (p : SiteRecord → Bool) (rs : List SiteRecord) → ((r : SiteRecord) → p r ≡ false) → tally p rs ≡ 0
none_pass p [] h = refl
none_pass p (r ∷ rs) h =
    let a = tally_cons p r rs in
    let b : ◌≡◌ {A = ℕ} (if p r then 1 else 0) 0 = ap (λ t. if t then 1 else 0) (h r) in
    let rest = none_pass p rs h in
    omega (arith, a, b, rest)

other_flight : (f : Delivery) (fs : List Delivery) (r : SiteRecord) → site_eq r.site f.row.site ≡ false → busy_in (f ∷ fs) r.site ≡ busy_in fs r.site
other_flight f fs r apart =
    let a = busy_cons r.site f fs in
    let b : ◌≡◌ {A = ℕ} (cond (site_eq f.row.site r.site) 1 0) 0 = ap (λ t. cond t 1 0) (turned r.site f.row.site apart) in
    omega (arith, a, b)

flights_use : (fs : List Delivery) (rs : List SiteRecord) → are_apart rs ≡ true → tally (used_in [] fs) rs ≤ length fs
flights_use [] rs apart = let a = none_pass (used_in [] []) rs (λ r. refl) in omega (arith, a)
flights_use (f ∷ fs) rs apart =
    let a = one_more_passes (used_in [] fs) (used_in [] (f ∷ fs)) f.row.site rs apart (λ r other k. ap (λ n. not (not (waits_in [] r.site) && (n == 0))) (sym (other_flight f fs r other)) ∙ k) in
    let rest = flights_use fs rs apart in
    omega (arith, a, rest)

-- no more records are used than there are rows and deliveries
rows_use : (rows : List Row) (fs : List Delivery) (rs : List SiteRecord) → are_apart rs ≡ true → tally (used_in rows fs) rs ≤ length rows + length fs
rows_use [] fs rs apart = let a = flights_use fs rs apart in omega (arith, a)
rows_use (row ∷ rows) fs rs apart =
    let a = one_more_passes (used_in rows fs) (used_in (row ∷ rows) fs) row.site rs apart (λ r other k. ap (λ b. not (not (b || waits_in rows r.site) && (busy_in fs r.site == 0))) (sym (turned r.site row.site other)) ∙ k) in
    let rest = rows_use rows fs rs apart in
    omega (arith, a, rest)

kept_used : (unused alive : Bool) → not (unused && alive) ≡ true → not (unused && not alive) ≡ true → not unused ≡ true
kept_used false alive h k = refl
kept_used true true h k = absurd cc
kept_used true false h k = absurd cc

-- the known sites are at most the rows that wait, the deliveries and the recipient limit
pub sites_few : (w : World) (l : Ledger) → IsSitesConsistent w l → length l.sites ≤ length l.waiting + length l.flights + w.settings.recipient_limit
sites_few w l h =
    let living : SiteRecord → Bool = λ r. not (is_remembered l r) in
    let a : length (filter (is_remembered l) l.sites) + length (filter living l.sites) ≡ length l.sites = length-filter_both (is_remembered l) living (λ r. refl) l.sites in
    let b : tally living l.sites ≤ tally (used_in l.waiting l.flights) l.sites = fewer_pass (used_in l.waiting l.flights) living l.sites (λ r inside k. kept_used (is_unused l r) (is_awake r) (all_at (is_kept l) r l.sites h.kept inside) k) in
    let c : tally (used_in l.waiting l.flights) l.sites ≤ length l.waiting + length l.flights = rows_use l.waiting l.flights l.sites h.apart in
    let d : tally (is_remembered l) l.sites ≤ w.settings.recipient_limit = h.few in
    omega (arith, a, b, c, d)
