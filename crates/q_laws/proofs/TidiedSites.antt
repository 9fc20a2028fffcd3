-- What fits together of sites as their records are tidied after an entry.
use Rattle.std.proofs.Common.{◌≡◌, ◌+◌, ◌≤◌, Bool, true, false, not, List, ◌++◌, filter, length, refl, sym, subst, arith, if◌then◌else◌, ltb-false}
use Rattle.std.specs.List.{list_all}
use Rattle.std.specs.Prelude.{◌&&◌, nat_lt}
use Rattle.q_laws.proofs.Members.{all_append, all_at, all_filtered, all_from, in_dropped, in_filtered}
use Rattle.q_laws.proofs.SiteCounts.{tally, tally_append, tally_dropped, tally_filtered, tally_parts}
use Rattle.q_laws.proofs.SiteLists.{apart_dropped, apart_filter, apart_join, same_record}
use Rattle.q_laws.proofs.Tidied.{tidy_scan_is}
use Rattle.q_laws.specs.SitesConsistency.{IsOpen, IsSitesConsistent, are_apart, is_kept, is_window}
use Rattle.q_model.specs.Deliveries.{busy}
use Rattle.q_model.specs.Ledger.{Ledger}
use Rattle.q_model.specs.Lists.{drop_first}
use Rattle.q_model.specs.Settings.{window_limit, World}
use Rattle.q_model.specs.SiteRecords.{is_awake}
use Rattle.q_model.specs.Step.{after, change, noted, tidied}
use Rattle.q_model.specs.UnusedSites.{is_remembered, is_unused, tidied_sites}
use Rattle.q_model.specs.Values.{Site, SiteRecord}
use Rattle.q_model.specs.declared.entry.Entry.{Entry}

-- what fits together before the records are tidied: one dead site more may be remembered
pub record IsSitesReady (w : World) (l : Ledger) : Type 0 where
  pub settings : IsOpen w
  pub apart : are_apart l.sites ≡ true
  pub windows : list_all (is_window w) l.sites ≡ true
  pub busy : (site : Site) → busy l site ≤ window_limit w.settings
  pub few : tally (is_remembered l) l.sites ≤ w.settings.recipient_limit + 1

-- what fits together already does so before the records are tidied
pub sites_ready : (w : World) (l : Ledger) → IsSitesConsistent w l → IsSitesReady w l
sites_ready w l h = record {
  settings = h.settings;
  apart = h.apart;
  windows = h.windows;
  busy = h.busy;
  few = let a : tally (is_remembered l) l.sites ≤ w.settings.recipient_limit = h.few in omega (arith, a);
}

forgotten : (w : World) (l : Ledger) (rs : List SiteRecord) (P : List SiteRecord → Type 0) → P rs → P (drop_first (is_remembered l) rs) → (b : Bool) → P (if b then drop_first (is_remembered l) rs else rs)
forgotten w l rs P h k true = k
forgotten w l rs P h k false = h

both_ways : (b : Bool) → not b ≡ true → b ≡ true → ⊥
both_ways true h k = absurd cc
both_ways false h k = absurd cc

tidied_apart : (w : World) (before l : Ledger) → are_apart l.sites ≡ true → are_apart (tidied_sites w before l) ≡ true
tidied_apart w before l h =
    let newly : SiteRecord → Bool = λ r. is_unused l r && not (is_unused before r) in
    let older : SiteRecord → Bool = λ r. not (newly r) in
    let ordered = filter older l.sites ++ filter newly l.sites in
    let used = filter (λ r. not (is_unused l r && is_awake r)) ordered in
    let first : are_apart ordered ≡ true = apart_join (filter older l.sites) (filter newly l.sites) (apart_filter older l.sites h) (apart_filter newly l.sites h) (λ r s a b same.
    let x = in_filtered older r l.sites a in
    let y = in_filtered newly s l.sites b in
    both_ways (newly r) x.1 (subst (λ z. newly z ≡ true) (sym (same_record r s l.sites h x.0 y.0 same)) y.1)) in
    let second : are_apart used ≡ true = apart_filter (λ r. not (is_unused l r && is_awake r)) ordered first in
    forgotten w l used (λ rs. are_apart rs ≡ true) second (apart_dropped (is_remembered l) used second) (nat_lt w.settings.recipient_limit (length (filter (is_remembered l) used)))

tidied_windows : (w : World) (before l : Ledger) → list_all (is_window w) l.sites ≡ true → list_all (is_window w) (tidied_sites w before l) ≡ true
tidied_windows w before l h =
    let newly : SiteRecord → Bool = λ r. is_unused l r && not (is_unused before r) in
    let older : SiteRecord → Bool = λ r. not (newly r) in
    let ordered = filter older l.sites ++ filter newly l.sites in
    let used = filter (λ r. not (is_unused l r && is_awake r)) ordered in
    let all = all_filtered (is_window w) (λ r. not (is_unused l r && is_awake r)) ordered (all_append (is_window w) (filter older l.sites) (filter newly l.sites) (all_filtered (is_window w) older l.sites h) (all_filtered (is_window w) newly l.sites h)) in
    forgotten w l used (λ rs. list_all (is_window w) rs ≡ true) all
    (all_from (is_window w) (drop_first (is_remembered l) used) (λ r inside. all_at (is_window w) r used all (in_dropped (is_remembered l) r used inside)))
    (nat_lt w.settings.recipient_limit (length (filter (is_remembered l) used)))

tidied_kept : (w : World) (before l : Ledger) → list_all (is_kept l) (tidied_sites w before l) ≡ true
tidied_kept w before l =
    let newly : SiteRecord → Bool = λ r. is_unused l r && not (is_unused before r) in
    let ordered = filter (λ r. not (newly r)) l.sites ++ filter newly l.sites in
    let used = filter (is_kept l) ordered in
    let all = all_from (is_kept l) used (λ r inside. (in_filtered (is_kept l) r ordered inside).1) in
    forgotten w l used (λ rs. list_all (is_kept l) rs ≡ true) all
    (all_from (is_kept l) (drop_first (is_remembered l) used) (λ r inside. all_at (is_kept l) r used all (in_dropped (is_remembered l) r used inside)))
    (nat_lt w.settings.recipient_limit (length (filter (is_remembered l) used)))

few_left : (w : World) (l : Ledger) (rs : List SiteRecord) (b : Bool) → nat_lt w.settings.recipient_limit (tally (is_remembered l) rs) ≡ b → tally (is_remembered l) rs ≤ w.settings.recipient_limit + 1 → tally (is_remembered l) (if b then drop_first (is_remembered l) rs else rs) ≤ w.settings.recipient_limit
few_left w l rs true e h = tally_dropped (is_remembered l) rs w.settings.recipient_limit h
few_left w l rs false e h = ltb-false w.settings.recipient_limit (tally (is_remembered l) rs) e

tidied_few : (w : World) (before l : Ledger) → tally (is_remembered l) l.sites ≤ w.settings.recipient_limit + 1 → tally (is_remembered l) (tidied_sites w before l) ≤ w.settings.recipient_limit
tidied_few w before l h =
    let newly : SiteRecord → Bool = λ r. is_unused l r && not (is_unused before r) in
    let older = filter (λ r. not (newly r)) l.sites in
    let ordered = older ++ filter newly l.sites in
    let used = filter (is_kept l) ordered in
    let a : tally (is_remembered l) used ≤ tally (is_remembered l) ordered = tally_filtered (is_remembered l) (is_kept l) ordered in
    let b : tally (is_remembered l) ordered ≡ tally (is_remembered l) older + tally (is_remembered l) (filter newly l.sites) = tally_append (is_remembered l) older (filter newly l.sites) in
    let c : tally (is_remembered l) older + tally (is_remembered l) (filter newly l.sites) ≡ tally (is_remembered l) l.sites = tally_parts (is_remembered l) newly l.sites in
    few_left w l used (nat_lt w.settings.recipient_limit (tally (is_remembered l) used)) refl (omega (arith, a, b, c, h))

sites_tidied : (w : World) (before l : Ledger) → IsSitesReady w l → IsSitesConsistent w (tidied w before l)
sites_tidied w before l h =
    let scan = tidy_scan_is l in
    subst (λ k. IsSitesConsistent w (record k {
      lines = (tidied w before l).lines;
      served = (tidied w before l).served;
      sites = tidied_sites w before l;
    })) (sym scan.2) (record {
      settings = h.settings;
      apart = tidied_apart w before l h.apart;
      windows = tidied_windows w before l h.windows;
      busy = h.busy;
      kept = tidied_kept w before l;
      few = tidied_few w before l h.few;
    })

-- after an entry: what it changes has to fit together
pub sites_after : (w : World) (l : Ledger) (e : Entry) → IsSitesReady w (change w l e) → IsSitesConsistent w (after w l e)
unfolding after
sites_after w l e h = sites_tidied w l (noted e (change w l e)) (record { settings = h.settings; apart = h.apart; windows = h.windows; busy = h.busy; few = h.few })
