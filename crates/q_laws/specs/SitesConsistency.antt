-- What fits together of sites in the ledger of a life.
use Rattle.std.specs.List.{list_all, list_any}
use Rattle.std.specs.Prelude.{◌&&◌, ◌≡◌, ◌≤◌, [], Bool, filter, length, List, nat_le, not, true, ◌∷◌}
use Rattle.q_model.specs.Deliveries.{busy}
use Rattle.q_model.specs.Sites.{site_eq}
use Rattle.q_model.specs.Ledger.{Ledger}
use Rattle.q_model.specs.Settings.{window_limit, World}
use Rattle.q_model.specs.SiteRecords.{is_awake}
use Rattle.q_model.specs.UnusedSites.{is_remembered, is_unused}
use Rattle.q_model.specs.Values.{Site, SiteRecord}

-- windows may be open
pub record IsOpen (w : World) : Type 0 where
  pub initial_concurrency : 1 ≤ w.settings.initial_concurrency
  pub concurrency_limit : (1 ≤ w.settings.concurrency_limit) × (w.settings.concurrency_limit ≤ 40)

-- the window of a site is open, and within the limit
abbrev pub is_window : World → SiteRecord → Bool
is_window w r = nat_le 1 r.window && nat_le r.window (window_limit w.settings)

-- no site has two records
abbrev pub are_apart : List SiteRecord → Bool
are_apart [] = true
are_apart (r ∷ rs) = not (list_any (λ s. site_eq s.site r.site) rs) && are_apart rs

-- a record that stays: something waits for its site or is under way to it, or the site is dead or rests
abbrev pub is_kept : Ledger → SiteRecord → Bool
is_kept l r = not (is_unused l r && is_awake r)

-- Each site has one record, and no more deliveries in flight than the limit. A record is of a site
-- that is used, is dead or rests; no more sites that aren't used are remembered than recipients may be
-- in memory.
pub record IsSitesConsistent (w : World) (l : Ledger) : Type 0 where
  pub settings : IsOpen w
  pub apart : are_apart l.sites ≡ true
  pub windows : list_all (is_window w) l.sites ≡ true
  pub busy : (site : Site) → busy l site ≤ window_limit w.settings
  pub kept : list_all (is_kept l) l.sites ≡ true
  pub few : length (filter (is_remembered l) l.sites) ≤ w.settings.recipient_limit
