-- Sites that nothing is sent to any more: which are dropped, and which are remembered, since they are
-- dead or rest.
use Rattle.std.specs.Prelude.{◌&&◌, ◌++◌, ◌==◌, Bool, filter, if◌then◌else◌, length, List, nat_lt, not}
use Rattle.q_model.specs.Deliveries.{busy, waits_at}
use Rattle.q_model.specs.Ledger.{Ledger}
use Rattle.q_model.specs.Lists.{drop_first}
use Rattle.q_model.specs.Settings.{World}
use Rattle.q_model.specs.SiteRecords.{is_awake}
use Rattle.q_model.specs.Values.{SiteRecord}

-- nothing waits there, and nothing is in flight
abbrev pub is_unused : Ledger → SiteRecord → Bool
is_unused l r = not (waits_at l r.site) && (busy l r.site == 0)

-- a site that is dead or rests, and is only remembered
abbrev pub is_remembered : Ledger → SiteRecord → Bool
is_remembered l r = is_unused l r && not (is_awake r)

-- the one of them that was unused longest is forgotten, where too many are remembered
abbrev pub forget_oldest : World → Ledger → List SiteRecord → List SiteRecord
forget_oldest w l rs =
    if nat_lt w.settings.recipient_limit (length (filter (is_remembered l) rs)) then drop_first (is_remembered l) rs
    else rs

-- Records that came to be unused go to the end. Of unused ones those that are alive and don't rest are
-- dropped, and of the others the one that is unused longest where they are too many.
abbrev pub tidied_sites : World → Ledger → Ledger → List SiteRecord
tidied_sites w before l =
    let newly : SiteRecord → Bool = λ r. is_unused l r && not (is_unused before r) in
    let ordered = filter (λ r. not (newly r)) l.sites ++ filter newly l.sites in
    forget_oldest w l (filter (λ r. not (is_unused l r && is_awake r)) ordered)
