-- When dead sites are alive again (SCHEDULER_README; qmgr(8), the trigger F), and when rests end.
use Rattle.std.specs.Option.{option_map_or}
use Rattle.std.specs.Prelude.{Bool, false, if◌then◌else◌, List, map, nat_le, None, ℕ}
use Rattle.q_model.specs.declared.rows.Health.{Health}
use Rattle.q_model.specs.Deliveries.{busy}
use Rattle.q_model.specs.Ledger.{Ledger}
use Rattle.q_model.specs.Settings.{World}
use Rattle.q_model.specs.SiteRecords.{is_alive}
use Rattle.q_model.specs.Values.{SiteRecord}
use Rattle.q_model.specs.Windows.{revived}
use Rattle.q_model.specs.declared.rows.Health.TheVariants as healths

-- the time of a dead site has come
abbrev pub is_due : ℕ → Health → Bool
is_due now healths.Alive = false
is_due now (healths.DeadUntil t) = nat_le t now

-- a rest up to this moment at most is over
abbrev pub is_rest_over : ℕ → SiteRecord → Bool
is_rest_over now r = option_map_or (λ t. nat_le t now) r.rest false

-- a rest that is over ends
abbrev pub rest_ended : ℕ → SiteRecord → SiteRecord
rest_ended now r = if is_rest_over now r then record r { rest = None } else r

-- a site whose time has come is alive again
abbrev pub revived_if_due : World → Ledger → SiteRecord → SiteRecord
revived_if_due w l r = if is_due l.now r.health then revived w (busy l r.site) r else r

-- those whose time has come are alive again, and rests that are over end
abbrev pub wake_due : World → Ledger → List SiteRecord
wake_due w l = map (λ r. rest_ended l.now (revived_if_due w l r)) l.sites

-- all dead sites are alive again; a rest stays
abbrev pub revive_all : World → Ledger → List SiteRecord
revive_all w l = map (λ r. if is_alive r.health then r else revived w (busy l r.site) r) l.sites
