-- Entry `trigger` (qmgr(8), "Triggers").
use Rattle.std.specs.Prelude.{true}
use Rattle.q_model.specs.declared.event.Trigger.{Trigger}
use Rattle.q_model.specs.Ledger.{Ledger}
use Rattle.q_model.specs.Revival.{revive_all}
use Rattle.q_model.specs.Scans.{ask_scan}
use Rattle.q_model.specs.Settings.{World}
use Rattle.q_model.specs.declared.event.Trigger.TheVariants as triggers

-- D asks for a scan, A lets the next scan take all, F revives every dead site
abbrev pub after_trigger : World → Ledger → Trigger → Ledger
after_trigger w l triggers.D = ask_scan l
after_trigger w l triggers.A = record l { ignores = true }
after_trigger w l triggers.F = record l { sites = revive_all w l }
