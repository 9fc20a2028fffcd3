-- Entry `at`: the clock.
use Rattle.std.specs.Prelude.{◌+◌, Bool, if◌then◌else◌, nat_le, true, ℕ}
use Rattle.q_model.specs.Ledger.{Ledger}
use Rattle.q_model.specs.Revival.{wake_due}
use Rattle.q_model.specs.Scans.{ask_scan}
use Rattle.q_model.specs.Settings.{World}

-- the clock doesn't go back
abbrev pub may_at : Ledger → ℕ → Bool
may_at l t = nat_le l.now t

-- the clock is there; dead sites whose time has come are alive again, and rests that are over end
abbrev pub woken : World → Ledger → ℕ → Ledger
woken w l t = record l { now = t; timed = true; sites = wake_due w (record l { now = t }) }

-- the next scan of deferred by the clock
abbrev pub scheduled : World → Ledger → ℕ → Ledger
scheduled w l t = record (woken w l t) { next_run = t + w.settings.run_delay }

-- the clock is there; a scan is asked for where its time has come
abbrev pub after_at : World → Ledger → ℕ → Ledger
after_at w l t = if nat_le l.next_run t then ask_scan (scheduled w l t) else woken w l t
