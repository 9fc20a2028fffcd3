-- What writing a log anew does: `q_store`'s words, for a log and its name in Tmp.
use Rattle.std.specs.Prelude.{List, ℕ}
use Rattle.q_model.specs.declared.outcome.Failure.{Failure}
use Rattle.q_model.specs.declared.spot.Area.{Area}
use Rattle.q_model.specs.FailureLog.{log_bytes}
use Rattle.q_host.specs.View.{View}
use Rattle.q_store.specs.Stores.{Holds, LeavesWhole, MayGo, MayHold}
use Rattle.q_logfile.specs.TmpNames.{tmp_name}

-- reads give the log of these failures, and so does every crash
abbrev pub HoldsLog : Area → List ℕ → List Failure → View → View → Type 0
HoldsLog a n failures = Holds (tmp_name a n) a n (log_bytes failures)

-- that, or reads and every crash give what stood there before
abbrev pub MayHoldLog : Area → List ℕ → List Failure → View → View → Type 0
MayHoldLog a n failures = MayHold (tmp_name a n) a n (log_bytes failures)

-- a crash leaves the log or not, now and meanwhile
abbrev pub MayGoLog : Area → List ℕ → List Failure → View → View → Type 0
MayGoLog a n failures = MayGo (tmp_name a n) a n (log_bytes failures)

-- a crash at any moment between the two leaves the log, or what a crash might have left before
abbrev pub LeavesLog : Area → List ℕ → List Failure → View → View → Type 0
LeavesLog a n failures = LeavesWhole (tmp_name a n) a n (log_bytes failures)
