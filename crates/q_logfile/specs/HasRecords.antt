-- What a failure log says.
use Rattle.std.specs.Option.{option_map, option_map_or}
use Rattle.std.specs.Prelude.{◌≡◌, [], List, Some, ℕ}
use Rattle.q_model.specs.SpoolFiles.{Files}
use Rattle.q_model.specs.declared.outcome.Failure.{Failure}
use Rattle.q_model.specs.declared.spot.Area.{Area}
use Rattle.q_model.specs.FailureLog.{log_records}
use Rattle.q_host.specs.View.{Remains, View}

-- the records of the log at a place; none, where there is no log
abbrev pub records_at : Files → Area → List ℕ → List Failure
records_at f a n = option_map_or log_records (f a n) []

-- a file stands at the place, and its records are these failures
abbrev pub HasRecords : Files → Area → List ℕ → List Failure → Type 0
HasRecords f a n failures = option_map log_records (f a n) ≡ Some failures

-- every crash leaves such a file
abbrev pub LeavesRecords : View → Area → List ℕ → List Failure → Type 0
LeavesRecords v a n failures = (c : Remains) → v.may_leave c → HasRecords c.files a n failures
