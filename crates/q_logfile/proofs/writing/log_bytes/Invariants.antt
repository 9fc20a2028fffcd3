use Rattle.std.proofs.Common.{◌≡◌, true, flat_map, take}
use Rattle.q_model.specs.FailureLog.{failure_bytes}
use Rattle.q_logfile.proofs.WritingLaws.{do_fit}
use Rattle.q_logfile.proofs.writing.log_bytes.Given as goal

abbrev pub invariant-loop-failure : goal.invariant-loop-failure
invariant-loop-failure l = record {
  written : l.log.items ≡ flat_map failure_bytes (take l.failure-index l.failures);
  fit : do_fit (take l.failure-index l.failures) ≡ true;
}
