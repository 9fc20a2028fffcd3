use Rattle.std.proofs.Common.{◌≡◌, length, take}
use Rattle.q_logfile.specs.Flags.{AreFlags}
use Rattle.q_look.specs.Failures.{set_count}
use Rattle.q_model.specs.FailureLog.{failures_of}
use Rattle.q_look.proofs.failed.flags_of.Given as goal

abbrev pub invariant-loop-failure : goal.invariant-loop-failure
invariant-loop-failure l = record {
  flags : AreFlags l.recipients (take l.failure-index l.failures) l.flags.set.items;
  counted : l.flags.count ≡ set_count l.flags.set.items;
  failures : set_count l.flags.set.items ≡ length (failures_of l.recipients (take l.failure-index l.failures));
}
