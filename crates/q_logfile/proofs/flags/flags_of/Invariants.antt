use Rattle.std.proofs.Common.{take}
use Rattle.q_logfile.specs.Flags.{AreFlags}
use Rattle.q_logfile.proofs.flags.flags_of.Given as goal

abbrev pub invariant-loop-failure : goal.invariant-loop-failure
invariant-loop-failure l = record { flags : AreFlags l.recipients (take l.failure-index l.failures) l.flags.items }
