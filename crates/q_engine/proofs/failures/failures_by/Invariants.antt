use Rattle.std.proofs.Common.{take}
use Rattle.q_engine.specs.BounceTexts.{AreKnown}
use Rattle.q_engine.proofs.failures.failures_by.Given as goal

abbrev pub invariant-loop-record : goal.invariant-loop-record
invariant-loop-record l = AreKnown l.recipients (take l.record-index l.records) l.known.flags.items l.known.failures
