use Rattle.q_engine.proofs.FailureFlags.{known_few}
use Rattle.q_engine.proofs.failures.failures_by.Goals as goal

pub returns-clause-few : goal.returns-clause-few
returns-clause-few c = known_few c.args.recipients _ c.loop-record.known.flags.items c.loop-record.known.failures c.loop-record.invariant
