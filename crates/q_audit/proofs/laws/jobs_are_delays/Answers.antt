use Rattle.q_audit.proofs.DelayLaws.{jobs_same}
use Rattle.q_audit.proofs.laws.jobs_are_delays.Goals as goal

pub returns : goal.returns
returns c = jobs_same c.tally_is_exact.ensures
