use Rattle.q_audit.proofs.DelayLaws.{jobs_more}
use Rattle.q_audit.proofs.laws.jobs_go_on.Goals as goal

pub returns : goal.returns
returns c = jobs_more
