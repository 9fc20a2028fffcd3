use Rattle.q_audit.proofs.DelayLaws.{jobs_kept}
use Rattle.q_audit.proofs.laws.jobs_are_kept.Goals as goal

pub returns : goal.returns
returns c = jobs_kept
