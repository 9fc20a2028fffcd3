use Rattle.q_audit.proofs.BegunLaws.{jobs_told}
use Rattle.q_audit.proofs.laws.jobs_are_told.Goals as goal

pub returns : goal.returns
returns c = jobs_told
