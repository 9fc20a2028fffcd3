use Rattle.q_audit.proofs.FrontLaws.{whole}
use Rattle.q_audit.proofs.laws.fronts_are_whole.Goals as goal

pub returns : goal.returns
returns c = whole
