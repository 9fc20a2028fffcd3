use Rattle.q_audit.proofs.BegunLaws.{delays_of_fronts_whole}
use Rattle.q_audit.proofs.laws.delays_are_whole.Goals as goal

pub returns : goal.returns
returns c = delays_of_fronts_whole
