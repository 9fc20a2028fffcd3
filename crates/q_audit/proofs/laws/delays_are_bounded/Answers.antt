use Rattle.q_audit.proofs.BegunLaws.{delays_of_fronts_bounded}
use Rattle.q_audit.proofs.laws.delays_are_bounded.Goals as goal

pub returns : goal.returns
returns c = delays_of_fronts_bounded
