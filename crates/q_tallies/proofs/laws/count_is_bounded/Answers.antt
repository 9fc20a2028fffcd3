use Rattle.q_tallies.proofs.BoundLaws.{count_bounded}
use Rattle.q_tallies.proofs.laws.count_is_bounded.Goals as goal

pub returns : goal.returns
returns c = count_bounded
