use Rattle.q_tallies.proofs.BoundLaws.{count_whole}
use Rattle.q_tallies.proofs.laws.count_is_whole.Goals as goal

pub returns : goal.returns
returns c = count_whole
