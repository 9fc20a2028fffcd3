use Rattle.q_tallies.proofs.LaterLaws.{exact_later}
use Rattle.q_tallies.proofs.laws.tally_may_begin_later.Goals as goal

pub returns : goal.returns
returns c = exact_later
