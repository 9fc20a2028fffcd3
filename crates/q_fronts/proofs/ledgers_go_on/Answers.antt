use Rattle.q_fronts.proofs.Going.{ledgers_go_on}
use Rattle.q_fronts.proofs.ledgers_go_on.Goals as goal

pub returns : goal.returns
returns c = ledgers_go_on
