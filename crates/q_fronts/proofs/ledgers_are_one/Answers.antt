use Rattle.q_fronts.proofs.Going.{ledgers_are_one}
use Rattle.q_fronts.proofs.ledgers_are_one.Goals as goal

pub returns : goal.returns
returns c = ledgers_are_one
