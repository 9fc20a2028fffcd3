use Rattle.q_fronts.proofs.Opening.{ledgers_open}
use Rattle.q_fronts.proofs.ledgers_open.Goals as goal

pub returns : goal.returns
returns c = ledgers_open
