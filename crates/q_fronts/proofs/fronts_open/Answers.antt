use Rattle.q_fronts.proofs.Opening.{fronts_open}
use Rattle.q_fronts.proofs.fronts_open.Goals as goal

pub returns : goal.returns
returns c = fronts_open
