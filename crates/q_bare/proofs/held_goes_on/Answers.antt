use Rattle.q_bare.proofs.JudgeLaws.{held_goes_on}
use Rattle.q_bare.proofs.held_goes_on.Goals as goal

pub returns : goal.returns
returns c = held_goes_on
