use Rattle.q_bare.proofs.JudgeLaws.{held_begins}
use Rattle.q_bare.proofs.held_begins.Goals as goal

pub returns : goal.returns
returns c = held_begins
