use Rattle.q_bare.proofs.JudgeLaws.{held_judges}
use Rattle.q_bare.proofs.held_judges.Goals as goal

pub returns : goal.returns
returns c = held_judges
