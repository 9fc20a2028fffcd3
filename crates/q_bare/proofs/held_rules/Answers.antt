use Rattle.q_bare.proofs.JudgeLaws.{held_rules}
use Rattle.q_bare.proofs.held_rules.Goals as goal

pub returns : goal.returns
returns c = held_rules
