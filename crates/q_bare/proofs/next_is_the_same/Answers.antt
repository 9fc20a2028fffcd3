use Rattle.q_bare.proofs.RuleLaws.{next_bare}
use Rattle.q_bare.proofs.next_is_the_same.Goals as goal

pub returns : goal.returns
returns c = next_bare
