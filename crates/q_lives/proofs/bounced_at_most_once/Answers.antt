use Rattle.q_lives.proofs.BouncedFew.{all_few}
use Rattle.q_lives.proofs.bounced_at_most_once.Goals as goal

pub returns : goal.returns
returns c = λ book lives good h. all_few book lives good h
