use Rattle.q_lives.proofs.BouncedLives.{all_bounced}
use Rattle.q_lives.proofs.bounced_once.Goals as goal

pub returns : goal.returns
returns c = λ book lives good h. all_bounced book lives good h
