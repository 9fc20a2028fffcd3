use Rattle.q_lives.proofs.ArrivedLives.{lives_stand}
use Rattle.q_lives.proofs.stands_once_or_left.Goals as goal

pub returns : goal.returns
returns c = λ book lives good h. lives_stand book lives good h
