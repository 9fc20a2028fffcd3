use Rattle.q_lives.proofs.RepeatLives.{all_repeat}
use Rattle.q_lives.proofs.repeats_unsynced.Goals as goal

pub returns : goal.returns
returns c = λ book lives good h. all_repeat book lives good h
