use Rattle.q_lives.proofs.CausedLives.{lives_done}
use Rattle.q_lives.proofs.done_has_cause.Goals as goal

pub returns : goal.returns
returns c = λ book lives good h. lives_done book lives good h
