use Rattle.q_lives.proofs.LawfulLives.{lives_lawful}
use Rattle.q_lives.proofs.stays_lawful.Goals as goal

pub returns : goal.returns
returns c = λ book lives good h lawful. lives_lawful book lives good.distinct lawful h
