use Rattle.q_lives.proofs.OneByOne.{lives_single}
use Rattle.q_lives.proofs.deliveries_go_one_by_one.Goals as goal

pub returns : goal.returns
returns c = λ book lives good h. lives_single book lives good h
