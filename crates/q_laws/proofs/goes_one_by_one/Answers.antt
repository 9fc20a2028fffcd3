use Rattle.q_laws.proofs.Resting.{one_by_one}
use Rattle.q_laws.proofs.goes_one_by_one.Goals as goal

pub returns : goal.returns
returns c = λ w l h. one_by_one w l h
