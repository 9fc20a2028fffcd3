use Rattle.q_laws.proofs.Resting.{keeps_apart as keeps}
use Rattle.q_laws.proofs.keeps_apart.Goals as goal

pub returns : goal.returns
returns c = λ w l consistent. keeps w l consistent
