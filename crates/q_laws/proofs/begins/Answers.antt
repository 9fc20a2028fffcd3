use Rattle.q_laws.proofs.Beginnings.{begins_consistent}
use Rattle.q_laws.proofs.begins.Goals as goal

pub returns : goal.returns
returns c = λ w mode book usable distinct orderly. begins_consistent w mode book usable distinct orderly
