use Rattle.q_laws.proofs.Beginnings.{restarts_consistent}
use Rattle.q_laws.proofs.restarts.Goals as goal

pub returns : goal.returns
returns c = λ w l usable book. restarts_consistent w l usable book
