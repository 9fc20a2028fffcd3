use Rattle.q_laws.proofs.Runs.{run_consistent}
use Rattle.q_laws.proofs.runs_stay_consistent.Goals as goal

pub returns : goal.returns
returns c = λ w l consistent items fits es fs same. run_consistent w l items consistent fits es fs same
