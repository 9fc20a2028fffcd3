use Rattle.q_laws.proofs.Runs.{run_lawful}
use Rattle.q_laws.proofs.runs_stay_lawful.Goals as goal

pub returns : goal.returns
returns c = λ w mode book usable distinct lawful items fits es fs same. run_lawful w mode book items usable distinct lawful fits es fs same
