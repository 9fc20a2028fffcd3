use Rattle.q_laws.proofs.Runs.{run_limits}
use Rattle.q_laws.proofs.stays_within_limits.Goals as goal

pub returns : goal.returns
returns c = λ w mode book usable distinct orderly items fits es fs same. run_limits w mode book items usable distinct orderly fits es fs same
