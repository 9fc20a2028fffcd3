use Rattle.q_load.proofs.Settled.{one_summary}
use Rattle.q_load.proofs.has_one_summary.Goals as goal

pub returns : goal.returns
returns c = one_summary
