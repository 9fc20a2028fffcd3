use Rattle.q_bare.proofs.CountLaws.{counts_kept}
use Rattle.q_bare.proofs.counts_are_kept.Goals as goal

pub returns : goal.returns
returns c = counts_kept
