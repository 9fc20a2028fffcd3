use Rattle.q_laws.proofs.Kept.{entry_consistent}
use Rattle.q_laws.proofs.stays_consistent.Goals as goal

pub returns : goal.returns
returns c = λ w l e consistent entry_of. entry_consistent w l e consistent entry_of
