use Rattle.q_laws.proofs.Lawful.{entry_lawful}
use Rattle.q_laws.proofs.stays_lawful.Goals as goal

pub returns : goal.returns
returns c = λ w l e consistent entry_of lawful. entry_lawful w l e consistent entry_of lawful
