use Rattle.q_laws.proofs.Decisions.{next_allowed}
use Rattle.q_laws.proofs.next_is_allowed.Goals as goal

pub returns : goal.returns
returns c = λ w l consistent e living next. next_allowed w l e consistent living next
