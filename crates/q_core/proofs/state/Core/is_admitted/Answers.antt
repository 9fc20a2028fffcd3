use Rattle.std.proofs.Common.{◌∙◌}
use Rattle.q_core.proofs.AgreesLaws.{same_admitted}
use Rattle.q_core.proofs.state.Core.is_admitted.Goals as goal

pub returns-clause-ledger : goal.returns-clause-ledger
returns-clause-ledger c = λ w l a. c.has_slot.ensures ∙ same_admitted a.matches.parts c.args.id
