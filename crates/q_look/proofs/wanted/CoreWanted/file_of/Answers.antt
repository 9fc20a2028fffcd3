use Rattle.std.proofs.Common.{◌∙◌, sym}
use Rattle.q_look.proofs.Naming.{no_leftover}
use Rattle.q_look.proofs.wanted.CoreWanted.file_of.Goals as goal

pub returns-then-is_admitted-clause-none : goal.returns-then-is_admitted-clause-none
returns-then-is_admitted-clause-none c = no_leftover c.args.self.now c.in_ok-id.id c.args.name c.in_ok-id.ensures.some.0 c.in_ok-id.ensures.some.1 (sym c.is_admitted.ensures.value ∙ c.if-is_admitted.true)
