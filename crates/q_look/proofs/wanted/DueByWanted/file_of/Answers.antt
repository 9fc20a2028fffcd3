use Rattle.std.proofs.Common.{arith}
use Rattle.q_look.proofs.Naming.{not_due}
use Rattle.q_look.proofs.wanted.DueByWanted.file_of.Goals as goal

pub returns-then-due-self-clause-none : goal.returns-then-due-self-clause-none
returns-then-due-self-clause-none c = not_due c.args.self.now.until c.in_ok-due.due c.in_ok-due.id c.args.name c.in_ok-due.ensures.some.0 c.in_ok-due.ensures.some.1 c.in_ok-due.ensures.some.2 (omega (arith, c.if-due-self.true))
