use Rattle.std.proofs.Common.{◌∙◌}
use Rattle.q_ledger.proofs.ledger.Ledger.take.Goals as goal

pub returns-clause-ok : goal.returns-clause-ok
returns-clause-ok c = λ k h beside may.
    c.tidy.ensures k c.args.self.now.ledger c.args.entry.now h may (c.deref.ensures.value ∙ c.in_ok-woken.ensures) (c.in_ok-change.ensures.ok k h beside may)
