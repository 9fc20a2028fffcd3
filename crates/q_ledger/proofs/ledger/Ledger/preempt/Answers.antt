use Rattle.std.proofs.Common.{subst, sym}
use Rattle.q_ledger.proofs.PreemptedLaws.{preempt_law}
use Rattle.q_ledger.specs.Taking.{IsChanged}
use Rattle.q_model.specs.declared.entry.Entry.TheVariants as entries
use Rattle.q_ledger.proofs.ledger.Ledger.preempt.Goals as goal

pub returns-clause-ok : goal.returns-clause-ok
returns-clause-ok c = λ need w k held beside may.
    subst (IsChanged w c.args.self.now.ledger (entries.Preempt c.args.child c.args.parent c.args.transport need)) (sym c.in_ok-put_before.ensures.ok)
    (preempt_law w k c.args.self.now c.args.child c.args.parent c.args.transport need held beside may)
