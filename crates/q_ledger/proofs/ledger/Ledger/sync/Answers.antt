use Rattle.std.proofs.Common.{sym, subst}
use Rattle.q_ledger.proofs.MarkedLaws.{sync_changes}
use Rattle.q_ledger.specs.Taking.{IsChanged}
use Rattle.q_model.specs.declared.entry.Entry.TheVariants as entries
use Rattle.q_ledger.proofs.ledger.Ledger.sync.Goals as goal

pub returns-clause-changed : goal.returns-clause-changed
returns-clause-changed c = λ w k h beside may.
    subst (IsChanged w c.args.self.now.ledger (entries.Sync c.args.id)) (sym c.in_ok-note_and_sync.ensures.synced)
    (sync_changes w k c.args.self.now c.args.id h beside)
