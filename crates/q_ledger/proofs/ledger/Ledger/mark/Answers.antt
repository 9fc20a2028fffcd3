use Rattle.std.proofs.Common.{sym, subst, arith}
use Rattle.q_ledger.proofs.MarkedLaws.{mark_changes}
use Rattle.q_ledger.specs.Taking.{IsChanged}
use Rattle.q_model.specs.declared.entry.Entry.TheVariants as entries
use Rattle.q_ledger.proofs.ledger.Ledger.mark.Goals as goal

pub returns : goal.returns
returns c = λ w k h beside may.
    subst (IsChanged w c.args.self.now.ledger (entries.Mark c.args.id c.args.position)) (sym c.settle_and_mark.ensures)
    (mark_changes w k c.args.self.now c.args.id c.args.position h beside (omega (arith, c.total_rows.ensures)))
