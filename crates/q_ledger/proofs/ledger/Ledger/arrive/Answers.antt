use Rattle.std.proofs.Common.{subst, sym}
use Rattle.q_ledger.proofs.AddedLaws.{arrive_law}
use Rattle.q_ledger.specs.Taking.{IsChanged}
use Rattle.q_model.specs.declared.entry.Entry.TheVariants as entries
use Rattle.q_ledger.proofs.ledger.Ledger.arrive.Goals as goal

pub returns-clause-ok : goal.returns-clause-ok
returns-clause-ok c = λ content w k held beside may.
    subst (IsChanged w c.args.self.now.ledger (entries.Arrive c.args.id c.args.sender.now c.args.to.now content)) (sym c.in_ok-add_arrival.ensures.ok)
    (arrive_law w k c.args.self.now c.args.id c.args.sender.now c.args.to.now content held beside)
