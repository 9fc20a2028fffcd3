use Rattle.std.proofs.Common.{subst, sym}
use Rattle.q_ledger.proofs.AddedLaws.{bounce_law}
use Rattle.q_ledger.specs.Taking.{IsChanged}
use Rattle.q_model.specs.declared.entry.Entry.TheVariants as entries
use Rattle.q_ledger.proofs.ledger.Ledger.bounce.Goals as goal

pub returns-clause-ok : goal.returns-clause-ok
returns-clause-ok c = λ w k held beside may.
    subst (IsChanged w c.args.self.now.ledger (entries.Bounce c.args.id)) (sym c.in_ok-add_bounce.ensures.ok) (bounce_law w k c.args.self.now c.args.id held beside may)
