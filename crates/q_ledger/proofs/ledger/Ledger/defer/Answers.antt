use Rattle.std.proofs.Common.{◌∙◌, ap, subst, sym}
use Rattle.q_ledger.proofs.LeavingLaws.{defer_law}
use Rattle.q_ledger.specs.Changed.{forgotten}
use Rattle.q_ledger.specs.Taking.{IsChanged}
use Rattle.q_model.specs.declared.entry.Entry.TheVariants as entries
use Rattle.q_ledger.proofs.ledger.Ledger.defer.Goals as goal

pub returns : goal.returns
returns c = λ w k held beside may.
    subst (IsChanged w c.args.self.now.ledger (entries.Defer c.args.id c.args.due)) (sym (c.forget.ensures ∙ ap (forgotten c.args.id) c.move_message.ensures))
    (defer_law w k c.args.self.now c.args.id c.args.due held beside may)
