use Rattle.std.proofs.Common.{◌∙◌, ap, subst, sym}
use Rattle.q_ledger.proofs.LeavingLaws.{back_law}
use Rattle.q_ledger.specs.Changed.{not_left}
use Rattle.q_ledger.specs.Taking.{IsChanged}
use Rattle.q_model.specs.declared.entry.Entry.TheVariants as entries
use Rattle.q_ledger.proofs.ledger.Ledger.back.Goals as goal

pub returns : goal.returns
returns c = λ w k held beside may.
    subst (IsChanged w c.args.self.now.ledger (entries.Back c.args.id)) (sym (c.drop_leftover.ensures ∙ ap (not_left c.args.id) c.move_message.ensures))
    (back_law w k c.args.self.now c.args.id held beside may)
