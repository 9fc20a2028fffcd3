use Rattle.std.proofs.Common.{◌∙◌, ap, subst, sym}
use Rattle.q_ledger.proofs.LeavingLaws.{remove_law}
use Rattle.q_ledger.specs.Changed.{forgotten, not_left}
use Rattle.q_ledger.specs.Taking.{IsChanged}
use Rattle.q_model.specs.declared.entry.Entry.TheVariants as entries
use Rattle.q_ledger.proofs.ledger.Ledger.remove.Goals as goal

pub returns : goal.returns
returns c = λ w k held beside may.
    let id = c.args.id in
    subst (IsChanged w c.args.self.now.ledger (entries.Remove id)) (sym (c.drop_leftover.ensures ∙ ap (not_left id) (c.forget.ensures ∙ ap (forgotten id) c.remove_message.ensures)))
    (remove_law w k c.args.self.now id held beside may)
