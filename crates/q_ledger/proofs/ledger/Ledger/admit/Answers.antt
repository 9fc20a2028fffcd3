use Rattle.std.proofs.Common.{◌∙◌, ap, subst, sym}
use Rattle.q_ledger.proofs.EnteredLaws.{admit_law}
use Rattle.q_ledger.specs.Changed.{moved, with_ledger}
use Rattle.q_ledger.specs.State.{State}
use Rattle.q_ledger.specs.Taking.{IsChanged}
use Rattle.q_model.specs.Alternation.{after_pick}
use Rattle.q_model.specs.declared.entry.Entry.TheVariants as entries
use Rattle.q_model.specs.declared.rows.Place.TheVariants as places
use Rattle.q_ledger.proofs.ledger.Ledger.admit.Goals as goal

pub returns-clause-ok : goal.returns-clause-ok
returns-clause-ok c = λ w k held beside may.
    let id = c.args.id in
    let same = c.move_message.ensures ∙ ap (moved id places.Active) (c.pass_pick.ensures ∙ ap (λ (s : State). with_ledger s (after_pick s.ledger)) c.in_ok-enter.ensures.ok) in
    subst (IsChanged w c.args.self.now.ledger (entries.Admit id)) (sym same) (admit_law w k c.args.self.now id held beside may)
