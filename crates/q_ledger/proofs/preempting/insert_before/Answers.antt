use Rattle.std.proofs.Common.{◌∙◌, ap, position, sym}
use Rattle.q_ledger.proofs.PreemptedLaws.{put_None, put_Some}
use Rattle.q_model.specs.declared.id.Id.{Id}
use Rattle.q_model.specs.Ids.{id_eq}
use Rattle.q_ledger.proofs.preempting.insert_before.Goals as goal

pub returns-in-Some : goal.returns-in-Some
returns-in-Some c =
    let p = λ (x : Id). id_eq x c.args.parent in
    c.insert_id.ensures ∙ put_Some c.args.child c.args.parent c.args.ids.now.items c.in-Some.at (ap (position p) (sym c.deref.ensures.value) ∙ sym c.in-Some.ensures)

pub returns-in_default : goal.returns-in_default
returns-in_default c =
    let p = λ (x : Id). id_eq x c.args.parent in
    put_None c.args.child c.args.parent c.args.ids.now.items (ap (position p) (sym c.deref.ensures.value) ∙ sym c.in_default.ensures)
