use Rattle.std.proofs.Common.{◌∙◌, ap, sym, position}
use Rattle.q_model.specs.Starts.{is_row}
use Rattle.q_ledger.proofs.ListLaws.{drop_first-None, drop_first-Some, found_at, not_found}
use Rattle.q_ledger.proofs.waiting.take_from.Goals as goal

pub returns-in-None-clause-row : goal.returns-in-None-clause-row
returns-in-None-clause-row c =
    let p = is_row c.args.id c.args.site.now c.args.positions.now in
    not_found p c.args.rows.now.items (sym (c.in-None.ensures ∙ ap (position p) c.deref.ensures.value))

pub returns-in-None-clause-left : goal.returns-in-None-clause-left
returns-in-None-clause-left c =
    let p = is_row c.args.id c.args.site.now c.args.positions.now in
    drop_first-None p c.args.rows.now.items (sym (c.in-None.ensures ∙ ap (position p) c.deref.ensures.value))

pub returns-in-Some-clause-row : goal.returns-in-Some-clause-row
returns-in-Some-clause-row c =
    let p = is_row c.args.id c.args.site.now c.args.positions.now in
    found_at p c.args.rows.now.items c.in-Some.place c.remove.result (sym (c.in-Some.ensures ∙ ap (position p) c.deref.ensures.value)) c.remove.ensures.value

pub returns-in-Some-clause-left : goal.returns-in-Some-clause-left
returns-in-Some-clause-left c =
    let p = is_row c.args.id c.args.site.now c.args.positions.now in
    c.remove.ensures.items ∙ drop_first-Some p c.args.rows.now.items c.in-Some.place (sym (c.in-Some.ensures ∙ ap (position p) c.deref.ensures.value))
