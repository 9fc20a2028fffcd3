use Rattle.std.proofs.Common.{◌∙◌, sym, ap, position}
use Rattle.q_ledger.proofs.GroupLaws.{join_None, join_Some}
use Rattle.q_ledger.specs.Grouping.{has_space}
use Rattle.q_ledger.proofs.batches.join_row.Goals as goal

pub returns-in-Some : goal.returns-in-Some
returns-in-Some c =
    let p = has_space c.args.limit c.args.site.now in
    join_Some c.args.limit c.args.id c.args.site.now c.args.position c.args.rows.now.items c.add_position.new.rows.items c.in-Some.place (ap (position p) (sym c.deref.ensures.value) ∙ sym c.in-Some.ensures) c.in_ok-add_position.ensures

pub returns : goal.returns
returns c =
    let p = has_space c.args.limit c.args.site.now in
    c.in_ok-add_row.ensures ∙ join_None c.args.limit c.args.id c.args.site.now c.args.position c.args.rows.now.items (ap (position p) (sym c.deref.ensures.value) ∙ sym c.in_default.ensures)
