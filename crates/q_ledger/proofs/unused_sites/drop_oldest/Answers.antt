use Rattle.std.proofs.Common.{◌∙◌, sym, ap, position}
use Rattle.q_ledger.proofs.ListLaws.{drop_first-Some, drop_first-None}
use Rattle.q_ledger.specs.Tidying.{is_remembered_in}
use Rattle.q_ledger.proofs.unused_sites.drop_oldest.Goals as goal

pub returns-in-Some : goal.returns-in-Some
returns-in-Some c =
    let p = is_remembered_in c.args.waiting.now c.args.flights.now in
    c.remove.ensures.items ∙ drop_first-Some p c.args.sites.now.items c.in-Some.place (ap (position p) (sym c.deref.ensures.value) ∙ sym c.in-Some.ensures)

pub returns-in_default : goal.returns-in_default
returns-in_default c =
    let p = is_remembered_in c.args.waiting.now c.args.flights.now in
    drop_first-None p c.args.sites.now.items (ap (position p) (sym c.deref.ensures.value) ∙ sym c.in_default.ensures)
