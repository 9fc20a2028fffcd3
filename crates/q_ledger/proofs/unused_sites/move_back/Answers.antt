use Rattle.std.proofs.Common.{◌∙◌, sym, ap, position}
use Rattle.q_ledger.proofs.MovedLaws.{moved_back-Some, moved_back-None}
use Rattle.q_ledger.specs.Tidying.{is_at}
use Rattle.q_ledger.proofs.unused_sites.move_back.Goals as goal

pub returns-in-Some : goal.returns-in-Some
returns-in-Some c =
    let p = is_at c.args.site.now in
    moved_back-Some p c.args.sites.now.items c.move_to_end.new.sites.items c.in-Some.place (ap (position p) (sym c.deref.ensures.value) ∙ sym c.in-Some.ensures) c.move_to_end.ensures

pub returns-in_default : goal.returns-in_default
returns-in_default c =
    let p = is_at c.args.site.now in
    moved_back-None p c.args.sites.now.items (ap (position p) (sym c.deref.ensures.value) ∙ sym c.in_default.ensures)
