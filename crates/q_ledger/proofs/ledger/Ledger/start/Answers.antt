use Rattle.std.proofs.Common.{◌∙◌, ap, subst, sym}
use Rattle.q_ledger.proofs.StartLaws.{start_law}
use Rattle.q_ledger.specs.LinesLeft.{with_lines_left, with_served_left}
use Rattle.q_ledger.specs.Taking.{IsChanged}
use Rattle.q_model.specs.declared.entry.Entry.TheVariants as entries
use Rattle.q_ledger.proofs.ledger.Ledger.start.Goals as goal

pub returns-clause-changed : goal.returns-clause-changed
returns-clause-changed c = λ w k held beside may.
    let s = c.args.self.now in
    let id = c.args.id in
    let site = c.args.site.now in
    let positions = c.args.positions.now in
    let same = c.tidy_served.ensures
    ∙ ap (with_served_left id site) (c.tidy_lines.ensures ∙ ap (with_lines_left id) c.in_ok-send.ensures.sent) in
    subst (IsChanged w s.ledger (entries.Start c.args.number id site positions)) (sym same)
    (start_law w k s c.args.number id site positions held beside may)
