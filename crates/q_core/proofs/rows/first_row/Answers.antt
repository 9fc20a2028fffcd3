use Rattle.std.proofs.Common.{◌∙◌, ap, sym}
use Rattle.std.specs.Prelude.{find}
use Rattle.q_core.specs.Sending.{is_for}
use Rattle.q_held.proofs.Plain.{rows_plain}
use Rattle.q_held.specs.Held.{plain}
use Rattle.q_peers.proofs.Peers.{none_found, row_found}
use Rattle.q_core.proofs.rows.first_row.Goals as goal

pub returns-in-Some : goal.returns-in-Some
returns-in-Some c =
    c.get.ensures ∙ row_found (is_for c.args.id c.args.site.now) c.in-Some.number (plain c.args.waiting.now.items) c.stand_apart.ensures.apart (sym c.in-Some.ensures)
    ∙ ap (find (is_for c.args.id c.args.site.now)) (rows_plain c.args.waiting.now.items)

pub returns-in-None : goal.returns-in-None
returns-in-None c =
    sym (none_found (is_for c.args.id c.args.site.now) (plain c.args.waiting.now.items) (sym c.in-None.ensures))
    ∙ ap (find (is_for c.args.id c.args.site.now)) (rows_plain c.args.waiting.now.items)
