use Rattle.std.proofs.Common.{◌∙◌, ap, filter, sym}
use Rattle.q_ledger.specs.State.{State}
use Rattle.q_ledger.proofs.LoadedRows.{of_id}
use Rattle.q_ledger.proofs.PartLaws.{kept_within}
use Rattle.q_ledger.proofs.RowLaws.{startable_is_own}
use Rattle.q_ledger.specs.Spaces.{is_startable_of}
use Rattle.q_ledger.specs.Worlds.{world_of}
use Rattle.q_model.specs.Choice.{started_before}
use Rattle.q_model.specs.Lists.{least}
use Rattle.q_ledger.proofs.ledger.Ledger.next_row.Goals as goal

pub returns : goal.returns
returns c =
    let w = world_of c.args.world.now in
    let l = c.args.self.now.ledger in
    let test = is_startable_of w l c.args.transport c.args.id in
    c.next_among.ensures
    ∙ ap (λ rs. least (started_before l) (filter test rs)) (c.of.ensures ∙ ap (λ (s : State). filter (of_id c.args.id) s.ledger.waiting) c.self.view_is)
    ∙ ap (least (started_before l)) (sym (kept_within test (of_id c.args.id) l.waiting (startable_is_own w l c.args.transport c.args.id)))
