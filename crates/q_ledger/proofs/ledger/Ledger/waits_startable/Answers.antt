use Rattle.std.proofs.Common.{◌∙◌, ap, sym, filter}
use Rattle.std.specs.List.{list_any}
use Rattle.std.specs.Prelude.{◌&&◌}
use Rattle.q_ledger.specs.State.{State}
use Rattle.q_ledger.proofs.LoadedRows.{of_id}
use Rattle.q_ledger.proofs.PartLaws.{any_within}
use Rattle.q_ledger.proofs.RowLaws.{startable_row_is_own}
use Rattle.q_ledger.specs.Worlds.{world_of}
use Rattle.q_model.specs.Startable.{is_startable}
use Rattle.q_model.specs.Starts.{is_row}
use Rattle.q_model.specs.declared.rows.Row.{Row}
use Rattle.q_ledger.proofs.ledger.Ledger.waits_startable.Goals as goal

pub returns : goal.returns
returns c =
    let w = world_of c.args.world.now in
    let l = c.args.self.now.ledger in
    let test = λ (r : Row). is_row c.args.id c.args.site.now c.args.positions.now r && is_startable w l r in
    c.is_startable_among.ensures ∙ ap (list_any test) (c.of.ensures ∙ ap (λ (s : State). filter (of_id c.args.id) s.ledger.waiting) c.self.view_is)
    ∙ sym (any_within test (of_id c.args.id) l.waiting (startable_row_is_own w l c.args.id c.args.site.now c.args.positions.now))
