use Rattle.std.proofs.Common.{◌∙◌, ap, sym, filter}
use Rattle.std.specs.List.{list_any}
use Rattle.q_ledger.specs.State.{State}
use Rattle.q_ledger.proofs.LoadedRows.{of_id}
use Rattle.q_ledger.proofs.PartLaws.{any_within}
use Rattle.q_ledger.proofs.RowLaws.{row_is_own}
use Rattle.q_model.specs.Starts.{is_row}
use Rattle.q_ledger.proofs.ledger.Ledger.waits.Goals as goal

pub returns : goal.returns
returns c =
    let test = is_row c.args.id c.args.site.now c.args.positions.now in
    c.is_among.ensures ∙ ap (list_any test) (c.of.ensures ∙ ap (λ (s : State). filter (of_id c.args.id) s.ledger.waiting) c.self.view_is)
    ∙ sym (any_within test (of_id c.args.id) c.args.self.now.ledger.waiting (row_is_own c.args.id c.args.site.now c.args.positions.now))
