use Rattle.std.proofs.Common.{◌∙◌, ap, sym, filter}
use Rattle.std.specs.Prelude.{◌==◌, count_by}
use Rattle.q_ledger.specs.State.{State}
use Rattle.q_ledger.proofs.LoadedRows.{of_id}
use Rattle.q_ledger.proofs.PartLaws.{count_among}
use Rattle.q_model.specs.declared.rows.Row.{Row}
use Rattle.q_ledger.proofs.ledger.Ledger.waiting_for.Goals as goal

pub returns-clause-count : goal.returns-clause-count
returns-clause-count c =
    let test = λ (r : Row). r.site.transport == c.args.transport in
    c.count_at.ensures.count ∙ ap (count_by test) (c.of.ensures ∙ ap (λ (s : State). filter (of_id c.args.id) s.ledger.waiting) c.self.view_is)
    ∙ sym (count_among (of_id c.args.id) test c.args.self.now.ledger.waiting)
