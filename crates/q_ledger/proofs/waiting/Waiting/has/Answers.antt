use Rattle.std.proofs.Common.{◌∙◌, ap, sym, not, length, List}
use Rattle.std.specs.Prelude.{◌==◌}
use Rattle.q_model.specs.declared.rows.Row.{Row}
use Rattle.q_ledger.proofs.LoadedRows.{of_id}
use Rattle.q_ledger.proofs.PartLaws.{any_kept}
use Rattle.q_ledger.proofs.waiting.Waiting.has.Goals as goal

pub returns : goal.returns
returns c =
    ap not c.is_empty.ensures
    ∙ ap (λ (rs : List Row). not (length rs == 0)) c.of.ensures
    ∙ sym (any_kept (of_id c.args.id) c.args.self.now)
