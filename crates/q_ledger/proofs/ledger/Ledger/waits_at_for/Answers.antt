use Rattle.std.proofs.Common.{◌∙◌, ap, sym}
use Rattle.std.specs.List.{list_any}
use Rattle.q_ledger.proofs.LoadedRows.{of_id}
use Rattle.q_ledger.proofs.PartLaws.{any_among}
use Rattle.q_ledger.specs.LinesLeft.{waits_there}
use Rattle.q_ledger.specs.State.{State}
use Rattle.q_model.specs.Sites.{site_eq}
use Rattle.q_model.specs.declared.rows.Row.{Row}
use Rattle.q_ledger.proofs.ledger.Ledger.waits_at_for.Goals as goal

pub returns : goal.returns
returns c =
    let test = λ (r : Row). site_eq r.site c.args.site.now in
    c.waits_among.ensures ∙ ap (list_any test) c.of.ensures
    ∙ sym (any_among (of_id c.args.id) test c.self.inside.waiting)
    ∙ ap (λ (s : State). waits_there s.ledger c.args.id c.args.site.now) c.self.view_is
