use Rattle.std.proofs.Common.{◌∙◌, ap}
use Rattle.std.specs.List.{list_any}
use Rattle.std.specs.Option.{is_some}
use Rattle.q_core.specs.Sending.{is_for}
use Rattle.q_core.specs.State.{State}
use Rattle.q_held.proofs.Plain.{rows_plain}
use Rattle.q_held.specs.Held.{plain}
use Rattle.q_peers.proofs.Items.{any_item}
use Rattle.q_core.proofs.state.Core.has_row_for.Goals as goal

pub returns : goal.returns
returns c =
    let p = is_for c.args.id c.args.site.now in
    c.is_some.ensures ∙ ap is_some c.first_for.ensures ∙ any_item p (plain c.self.inside.waiting.items) ∙ ap (list_any p) (rows_plain c.self.inside.waiting.items) ∙ ap (λ (s : State). list_any p s.waiting) c.self.view_is
