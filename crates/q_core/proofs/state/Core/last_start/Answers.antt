use Rattle.std.proofs.Common.{◌∙◌, ap, sym}
use Rattle.q_core.proofs.ServedLaws.{last_served}
use Rattle.q_core.specs.Starting.{last_start_in}
use Rattle.q_core.specs.State.{State}
use Rattle.q_positions.specs.Rows.{row_shown}
use Rattle.q_core.proofs.state.Core.last_start.Goals as goal

pub returns : goal.returns
returns c =
    c.last.ensures
    ∙ sym (last_served c.args.row.id c.args.row.site.now c.self.inside.schedule.peers c.stand_apart.ensures.apart)
    ∙ ap (λ (s : State). last_start_in s (row_shown c.args.row)) c.self.view_is
