use Rattle.std.proofs.Common.{[], false, None, refl, subst, ◌≡◌}
use Rattle.q_model.specs.Routes.{world_without_table}
use Rattle.q_model.specs.declared.rows.Place.TheVariants.{Active}
use Rattle.q_core.specs.State.{State}
use Rattle.q_core.specs.Held.{due_in}
use Rattle.q_core.proofs.state.Core.due.Goals as goal

pub returns : goal.returns
returns c = subst (λ (s : State). c.due.result ≡ due_in s c.args.arrival) c.self.view_is (c.due.ensures (world_without_table c.self.inside.params)
    (record { id = record { generation = 0; serial = 0; bounce = false }; version = 2; sender = None; arrival = c.args.arrival; content = []; recipients = []; failures = []; place = Active }) refl refl)
