use Rattle.std.proofs.Common.{[], ◌∙◌, refl, subst, ◌≡◌}
use Rattle.q_core.proofs.ExpiryLaws.{expired_as, sender_for, sender_is}
use Rattle.q_model.specs.Routes.{world_without_table}
use Rattle.q_model.specs.declared.rows.Place.TheVariants.{Active}
use Rattle.q_core.specs.State.{State}
use Rattle.q_core.specs.Queries.{slot_expired_in}
use Rattle.q_core.specs.View.{state_of}
use Rattle.q_core.proofs.state.Core.slot_expired.Goals as goal

pub returns : goal.returns
returns c =
    let slot = c.args.slot.now in
    subst (λ (s : State). c.expired.result ≡ slot_expired_in s slot) c.self.view_is (c.expired.ensures (world_without_table c.self.inside.params)
    (record { id = slot.id; version = 2; sender = sender_for slot.null_sender; arrival = slot.arrival; content = []; recipients = []; failures = []; place = Active }) refl refl (sender_is slot.null_sender)
    ∙ expired_as (state_of c.self.inside) slot)
