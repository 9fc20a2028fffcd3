use Rattle.std.proofs.Common.{◌∙◌, ap, false, Option, refl, sym}
use Rattle.std.specs.Option.{option_copied, option_map_or}
use Rattle.q_core.proofs.PoolTies.{damaged_held}
use Rattle.q_core.specs.Held.{is_damaged_in, slot_in}
use Rattle.q_core.specs.State.{State}
use Rattle.q_core.specs.View.{state_of}
use Rattle.q_pool.specs.declared.slot.Slot.{Slot}
use Rattle.q_core.proofs.state.Core.has_damage.Goals as goal

pub returns-in-Some : goal.returns-in-Some
returns-in-Some c =
    ap (λ (o : Option Slot). option_map_or (λ s. s.damaged) o false) (ap option_copied (sym c.in-Some.is) ∙ c.slot.ensures ∙ ap (λ (s : State). slot_in s c.args.id) (sym c.self.view_is))
    ∙ sym (damaged_held (state_of c.self.inside) c.self.inside.admitted.items refl c.stand_apart.ensures.apart c.args.id) ∙ ap (λ (s : State). is_damaged_in s c.args.id) c.self.view_is

pub returns-in-None : goal.returns-in-None
returns-in-None c =
    ap (λ (o : Option Slot). option_map_or (λ s. s.damaged) o false) (ap option_copied (sym c.in-None.is) ∙ c.slot.ensures ∙ ap (λ (s : State). slot_in s c.args.id) (sym c.self.view_is))
    ∙ sym (damaged_held (state_of c.self.inside) c.self.inside.admitted.items refl c.stand_apart.ensures.apart c.args.id) ∙ ap (λ (s : State). is_damaged_in s c.args.id) c.self.view_is
