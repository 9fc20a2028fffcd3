use Rattle.std.proofs.Common.{◌∙◌, ap, false, Option, sym, true}
use Rattle.std.specs.Option.{option_copied, option_map_or}
use Rattle.q_core.proofs.PoolTies.{any_found}
use Rattle.q_model.specs.Ids.{id_eq}
use Rattle.q_pool.specs.declared.slot.Slot.{Slot}
use Rattle.q_core.proofs.state.Core.has_slot.Goals as goal

pub returns-in-Some : goal.returns-in-Some
returns-in-Some c =
    ap (λ (o : Option Slot). option_map_or (λ s. true) o false) (ap option_copied (sym c.in-Some.is) ∙ c.slot.ensures)
    ∙ sym (any_found (λ (s : Slot). id_eq s.id c.args.id) c.args.self.now.admitted)

pub returns-in-None : goal.returns-in-None
returns-in-None c =
    ap (λ (o : Option Slot). option_map_or (λ s. true) o false) (ap option_copied (sym c.in-None.is) ∙ c.slot.ensures)
    ∙ sym (any_found (λ (s : Slot). id_eq s.id c.args.id) c.args.self.now.admitted)
