use Rattle.std.proofs.Common.{◌∙◌, ap, option_map, refl, sym}
use Rattle.std.specs.Option.{option_copied}
use Rattle.q_core.proofs.PoolTies.{slot_held}
use Rattle.q_core.specs.Held.{slot_in}
use Rattle.q_core.specs.State.{State}
use Rattle.q_core.specs.View.{state_of}
use Rattle.q_pool.specs.declared.kept.Kept.{Kept}
use Rattle.q_core.proofs.state.Core.slot.Goals as goal

pub returns-in-Some : goal.returns-in-Some
returns-in-Some c =
    ap (option_map (λ (k : Kept). k.slot)) (ap option_copied (sym c.in-Some.is) ∙ c.get.ensures)
    ∙ sym (slot_held (state_of c.self.inside) c.self.inside.admitted.items refl c.args.id) ∙ ap (λ (s : State). slot_in s c.args.id) c.self.view_is

pub returns-in-None : goal.returns-in-None
returns-in-None c =
    ap (option_map (λ (k : Kept). k.slot)) (ap option_copied (sym c.in-None.is) ∙ c.get.ensures)
    ∙ sym (slot_held (state_of c.self.inside) c.self.inside.admitted.items refl c.args.id) ∙ ap (λ (s : State). slot_in s c.args.id) c.self.view_is
