use Rattle.std.proofs.Common.{◌∙◌, ap, find, option_map, refl, sym}
use Rattle.std.specs.Option.{option_copied}
use Rattle.q_core.proofs.PoolTies.{first_idle_held, IsHeld}
use Rattle.q_core.specs.Held.{is_idle_in}
use Rattle.q_core.specs.State.{State}
use Rattle.q_core.specs.View.{state_of}
use Rattle.q_pool.specs.declared.kept.Kept.{Kept}
use Rattle.q_core.proofs.state.Core.first_idle.Goals as goal

pub returns-in-Some : goal.returns-in-Some
returns-in-Some c =
    let a = c.self.inside in
    let t = c.self.invariant.0 in
    let held : IsHeld (state_of a) a.admitted.items = record { admitted = refl; apart = c.stand_apart.ensures.apart; waiting = t.waiting; flights = t.flights; unsettled = t.unsettled } in
    ap (option_map (λ (k : Kept). k.slot)) (ap option_copied (sym c.in-Some.is) ∙ c.first_idle.ensures) ∙ sym (first_idle_held (state_of a) a.admitted.items held)
    ∙ ap (λ (s : State). find (λ x. is_idle_in s x.id) s.admitted) c.self.view_is

pub returns-in-None : goal.returns-in-None
returns-in-None c =
    let a = c.self.inside in
    let t = c.self.invariant.0 in
    let held : IsHeld (state_of a) a.admitted.items = record { admitted = refl; apart = c.stand_apart.ensures.apart; waiting = t.waiting; flights = t.flights; unsettled = t.unsettled } in
    ap (option_map (λ (k : Kept). k.slot)) (ap option_copied (sym c.in-None.is) ∙ c.first_idle.ensures) ∙ sym (first_idle_held (state_of a) a.admitted.items held)
    ∙ ap (λ (s : State). find (λ x. is_idle_in s x.id) s.admitted) c.self.view_is
