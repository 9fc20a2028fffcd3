use Rattle.std.proofs.Common.{◌∙◌, ap, find, option_map, refl, sym}
use Rattle.std.specs.Option.{option_copied}
use Rattle.q_core.proofs.PoolTies.{first_read_held, IsHeld}
use Rattle.q_core.specs.Held.{free_in, may_read_in}
use Rattle.q_core.specs.State.{State}
use Rattle.q_core.specs.View.{state_of}
use Rattle.q_pool.specs.Kept.{may_read}
use Rattle.q_pool.specs.declared.kept.Kept.{Kept}
use Rattle.q_core.proofs.state.Core.first_to_read.Goals as goal

pub returns-in-Some : goal.returns-in-Some
returns-in-Some c =
    let a = c.self.inside in
    let t = c.self.invariant.0 in
    let held : IsHeld (state_of a) a.admitted.items = record { admitted = refl; apart = c.stand_apart.ensures.apart; waiting = t.waiting; flights = t.flights; unsettled = t.unsettled } in
    ap (option_map (λ (k : Kept). k.slot)) (ap option_copied (sym c.in-Some.is) ∙ c.first_to_read.ensures ∙ ap (λ n. find (may_read a.admitted.minimum n) a.admitted.items) (c.free.ensures ∙ ap free_in (sym c.self.view_is)) ∙ ap (λ n. find (may_read n (free_in (state_of a))) a.admitted.items) t.pool.minimum) ∙ sym (first_read_held (state_of a) a.admitted.items held)
    ∙ ap (λ (s : State). find (may_read_in s) s.admitted) c.self.view_is

pub returns-in-None : goal.returns-in-None
returns-in-None c =
    let a = c.self.inside in
    let t = c.self.invariant.0 in
    let held : IsHeld (state_of a) a.admitted.items = record { admitted = refl; apart = c.stand_apart.ensures.apart; waiting = t.waiting; flights = t.flights; unsettled = t.unsettled } in
    ap (option_map (λ (k : Kept). k.slot)) (ap option_copied (sym c.in-None.is) ∙ c.first_to_read.ensures ∙ ap (λ n. find (may_read a.admitted.minimum n) a.admitted.items) (c.free.ensures ∙ ap free_in (sym c.self.view_is)) ∙ ap (λ n. find (may_read n (free_in (state_of a))) a.admitted.items) t.pool.minimum) ∙ sym (first_read_held (state_of a) a.admitted.items held)
    ∙ ap (λ (s : State). find (may_read_in s) s.admitted) c.self.view_is
