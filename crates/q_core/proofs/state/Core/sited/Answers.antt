use Rattle.std.proofs.Common.{arith, subst, sym, true, ◌≡◌}
use Rattle.q_core.proofs.ReadRooms.{name_room}
use Rattle.q_core.specs.Loading.{may_name}
use Rattle.q_core.specs.State.{State}
use Rattle.q_core.proofs.state.Core.sited.Goals as goal

pub push_reserved-requires : goal.push_reserved-requires
push_reserved-requires c =
    let a = c.self.inside in
    let may = subst (λ (s : State). may_name s ≡ true) (sym c.self.view_is) c.requires in
    let fewer = name_room a.params a.question a.named c.self.invariant.6.asked c.self.invariant.6.names may in
    omega (arith, fewer, a.named.ok.0)
