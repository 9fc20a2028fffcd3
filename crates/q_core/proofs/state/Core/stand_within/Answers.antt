use Rattle.std.proofs.Common.{◌≡◌, subst, true}
use Rattle.std.specs.List.{list_all}
use Rattle.q_core.specs.Facts.{IsSeenDated}
use Rattle.q_core.specs.Rooms.{is_loggable}
use Rattle.q_core.specs.State.{State}
use Rattle.q_core.proofs.state.Core.stand_within.Goals as goal

pub returns-clause-codes : goal.returns-clause-codes
returns-clause-codes c = subst (λ (s : State). list_all is_loggable s.unsettled ≡ true) c.self.view_is c.self.invariant.6.codes

pub returns-clause-dated : goal.returns-clause-dated
returns-clause-dated c = subst (λ (s : State). IsSeenDated s.deferred) c.self.view_is c.self.invariant.6.dated
