use Rattle.std.proofs.Common.{subst}
use Rattle.q_turns.proofs.PeerLaws.{apart_peers}
use Rattle.q_turns.specs.Turns.{AreApart, Turning}
use Rattle.q_turns.proofs.turns.Turns.stand_apart.Goals as goal

pub returns-clause-apart : goal.returns-clause-apart
returns-clause-apart c = subst (λ (t : Turning). AreApart t.peers) c.self.view_is (apart_peers c.self.inside.peers.items c.stand_apart.ensures.keys)
