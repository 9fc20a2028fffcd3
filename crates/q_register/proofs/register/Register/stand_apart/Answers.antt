use Rattle.std.proofs.Common.{subst}
use Rattle.q_register.specs.Members.{AreApart, Members}
use Rattle.q_register.proofs.Gathered.{apart_members}
use Rattle.q_register.proofs.Indexing.{apart}
use Rattle.q_register.proofs.register.Register.stand_apart.Goals as goal

pub returns-clause-apart : goal.returns-clause-apart
returns-clause-apart g c =
    let eq = g.K.PartialEq.eq in
    let places = c.self.inside.places.items in
    subst (λ (s : Members g.row.K.Denot g.row.T.Denot). AreApart eq s.items) c.self.view_is (apart_members eq places (apart eq g.met.K.Eq.laws places c.self.inside.index c.self.invariant.placed.indexed))
