use Rattle.std.proofs.Common.{None, Some, refl}
use Rattle.q_transport.proofs.RouteLaws.{decided}
use Rattle.q_transport.proofs.lookup.deciding.Goals as goal

pub returns-in-Some-by_domain-clause-exact : goal.returns-in-Some-by_domain-clause-exact
returns-in-Some-by_domain-clause-exact c =
    let host = rw c.bytes-domain.ensures.same at c.in-Some-by_domain.ensures in
    decided c.args.entries.now c.args.address.now c.args.domain.now None (Some c.in-Some-by_domain.found.now) _ c.requires c.in_default.ensures host refl

pub returns-clause-exact : goal.returns-clause-exact
returns-clause-exact c =
    let host = rw c.bytes-domain.ensures.same at c.in_default-by_domain.ensures in
    decided c.args.entries.now c.args.address.now c.args.domain.now None None _ c.requires c.in_default.ensures host c.get.ensures
