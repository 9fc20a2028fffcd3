use Rattle.q_super.proofs.DomainTests.{compared_domain}
use Rattle.q_super.proofs.flushing.is_in_domain.Goals as goal

pub returns : goal.returns
returns c = compared_domain c.are_same.result c.split_domain-own.result c.bytes.result.now c.bytes-2.result.now c.args.domain.now c.args.address.now c.split_domain-own.ensures c.bytes.ensures.same c.bytes-2.ensures.same c.are_same.ensures
