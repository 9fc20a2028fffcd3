use Rattle.q_model.proofs.DomainLaws.{domain_is_hop}
use Rattle.q_model.proofs.address.split_domain.Goals as goal

pub lowered-requires : goal.lowered-requires
lowered-requires c = domain_is_hop c.args.address.now c.bytes.result.now c.domain.result.now c.bytes.ensures.form c.bytes.ensures.same c.domain.ensures.domain c.domain.ensures.short
