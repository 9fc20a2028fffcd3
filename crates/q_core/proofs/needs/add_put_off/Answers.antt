use Rattle.q_core.proofs.NeedsLaws.{added_none}
use Rattle.q_core.proofs.needs.add_put_off.Goals as goal

pub add_failures-requires : goal.add_failures-requires
add_failures-requires c = c.requires c.if-expired.true

pub returns-else-expired : goal.returns-else-expired
returns-else-expired c = rw c.if-expired.false (added_none c.args.unsettled.now c.args.id c.args.positions.now)
