use Rattle.std.proofs.Common.{◌∙◌}
use Rattle.q_pool.proofs.ListLaws.{first_sync}
use Rattle.q_pool.proofs.pool.Pool.first_to_sync.Goals as goal

pub returns : goal.returns
returns c = c.first_within.ensures ∙ first_sync c.args.self.now.sync_limit c.args.self.now.minimum c.args.self.now.items
