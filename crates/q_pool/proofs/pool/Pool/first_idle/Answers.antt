use Rattle.std.proofs.Common.{ap, ◌∙◌, sym}
use Rattle.std.specs.Option.{option_copied}
use Rattle.q_pool.proofs.ListLaws.{first_idle_one}
use Rattle.q_pool.proofs.pool.Pool.first_idle.Goals as goal

pub returns-in-None : goal.returns-in-None
returns-in-None c = c.first_within-in-None.ensures ∙ first_idle_one c.args.self.now.sync_limit c.args.self.now.minimum c.args.self.now.items (sym c.first_within.ensures ∙ ap option_copied c.in-None.is)
