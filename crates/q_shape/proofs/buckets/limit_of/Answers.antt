use Rattle.std.proofs.Common.{arith, rules}
use Rattle.q_shape.proofs.BucketLaws.{small_limit}
use Rattle.q_shape.proofs.buckets.limit_of.Goals as goal

pub returns-else-options-clause-small : goal.returns-else-options-clause-small
returns-else-options-clause-small c = small_limit c.from-minutes.result c.args.bucket c.pow.result (search (rules, arith)) c.requires.few (search rules)
