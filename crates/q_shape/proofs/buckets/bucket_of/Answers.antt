use Rattle.std.proofs.Common.{arith, inl, inr, rules}
use Rattle.q_shape.proofs.BucketLaws.{alone}
use Rattle.q_shape.proofs.buckets.bucket_of.Goals as goal

pub returns-then-age-limit_of-clause-alone : goal.returns-then-age-limit_of-clause-alone
returns-then-age-limit_of-clause-alone c = alone c.args.options.now c.args.age c.loop-bucket.bucket (record {
  there = search (rules, arith);
  reached = c.loop-bucket.invariant.reached;
  below = inr (search (rules, arith));
})

pub returns-clause-alone : goal.returns-clause-alone
returns-clause-alone c = alone c.args.options.now c.args.age _ (record {
  there = omega (arith, c.requires.some);
  reached = λ j less. c.loop-bucket.invariant.reached j (omega (arith, less, c.loop-bucket-test.false));
  below = inl (omega (arith, c.requires.some));
})
