use Rattle.std.proofs.Common.{◌≤◌, ◌<◌, ◌*◌, ℕ}
use Rattle.q_shape.specs.Buckets.{limit_of}
use Rattle.q_shape.proofs.buckets.bucket_of.Given as goal

abbrev pub invariant-loop-bucket : goal.invariant-loop-bucket
invariant-loop-bucket l = record { reached : (j : ℕ) → j < l.bucket → 60 * limit_of l.options j ≤ l.age }
