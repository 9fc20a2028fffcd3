use Rattle.std.proofs.Common.{◌≡◌, ◌++◌, flat_map}
use Rattle.std.specs.List.{range_with_len}
use Rattle.q_shape.specs.Buckets.{limit_of}
use Rattle.q_shape.specs.Tables.{cell}
use Rattle.q_shape.proofs.lines.add_limits.Given as goal

abbrev pub invariant-loop-bucket : goal.invariant-loop-bucket
invariant-loop-bucket l = record { text : l.text.items ≡ l.fn.text.items ++ flat_map (λ i. cell (limit_of l.options i)) (range_with_len 0 l.bucket) }
