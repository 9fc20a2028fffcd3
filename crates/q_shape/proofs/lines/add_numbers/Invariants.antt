use Rattle.std.proofs.Common.{◌≡◌, ◌++◌, flat_map, List}
use Rattle.std.specs.List.{range_with_len}
use Rattle.q_shape.specs.Counted.{AreNumbers}
use Rattle.q_shape.specs.Counts.{Count, in_bucket, total}
use Rattle.q_shape.specs.Tables.{cell}
use Rattle.q_shape.proofs.lines.add_numbers.Given as goal

abbrev pub invariant-loop-bucket : goal.invariant-loop-bucket
invariant-loop-bucket l = record {
  text : (cs : List Count) → AreNumbers l.options l.numbers cs → l.text.items ≡ l.fn.text.items ++ flat_map (λ i. cell (total (in_bucket l.options i cs))) (range_with_len 0 l.bucket);
}
