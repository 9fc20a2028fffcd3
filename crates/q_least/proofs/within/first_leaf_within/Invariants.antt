use Rattle.std.proofs.Common.{◌-◌, ◌<◌, ◌*◌}
use Rattle.q_least.proofs.Descent.{IsAbove}
use Rattle.q_least.proofs.within.first_leaf_within.Given as goal

abbrev pub invariant-loop-place : goal.invariant-loop-place
invariant-loop-place l = record {
  above : IsAbove l.bound l.leaves l.tree.items l.place;
  inside : l.place < 2 * l.leaves;
}

abbrev pub decreases-loop-place : goal.decreases-loop-place
decreases-loop-place l = l.leaves - l.place
