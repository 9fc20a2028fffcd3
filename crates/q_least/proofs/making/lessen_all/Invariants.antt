use Rattle.std.proofs.Common.{◌≡◌, ◌≤◌, ◌*◌, drop, length}
use Rattle.q_least.proofs.Made.{AreLesserFrom}
use Rattle.q_least.proofs.making.lessen_all.Given as goal

abbrev pub invariant-loop-place : goal.invariant-loop-place
invariant-loop-place l = record {
  within : l.place ≤ l.leaves;
  len : length l.tree.items ≡ 2 * l.leaves;
  lesser : AreLesserFrom l.place l.leaves l.tree.items;
  leaves : drop l.leaves l.tree.items ≡ drop l.leaves l.initial.tree.items;
}

abbrev pub decreases-loop-place : goal.decreases-loop-place
decreases-loop-place l = l.place
