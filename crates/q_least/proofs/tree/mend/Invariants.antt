use Rattle.std.proofs.Common.{◌≡◌, ◌<◌, ◌≤◌, ◌*◌, ◌/◌, ◌-◌, drop, length}
use Rattle.q_least.specs.Trees.{AreLesserBut, AreNumbered}
use Rattle.q_least.proofs.tree.mend.Given as goal

abbrev pub invariant-loop-place : goal.invariant-loop-place
invariant-loop-place l = record {
  some : 1 ≤ l.place;
  within : l.place < 2 * l.leaves;
  len : length l.tree.items ≡ 2 * l.leaves;
  lesser : AreLesserBut (l.place / 2) l.leaves l.tree.items;
  numbered : AreNumbered l.leaves l.tree.items;
  leaves : drop l.leaves l.tree.items ≡ drop l.leaves l.initial.tree.items;
}

abbrev pub decreases-loop-place : goal.decreases-loop-place
decreases-loop-place l = l.place - 1
