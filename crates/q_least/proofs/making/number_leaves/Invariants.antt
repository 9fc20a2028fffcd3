use Rattle.std.proofs.Common.{◌≡◌, ◌*◌, ◌++◌, drop, length, replicate}
use Rattle.q_least.specs.Keys.{no_key}
use Rattle.q_least.specs.Trees.{leaf_keys}
use Rattle.q_least.proofs.Made.{AreNumberedBelow}
use Rattle.q_least.proofs.making.number_leaves.Given as goal

abbrev pub invariant-loop-number : goal.invariant-loop-number
invariant-loop-number l = record {
  len : length l.tree.items ≡ 2 * l.leaves;
  keys : leaf_keys l.leaves l.tree.items ≡ replicate l.number no_key ++ drop l.number (leaf_keys l.leaves l.initial.tree.items);
  numbered : AreNumberedBelow l.number l.leaves l.tree.items;
}
