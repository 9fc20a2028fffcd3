use Rattle.std.proofs.Common.{◌≡◌, ◌≤◌, drop, length, ℕ}
use Rattle.std.specs.BTreeMap.{get}
use Rattle.std.specs.Ordering.{nat_cmp}
use Rattle.q_show.specs.States.{failed_or}
use Rattle.q_show.proofs.states.add_failures.Given as goal

abbrev pub invariant-loop-left : goal.invariant-loop-left
invariant-loop-left l = record {
  within : l.left ≤ length l.failures;
  states : (q : ℕ) → get nat_cmp l.states q ≡ failed_or (drop l.left l.failures) (get nat_cmp l.fn.states q) q;
}

abbrev pub decreases-loop-left : goal.decreases-loop-left
decreases-loop-left l = l.left
