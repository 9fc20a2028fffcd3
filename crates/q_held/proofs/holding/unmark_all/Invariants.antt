use Rattle.std.proofs.Common.{◌≡◌}
use Rattle.q_held.proofs.Releasing.{marked_count}
use Rattle.q_held.proofs.holding.unmark_all.Given as goal

abbrev pub decreases-loop-number : goal.decreases-loop-number
decreases-loop-number l = marked_count l.marks.marks l.marks.order

abbrev pub invariant-loop-number : goal.invariant-loop-number
invariant-loop-number l = record {
  order : l.marks.order ≡ l.initial.marks.order;
  numbers : l.marks.numbers ≡ l.initial.marks.numbers;
}
