-- one for each turn
use Rattle.std.proofs.Common.{◌≡◌, ◌+◌, ◌≤◌, length, vec_capacity}
use Rattle.q_sorted.proofs.blocks.empty_blocks.Given as goal

abbrev pub invariant-loop : goal.invariant-loop
invariant-loop l = record {
  made : length l.made.items ≡ l.counter;
  room : l.count + 1 ≤ vec_capacity l.made;
}
