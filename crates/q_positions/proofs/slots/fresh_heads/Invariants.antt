use Rattle.std.proofs.Common.{◌≡◌, ◌≤◌, None, replicate, vec_capacity}
use Rattle.q_positions.proofs.slots.fresh_heads.Given as goal

abbrev pub invariant-loop : goal.invariant-loop
invariant-loop l = record {
  items : l.heads.items ≡ replicate l.counter None;
  capacity : l.room ≤ vec_capacity l.heads;
}
