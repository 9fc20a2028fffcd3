use Rattle.std.proofs.Common.{◌≡◌, ◌≤◌, ◌+◌, ◌-◌, ◌++◌, length, None, replicate, vec_capacity}
use Rattle.q_keyed.proofs.slots.make_place.Given as goal

-- places were added, and none beyond the number
abbrev pub invariant-loop-items : goal.invariant-loop-items
invariant-loop-items g l = record {
  items : l.items.items ≡ l.fn.items.items ++ replicate (length l.items.items - length l.fn.items.items) None;
  more : length l.fn.items.items ≤ length l.items.items;
  few : length l.items.items - length l.fn.items.items ≤ l.number + 1 - length l.fn.items.items;
  capacity : vec_capacity l.items ≡ vec_capacity l.fn.items;
}

abbrev pub decreases-loop-items : goal.decreases-loop-items
decreases-loop-items g l = l.number + 1 - length l.items.items
