use Rattle.std.proofs.Common.{◌≡◌, ◌<◌, ◌+◌, [], get_or, length, false, ℕ}
use Rattle.q_chains.specs.Lists.{stands}
use Rattle.q_keyed.proofs.slots.fresh_order.Given as goal

-- so many numbers are free, and the lesser ones stand nowhere yet
abbrev pub invariant-loop-used : goal.invariant-loop-used
invariant-loop-used l = record {
  two : length l.order.lists ≡ 2;
  numbers : l.order.numbers ≡ l.room;
  none : get_or l.order.lists 0 [] ≡ [];
  all : length (get_or l.order.lists 1 []) ≡ l.used;
  lesser : (n : ℕ) → n + l.used < l.room → stands n l.order.lists ≡ false;
}
