use Rattle.std.proofs.Common.{◌≡◌, take, drop, length}
use Rattle.q_mem_host.specs.Data.{table}
use Rattle.q_mem_host.specs.Order.{InOrder}
use Rattle.q_mem_host.proofs.Crashes.{fall_of}
use Rattle.q_mem_host.proofs.placed_files.fall_all.Given as goal

abbrev pub invariant-loop-i : goal.invariant-loop-i
invariant-loop-i l = record {
  done : table (take l.i l.files.items) ≡ fall_of l.choice (table (take l.i l.fn.files.items));
  left : drop l.i l.files.items ≡ drop l.i l.fn.files.items;
  long : length l.files.items ≡ length l.fn.files.items;
  order : InOrder l.files.items;
}
