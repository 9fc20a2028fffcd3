use Rattle.std.proofs.Common.{◌≡◌, ◌≤◌, ◌-◌, slice_get}
use Rattle.q_ledger.specs.Pending.{is_open, positions_behind}
use Rattle.q_ledger.proofs.batches.load_end.Given as goal

abbrev pub invariant-loop-position : goal.invariant-loop-position
invariant-loop-position l = record {
  some : 1 ≤ l.left;
  same : slice_get (positions_behind l.message (is_open l.message) l.from) (l.free - 1) ≡ slice_get (positions_behind l.message (is_open l.message) l.position) (l.left - 1);
}
