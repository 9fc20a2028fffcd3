use Rattle.std.proofs.Common.{◌*◌, ◌-◌, ◌^◌, ◌≤◌, take}
use Rattle.q_shape.specs.Counts.{total}
use Rattle.q_shape.specs.Rows.{HasCounted}
use Rattle.q_shape.proofs.table.shape.Given as goal

abbrev pub invariant-loop-domain : goal.invariant-loop-domain
invariant-loop-domain l = record {
  counted : HasCounted l.options (take l.domain-index l.counted) l.table;
  few : total (take l.domain-index l.counted) ≤ l.domain-index * (2 ^ 64 - 1);
}
