use Rattle.std.proofs.Common.{◌≡◌, ◌≤◌, max}
use Rattle.q_model.specs.Batches.{load_rows}
use Rattle.q_ledger.specs.Worlds.{world_of}
use Rattle.q_ledger.proofs.batches.load_rows.Given as goal

abbrev pub invariant-loop-position : goal.invariant-loop-position
invariant-loop-position l = record {
  near : l.position ≤ max l.from l.to;
  rows : l.rows.items ≡ load_rows (world_of l.world) l.message l.from l.position;
}
