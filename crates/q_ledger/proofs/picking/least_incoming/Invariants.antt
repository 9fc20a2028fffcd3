use Rattle.std.proofs.Common.{◌≡◌, ◌≤◌, drop, length}
use Rattle.std.specs.Prelude.{filter_map}
use Rattle.q_model.specs.Ids.{id_before}
use Rattle.q_model.specs.Lists.{least}
use Rattle.q_ledger.specs.Picks.{incoming_id}
use Rattle.q_ledger.proofs.picking.least_incoming.Given as goal

abbrev pub invariant-loop-i : goal.invariant-loop-i
invariant-loop-i l = (l.least ≡ least id_before (filter_map incoming_id (drop l.i l.messages))) × (l.i ≤ length l.messages)

abbrev pub decreases-loop-i : goal.decreases-loop-i
decreases-loop-i l = l.i
