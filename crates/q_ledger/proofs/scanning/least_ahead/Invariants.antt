use Rattle.std.proofs.Common.{◌≡◌, ◌≤◌, drop, length}
use Rattle.std.specs.Prelude.{filter_map}
use Rattle.q_model.specs.Lists.{least}
use Rattle.q_model.specs.Scans.{name_before}
use Rattle.q_ledger.specs.Picks.{name_ahead}
use Rattle.q_ledger.proofs.scanning.least_ahead.Given as goal

abbrev pub invariant-loop-i : goal.invariant-loop-i
invariant-loop-i l = (l.least ≡ least name_before (filter_map (name_ahead l.scan) (drop l.i l.messages))) × (l.i ≤ length l.messages)

abbrev pub decreases-loop-i : goal.decreases-loop-i
decreases-loop-i l = l.i
