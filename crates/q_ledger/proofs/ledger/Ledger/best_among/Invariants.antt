use Rattle.std.proofs.Common.{◌≡◌, ◌≤◌, drop, length}
use Rattle.std.specs.Prelude.{filter}
use Rattle.q_model.specs.Lists.{least}
use Rattle.q_ledger.specs.Preempting.{is_better_slot, is_candidate_slot}
use Rattle.q_ledger.proofs.ledger.Ledger.best_among.Given as goal

abbrev pub invariant-loop-i : goal.invariant-loop-i
invariant-loop-i l = (l.best ≡ least (is_better_slot l.fn.self l.transport) (filter (is_candidate_slot l.world l.fn.self l.accounts l.transport l.behind l.parent) (drop l.i l.slots))) × (l.i ≤ length l.slots)

abbrev pub decreases-loop-i : goal.decreases-loop-i
decreases-loop-i l = l.i
