use Rattle.std.proofs.Common.{◌≡◌, ◌≤◌, drop, length}
use Rattle.std.specs.Option.{option_copied}
use Rattle.std.specs.Prelude.{filter}
use Rattle.q_model.specs.Choice.{started_before}
use Rattle.q_model.specs.Lists.{least}
use Rattle.q_ledger.specs.Spaces.{is_startable_of}
use Rattle.q_ledger.specs.Worlds.{world_of}
use Rattle.q_ledger.proofs.ledger.Ledger.next_among.Given as goal

abbrev pub invariant-loop-i : goal.invariant-loop-i
invariant-loop-i l = (option_copied l.next ≡ least (started_before l.fn.self.ledger) (filter (is_startable_of (world_of l.world) l.fn.self.ledger l.transport l.id) (drop l.i l.rows))) × (l.i ≤ length l.rows)

abbrev pub decreases-loop-i : goal.decreases-loop-i
decreases-loop-i l = l.i
