use Rattle.std.proofs.Common.{◌≡◌}
use Rattle.q_core.specs.Tidied.{tidied_line}
use Rattle.q_pool.specs.Kept.{heads}
use Rattle.q_held.specs.Held.{rows_of}
use Rattle.q_turns.proofs.WithLine.{changed_below}
use Rattle.q_core.proofs.tidy_touched.tidy_message.Given as goal

abbrev pub invariant-loop-transport : goal.invariant-loop-transport
invariant-loop-transport l =
    l.schedule ≡ record l.initial.schedule { lines = changed_below (tidied_line (heads l.admitted.items) (rows_of l.waiting.items)) 0 l.transport l.initial.schedule.lines }
