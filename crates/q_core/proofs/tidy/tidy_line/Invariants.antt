use Rattle.std.proofs.Common.{◌≡◌, length}
use Rattle.q_core.specs.Tidied.{tidied_jobs}
use Rattle.q_pool.specs.Kept.{heads}
use Rattle.q_held.specs.Held.{rows_of}
use Rattle.q_turns.specs.Turns.{line_at, with_line}
use Rattle.q_core.proofs.tidy.tidy_line.Given as goal

abbrev pub decreases-loop-id : goal.decreases-loop-id
decreases-loop-id l = length (line_at l.transport l.schedule.lines)

abbrev pub invariant-loop-id : goal.invariant-loop-id
invariant-loop-id l =
    record l.schedule { lines = with_line l.transport (tidied_jobs (heads l.admitted.items) (rows_of l.waiting.items) l.transport) l.schedule.lines }
    ≡ record l.initial.schedule { lines = with_line l.transport (tidied_jobs (heads l.admitted.items) (rows_of l.waiting.items) l.transport) l.initial.schedule.lines }
