use Rattle.std.proofs.Common.{◌≡◌, find, length}
use Rattle.std.specs.Option.{option_copied}
use Rattle.q_core.specs.Tidied.{leaves_among}
use Rattle.q_jobs.specs.Jobs.{jobs_from}
use Rattle.q_pool.specs.Kept.{heads}
use Rattle.q_held.specs.Held.{rows_of}
use Rattle.q_turns.specs.Turns.{line_at}
use Rattle.q_core.proofs.tidy.first_to_leave.Given as goal

abbrev pub decreases-loop-at : goal.decreases-loop-at
decreases-loop-at l = length (jobs_from (option_copied l.at) (line_at l.transport l.schedule.lines))

-- what is found from here on is what is found
abbrev pub invariant-loop-at : goal.invariant-loop-at
invariant-loop-at l = find (leaves_among (heads l.admitted.items) (rows_of l.waiting.items) l.transport) (jobs_from (option_copied l.at) (line_at l.transport l.schedule.lines))
    ≡ find (leaves_among (heads l.admitted.items) (rows_of l.waiting.items) l.transport) (line_at l.transport l.schedule.lines)
