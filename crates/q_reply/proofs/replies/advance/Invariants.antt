use Rattle.std.proofs.Common.{◌+◌, ◌≤◌}
use Rattle.q_smtp.specs.Replies.{Part}
use Rattle.q_reply.specs.Progress.{room_of, Shows}
use Rattle.q_reply.proofs.Feeding.{Reached}
use Rattle.q_reply.proofs.replies.advance.Given as goal

abbrev pub invariant-loop-i : goal.invariant-loop-i
invariant-loop-i l = record { reached : (p : Part) → Shows p l.fn.progress → Reached p l.bytes l.i l.progress; room : l.i + room_of l.progress ≤ room_of l.fn.progress }
