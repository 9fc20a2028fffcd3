use Rattle.std.proofs.Common.{length, ◌-◌}
use Rattle.q_content.proofs.FrontLaws.{IsSent}
use Rattle.q_content.proofs.encoding.encode.Given as goal

abbrev pub invariant-loop-from : goal.invariant-loop-from
invariant-loop-from l = IsSent l.fn.line l.piece l.out l.behind l.from l.count

abbrev pub decreases-loop-from : goal.decreases-loop-from
decreases-loop-from l = length l.piece - l.from
