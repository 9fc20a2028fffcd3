use Rattle.std.proofs.Common.{◌≡◌, ◌++◌, drop, map, take}
use Rattle.q_audit.specs.Tallied.{job_with}
use Rattle.q_audit.proofs.tally.Tallies.count.Given as goal

abbrev pub invariant-loop-job : goal.invariant-loop-job
invariant-loop-job l = l.job-items ≡ map (job_with l.entry) (take l.job-index l.fn.self) ++ drop l.job-index l.fn.self
