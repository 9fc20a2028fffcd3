use Rattle.std.proofs.Common.{◌≡◌, ◌++◌}
use Rattle.q_check.specs.Faults.{faults}
use Rattle.q_check.proofs.conf_faults.faults.Given as goal

-- the lines so far and those that are left are all
abbrev pub invariant-loop-left : goal.invariant-loop-left
invariant-loop-left l = record {
  all : l.lines.items ++ faults l.file l.left l.rest.items ≡ faults l.file 100 l.bytes;
}

abbrev pub decreases-loop-left : goal.decreases-loop-left
decreases-loop-left l = l.left
