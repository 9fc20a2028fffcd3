use Rattle.std.proofs.Common.{◌≡◌, ◌++◌, drop}
use Rattle.q_check.specs.Faults.{blanked}
use Rattle.q_check.proofs.conf_faults.blanked.Given as goal

-- what is made so far and what is left are the whole
abbrev pub invariant-loop-byte : goal.invariant-loop-byte
invariant-loop-byte l = record {
  whole : l.text.items ++ blanked l.left (drop l.byte-index l.bytes) ≡ blanked l.line l.bytes;
}
