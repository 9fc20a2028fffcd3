use Rattle.std.proofs.Common.{◌≡◌, ◌++◌, take}
use Rattle.std.specs.Prelude.{flat_map}
use Rattle.q_check.specs.Checks.{bad_line}
use Rattle.q_check.proofs.lines.add_bad_lines.Given as goal

abbrev pub invariant-loop-line : goal.invariant-loop-line
invariant-loop-line l = record {
  added : l.text.items ≡ l.fn.text.items ++ flat_map (bad_line l.file) (take l.line-index l.lines);
}
