use Rattle.std.proofs.Common.{◌≡◌, ◌≤◌, ◌+◌, ◌*◌, ◌++◌, length, take}
use Rattle.q_notice.specs.NoticeTexts.{named_failures}
use Rattle.q_notice.proofs.failures.add_failures.Given as goal

abbrev pub invariant-loop-i : goal.invariant-loop-i
invariant-loop-i l = record {
  text : l.text.items ≡ l.fn.text.items ++ named_failures (take l.i l.failures) (take l.i l.names);
  short : length l.text.items ≤ length l.fn.text.items + 541 * l.i;
}
