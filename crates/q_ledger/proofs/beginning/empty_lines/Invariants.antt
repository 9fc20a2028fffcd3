use Rattle.std.proofs.Common.{◌≡◌, [], replicate}
use Rattle.q_ledger.proofs.beginning.empty_lines.Given as goal

abbrev pub invariant-loop-i : goal.invariant-loop-i
invariant-loop-i l = l.lines.items ≡ replicate l._i []
