use Rattle.std.proofs.Common.{◌++◌, ◌+◌, ◌-◌, ◌≡◌, ◌≤◌}
use Rattle.std.specs.Prelude.{length, option_map}
use Rattle.q_input.proofs.reading.read_all.Given as goal

abbrev pub invariant-loop-count : goal.invariant-loop-count
invariant-loop-count g l = record {
  read : g.S.Source.left l.fn.source ≡ option_map (λ rest. l.bytes.items ++ rest) (g.S.Source.left l.source);
  few : length l.bytes.items ≤ l.fn.most;
  faultless : g.S.Source.faults l.source ≡ g.S.Source.faults l.fn.source;
}

-- each piece leaves fewer bytes to come to, up to the bound
abbrev pub decreases-loop-count : goal.decreases-loop-count
decreases-loop-count g l = l.fn.most + 1 - length l.bytes.items
