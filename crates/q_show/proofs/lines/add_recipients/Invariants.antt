use Rattle.std.proofs.Common.{◌≡◌, ◌++◌, flat_map}
use Rattle.std.specs.List.{range_with_len}
use Rattle.q_show.specs.Lines.{line_at}
use Rattle.q_show.proofs.lines.add_recipients.Given as goal

abbrev pub invariant-loop-position : goal.invariant-loop-position
invariant-loop-position l = record {
  text : l.text.items ≡ l.fn.text.items ++ flat_map (line_at l.names l.states) (range_with_len 0 l.position);
}
