use Rattle.std.proofs.Common.{◌≡◌, ◌++◌, replicate}
use Rattle.q_shape.proofs.cells.add_spaces.Given as goal

abbrev pub invariant-loop : goal.invariant-loop
invariant-loop l = record { text : l.text.items ≡ l.fn.text.items ++ replicate l.counter 32 }
