use Rattle.std.proofs.Common.{◌≡◌, ◌++◌, map, take}
use Rattle.std.specs.Prelude.{decimal, flat_map}
use Rattle.q_model.specs.Text.{spaced}
use Rattle.q_trace.proofs.line.TraceLine.positions.Given as goal

abbrev pub invariant-loop-position : goal.invariant-loop-position
invariant-loop-position l = l.self ≡ l.initial.self ++ flat_map spaced (map decimal (take l.position-index l.positions))
