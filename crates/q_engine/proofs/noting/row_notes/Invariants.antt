use Rattle.std.proofs.Common.{◌≡◌, map, take}
use Rattle.q_engine.specs.Delays.{row_note}
use Rattle.q_engine.proofs.noting.row_notes.Given as goal

abbrev pub invariant-loop-position : goal.invariant-loop-position
invariant-loop-position l = l.notes ≡ map row_note (take l.position-index l.positions)
