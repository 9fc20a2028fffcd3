use Rattle.std.proofs.Common.{◌≡◌, take}
use Rattle.q_engine.specs.Delays.{notes_for}
use Rattle.q_engine.proofs.noting.reply_notes.Given as goal

abbrev pub invariant-loop-i : goal.invariant-loop-i
invariant-loop-i l = l.notes ≡ notes_for (take l.i l.positions) (take l.i l.outcomes)
