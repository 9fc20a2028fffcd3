use Rattle.std.proofs.Common.{◌≡◌, None, take}
use Rattle.q_files.proofs.PlaceReads.{has}
use Rattle.q_files.proofs.places.offset_in.Given as goal

abbrev pub invariant-loop-i : goal.invariant-loop-i
invariant-loop-i l = has l.position (take l.i l.batch.items) ≡ None
