use Rattle.q_places.specs.Kept.{AddsMarks}
use Rattle.q_places.proofs.places.keep_marks.Given as goal

-- each offset was there before, or is that of one of the recipients so far
abbrev pub invariant-loop-i : goal.invariant-loop-i
invariant-loop-i l = AddsMarks l.taken.items l.fn.marks l.marks
