use Rattle.std.proofs.Common.{◌≡◌, length}
use Rattle.q_held.proofs.Walk.{Walked}
use Rattle.q_held.specs.Sound.{with_marks}
use Rattle.q_peers.proofs.Rests.{rest}
use Rattle.q_peers.specs.Numbered.{is_at}
use Rattle.q_held.proofs.holding.mark_at.Given as goal

abbrev pub decreases-loop-at : goal.decreases-loop-at
decreases-loop-at l = length (rest (is_at l.site) l.at l.waiting.items)

-- the rows to the site that were come by have their marks
abbrev pub invariant-loop-at : goal.invariant-loop-at
invariant-loop-at l = record {
  walked : Walked l.site l.held (with_marks l.initial.marks.marks l.waiting.items) l.at (with_marks l.marks.marks l.waiting.items);
  order : l.marks.order ≡ l.initial.marks.order;
  numbers : l.marks.numbers ≡ l.initial.marks.numbers;
}
