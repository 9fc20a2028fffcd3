use Rattle.std.proofs.Common.{◌≡◌, ◌+◌, length}
use Rattle.q_keyed.specs.Numbered.{AreApart, values_of}
use Rattle.q_rounds.proofs.NumberedWalk.{from_on, StandsIn}
use Rattle.q_schedule.specs.Ranking.{anew, anew_from}
use Rattle.q_schedule.specs.Sound.{AreKept}
use Rattle.q_turns.specs.Suspending.{AreTied}
use Rattle.q_schedule.proofs.ranking.rank_anew.Given as goal

-- those from here on are to be ranked
abbrev pub invariant-loop-at : goal.invariant-loop-at
invariant-loop-at l = record {
  room : l.candidates.room ≡ l.fn.candidates.room;
  tied : AreTied l.turns.suspended l.candidates.suspended;
  kept : AreKept l.turns.lines l.turns.peers (values_of l.messages.items) l.stale l.candidates.items;
  same : l.messages.room ≡ l.fn.messages.room;
  apart : AreApart l.messages.items;
  stood : StandsIn l.messages.items l.at;
  items : anew_from l.rank l.at l.messages.items ≡ anew 0 l.fn.messages.items;
  count : l.rank + length (from_on l.at l.messages.items) ≡ length l.fn.messages.items;
}

abbrev pub decreases-loop-at : goal.decreases-loop-at
decreases-loop-at l = length (from_on l.at l.messages.items)
