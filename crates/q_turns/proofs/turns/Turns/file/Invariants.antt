use Rattle.std.proofs.Common.{◌≡◌}
use Rattle.q_turns.proofs.FilingLaws.{IsFiledTo}
use Rattle.q_turns.proofs.MessageWalk.{StandsAt, tickets_left}
use Rattle.q_turns.specs.Suspending.{AreTied}
use Rattle.q_turns.proofs.turns.Turns.file.Given as goal

-- the peers that were passed are filed
abbrev pub invariant-loop-at : goal.invariant-loop-at
invariant-loop-at l = record {
  room : l.candidates.room ≡ l.fn.candidates.room;
  tied : AreTied l.self.suspended l.candidates.suspended;
  stood : StandsAt l.self-inside.messages.items l.at;
  filed : IsFiledTo l.id l.self-inside.peers.items l.self.lines l.facts l.at l.fn.candidates.items l.candidates.items;
}

abbrev pub decreases-loop-at : goal.decreases-loop-at
decreases-loop-at l = tickets_left l.self-inside.messages.items l.at
