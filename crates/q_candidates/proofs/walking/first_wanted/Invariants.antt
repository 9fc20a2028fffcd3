use Rattle.std.proofs.Common.{false, List, ℕ}
use Rattle.q_keyed.specs.Numbered.{Numbered}
use Rattle.q_candidates.specs.declared.candidate.Candidate.{Candidate}
use Rattle.q_candidates.specs.declared.lane.Lane.{Lane}
use Rattle.q_candidates.specs.Filing.{class_for}
use Rattle.q_candidates.specs.Walking.{AreOrdered, AreShut}
use Rattle.q_candidates.proofs.ClassWalk.{AtHead, heads_left, InWalk}
use Rattle.q_candidates.proofs.walking.first_wanted.Given as goal

abbrev pub decreases-loop-at : goal.decreases-loop-at
decreases-loop-at l = heads_left (class_for false l.wanted.transport l.wanted.need) l.heads l.at

-- it stands at a head, and what is found is the nearest of all that it came by
abbrev pub invariant-loop-at : goal.invariant-loop-at
invariant-loop-at l = record {
  head : AtHead (class_for false l.wanted.transport l.wanted.need) l.heads l.at;
  walk : (key : Candidate → ℕ) (lanes : List (Numbered Lane)) → AreOrdered key lanes l.candidates.items l.heads
      → AreShut l.sites.items lanes → InWalk key lanes l.candidates.items l.heads l.sites.items l.wanted l.found l.at;
}
