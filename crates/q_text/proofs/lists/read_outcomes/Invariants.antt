use Rattle.std.proofs.Common.{length}
use Rattle.q_text.specs.ValueTexts.{outcome_of}
use Rattle.q_text.proofs.WordLists.{IsListed}
use Rattle.q_text.proofs.lists.read_outcomes.Given as goal

abbrev pub invariant-loop-outcome : goal.invariant-loop-outcome
invariant-loop-outcome l = IsListed (outcome_of l.state) l.text l.list l.rest

abbrev pub decreases-loop-outcome : goal.decreases-loop-outcome
decreases-loop-outcome l = length l.rest
