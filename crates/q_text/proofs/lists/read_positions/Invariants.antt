use Rattle.std.proofs.Common.{length}
use Rattle.q_numbers.specs.Numbers.{number32_of}
use Rattle.q_text.proofs.WordLists.{IsListed}
use Rattle.q_text.proofs.lists.read_positions.Given as goal

abbrev pub invariant-loop-position : goal.invariant-loop-position
invariant-loop-position l = IsListed number32_of l.text l.list l.rest

abbrev pub decreases-loop-position : goal.decreases-loop-position
decreases-loop-position l = length l.rest
