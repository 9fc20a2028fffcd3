use Rattle.std.proofs.Common.{length}
use Rattle.q_text.specs.ValueTexts.{plain_of}
use Rattle.q_text.proofs.WordLists.{IsListed}
use Rattle.q_text.proofs.lists.read_addresses.Given as goal

abbrev pub invariant-loop-receiver : goal.invariant-loop-receiver
invariant-loop-receiver l = IsListed plain_of l.text l.list l.rest

abbrev pub decreases-loop-receiver : goal.decreases-loop-receiver
decreases-loop-receiver l = length l.rest
