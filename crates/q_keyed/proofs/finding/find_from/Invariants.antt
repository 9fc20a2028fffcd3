use Rattle.std.proofs.Common.{◌≡◌, length, true}
use Rattle.std.specs.Prelude.{find, IfSome}
use Rattle.q_chains.specs.Lists.{stands}
use Rattle.q_chains.specs.Onward.{from_on}
use Rattle.q_chains.specs.Slots.{passes}
use Rattle.q_keyed.proofs.finding.find_from.Given as goal

abbrev pub decreases-loop-at : goal.decreases-loop-at
decreases-loop-at g l = length (from_on l.at l.lists.lists)

-- what is found from here on is what is found
abbrev pub invariant-loop-at : goal.invariant-loop-at
invariant-loop-at g l = record {
  there : IfSome l.at (λ n. stands n l.lists.lists ≡ true);
  rest : find (passes (λ t. g.T.HasKey.eq (g.T.HasKey.key_of t) l.key) l.items.items) (from_on l.at l.lists.lists)
      ≡ find (passes (λ t. g.T.HasKey.eq (g.T.HasKey.key_of t) l.key) l.items.items) (from_on l.fn.from l.lists.lists);
}
