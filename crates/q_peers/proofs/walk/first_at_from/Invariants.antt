use Rattle.std.proofs.Common.{◌≡◌, length, true}
use Rattle.std.specs.Prelude.{find, IfSome}
use Rattle.q_chains.specs.Lists.{stands}
use Rattle.q_peers.specs.Numbered.{is_at}
use Rattle.q_chains.specs.Onward.{from_on}
use Rattle.q_chains.specs.Slots.{passes}
use Rattle.q_peers.proofs.walk.first_at_from.Given as goal

abbrev pub decreases-loop-at : goal.decreases-loop-at
decreases-loop-at l = length (from_on l.at l.lists.lists)

-- what is found from here on is what is found
abbrev pub invariant-loop-at : goal.invariant-loop-at
invariant-loop-at l = record {
  there : IfSome l.at (λ n. stands n l.lists.lists ≡ true);
  rest : find (passes (is_at l.site) l.rows.rows) (from_on l.at l.lists.lists)
      ≡ find (passes (is_at l.site) l.rows.rows) (from_on l.fn.from l.lists.lists);
}
