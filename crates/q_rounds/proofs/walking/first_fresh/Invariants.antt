use Rattle.std.proofs.Common.{◌≡◌, [], get_or, length, true}
use Rattle.std.specs.Prelude.{find, IfSome}
use Rattle.q_chains.specs.Lists.{stands}
use Rattle.q_chains.specs.Onward.{from_on}
use Rattle.q_rounds.specs.Listing.{space_in}
use Rattle.q_rounds.proofs.walking.first_fresh.Given as goal

abbrev pub decreases-loop-at : goal.decreases-loop-at
decreases-loop-at l = length (from_on l.at l.fresh.lists)

-- what is found from here on is what is found
abbrev pub invariant-loop-at : goal.invariant-loop-at
invariant-loop-at l = record {
  there : IfSome l.at (λ n. stands n l.fresh.lists ≡ true);
  rest : find (space_in l.sites.items l.peers.items) (from_on l.at l.fresh.lists)
      ≡ find (space_in l.sites.items l.peers.items) (get_or l.fresh.lists l.list []);
}
