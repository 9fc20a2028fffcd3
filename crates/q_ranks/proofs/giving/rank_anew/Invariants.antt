use Rattle.std.proofs.Common.{◌≡◌, ◌+◌, ◌*◌, ◌-◌, ◌<◌, [], get_or, length, ℕ}
use Rattle.std.specs.Prelude.{slice_get}
use Rattle.q_ranks.specs.Ranking.{AreLow}
use Rattle.q_ranks.specs.declared.giving.TheConstants.{STEP}
use Rattle.q_ranks.proofs.giving.rank_anew.Given as goal

abbrev pub decreases-loop-at : goal.decreases-loop-at
decreases-loop-at l = length (get_or l.order.lists 0 []) - l.count

-- those so far have their ranks
abbrev pub invariant-loop-at : goal.invariant-loop-at
invariant-loop-at l = record {
  here : l.at ≡ slice_get (get_or l.order.lists 0 []) l.count;
  each : length l.ranks.items ≡ length l.fn.ranks.items;
  low : AreLow l.ranks.items;
  ranked : (j : ℕ) → j < l.count
      → get_or l.ranks.items (get_or (get_or l.order.lists 0 []) j 0) 0 ≡ (j + 1) * STEP;
}
