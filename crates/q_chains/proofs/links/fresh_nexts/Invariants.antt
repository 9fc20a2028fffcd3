use Rattle.std.proofs.Common.{◌≡◌, ◌<◌, get_or, length, vec_capacity, ℕ}
use Rattle.q_chains.specs.Laid.{fresh_next}
use Rattle.q_chains.proofs.links.fresh_nexts.Given as goal

-- the places so far
abbrev pub invariant-loop-place : goal.invariant-loop-place
invariant-loop-place l = record {
  count : length l.next.items ≡ l.place;
  capacity : vec_capacity l.next ≡ l.count;
  led : (p : ℕ) → p < l.place → get_or l.next.items p 0 ≡ fresh_next l.numbers l.last p;
}
