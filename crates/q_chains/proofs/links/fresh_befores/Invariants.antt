use Rattle.std.proofs.Common.{◌≡◌, ◌<◌, get_or, length, vec_capacity, ℕ}
use Rattle.q_chains.specs.Laid.{fresh_before}
use Rattle.q_chains.proofs.links.fresh_befores.Given as goal

-- the places so far
abbrev pub invariant-loop-place : goal.invariant-loop-place
invariant-loop-place l = record {
  count : length l.before.items ≡ l.place;
  capacity : vec_capacity l.before ≡ l.count;
  led : (p : ℕ) → p < l.place → get_or l.before.items p 0 ≡ fresh_before l.numbers p;
}
