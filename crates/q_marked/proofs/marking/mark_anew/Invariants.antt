use Rattle.std.proofs.Common.{◌≡◌, cond, get_or, length, ℕ}
use Rattle.std.specs.Prelude.{nat_lt}
use Rattle.q_marked.specs.Sound.{ranked_key}
use Rattle.q_marked.proofs.marking.mark_anew.Given as goal

-- the numbers before this one are ranked anew
abbrev pub invariant-loop-number : goal.invariant-loop-number
invariant-loop-number l =
    (length l.keys ≡ l.numbers)
    × ((n : ℕ) → get_or l.keys n 0 ≡ cond (nat_lt n l.number) (ranked_key l.order.ranks n (get_or l.initial.keys n 0)) (get_or l.initial.keys n 0))
