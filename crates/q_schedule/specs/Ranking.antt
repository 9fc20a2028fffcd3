-- How all messages are ranked anew.
use Rattle.std.specs.Prelude.{◌+◌, ◌==◌, [], ◌∷◌, if◌then◌else◌, List, map, None, Option, Some, ℕ}
use Rattle.q_keyed.specs.Numbered.{Numbered}
use Rattle.q_schedule.specs.declared.ranked.Ranked.{Ranked}

abbrev pub with_rank : ℕ → Numbered Ranked → Numbered Ranked
with_rank rank k = record k { item = record k.item { rank = rank } }

-- the message of this number has another rank
abbrev pub ranked_at : ℕ → ℕ → List (Numbered Ranked) → List (Numbered Ranked)
ranked_at n rank ks = map (λ k. if k.number == n then with_rank rank k else k) ks

-- the ranks rise by 1 from this one on
abbrev pub anew : ℕ → List (Numbered Ranked) → List (Numbered Ranked)
anew rank [] = []
anew rank (k ∷ ks) = with_rank rank k ∷ anew (rank + 1) ks

-- so do those of the message of this number and of those behind it
abbrev pub anew_from : ℕ → Option ℕ → List (Numbered Ranked) → List (Numbered Ranked)
anew_from rank None ks = ks
anew_from rank (Some n) [] = []
anew_from rank (Some n) (k ∷ ks) =
    if k.number == n then anew rank (k ∷ ks) else k ∷ anew_from rank (Some n) ks
