-- What always holds of an order and of the keys of its numbers.
use Rattle.std.specs.Prelude.{◌≡◌, ◌<◌, Bool, get_or, if◌then◌else◌, length, List, map, nat_lt, true, ℕ}
use Rattle.q_chains.specs.Lists.{is_in}
use Rattle.q_least.specs.Keys.{no_key}
use Rattle.q_ranks.specs.Ranking.{Ranking}

-- a number has a key
abbrev pub is_keyed : ℕ → Bool
is_keyed key = nat_lt key no_key

abbrev pub are_keyed : List ℕ → List Bool
are_keyed keys = map is_keyed keys

-- the key of a number that is ranked anew, where it has one
abbrev pub ranked_key : List ℕ → ℕ → ℕ → ℕ
ranked_key ranks n key = if is_keyed key then get_or ranks n 0 else key

-- a number with a key stands in the order, and its key is its rank
pub record HasRank (order ranks keys : List ℕ) (n : ℕ) : Type 0 where
  pub there : is_in n order ≡ true
  pub rank : get_or keys n 0 ≡ get_or ranks n 0

pub record IsSound (order : Ranking) (keys : List ℕ) (numbers : ℕ) : Type 0 where
  pub known : order.numbers ≡ numbers
  pub each : length keys ≡ numbers
  pub ranked : (n : ℕ) → n < numbers → is_keyed (get_or keys n 0) ≡ true
      → HasRank order.order order.ranks keys n
