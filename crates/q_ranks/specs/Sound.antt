-- What always holds of a ranked order.
use Rattle.std.specs.Prelude.{◌≡◌, ◌<◌, ◌^◌, [], get_or, length, List, ℕ}
use Rattle.q_chains.specs.Lists.{Lists}
use Rattle.q_ranks.specs.Ranking.{AreLow, Rises}

pub record IsSound (order : Lists) (ranks : List ℕ) (numbers : ℕ) : Type 0 where
  pub one : length order.lists ≡ 1
  pub known : order.numbers ≡ numbers
  pub each : length ranks ≡ numbers
  pub few : numbers < 2 ^ 31
  pub low : AreLow ranks
  pub rises : Rises ranks (get_or order.lists 0 [])
