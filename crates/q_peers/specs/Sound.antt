-- What always holds of the rows that wait.
use Rattle.std.specs.Option.{is_some}
use Rattle.std.specs.Prelude.{◌≡◌, ◌≤◌, ◌<◌, ◌+◌, ◌^◌, [], filter, get_or, length, List, None, Option, ℕ}
use Rattle.q_chains.specs.Lists.{is_in, Lists}
use Rattle.q_model.specs.declared.rows.Row.{Row}
use Rattle.q_peers.specs.Buckets.{peer_key, site_key}
use Rattle.q_chains.specs.Slots.{is_in_bucket, passes}

-- the numbers of rows that wait stand in the buckets of their rows, in the same order
pub record AreFiled (key : Row → ℕ) (rows : List (Option Row)) (waiting : List ℕ) (room : ℕ)
    (buckets : Lists) : Type 0 where
  pub numbers : buckets.numbers ≡ room
  pub count : length buckets.lists ≡ room
  pub each : (b : ℕ) → b < room
      → get_or buckets.lists b [] ≡ filter (passes (is_in_bucket key room b) rows) waiting

-- of the two lists in `order` one has the numbers of rows that wait, and the other the free ones
pub record IsSound (rows : List (Option Row)) (order peers sites : Lists) (live room : ℕ)
    : Type 0 where
  pub some : 1 ≤ room
  pub few : room < 2 ^ 30
  pub slots : length rows ≡ room
  pub two : length order.lists ≡ 2
  pub known : order.numbers ≡ room
  pub filled : (n : ℕ) → is_in n (get_or order.lists 0 []) ≡ is_some (get_or rows n None)
  pub all : length (get_or order.lists 0 []) + length (get_or order.lists 1 []) ≡ room
  pub count : live ≡ length (get_or order.lists 0 [])
  pub by_peer : AreFiled peer_key rows (get_or order.lists 0 []) room peers
  pub by_site : AreFiled site_key rows (get_or order.lists 0 []) room sites
