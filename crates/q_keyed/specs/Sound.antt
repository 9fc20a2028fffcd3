-- What always holds of items that are kept by number and by key.
use Rattle.std.specs.Option.{is_some}
use Rattle.std.specs.Prelude.{◌≡◌, ◌≤◌, ◌<◌, ◌+◌, ◌^◌, [], Bool, get_or, length, List, None, Option, Some, true, ℕ}
use Rattle.q_chains.specs.Lists.{is_in, Lists}
use Rattle.q_chains.specs.Slots.{is_in_bucket, passes}

module _ {T : Type 0} where
  -- the number of each item stands in the bucket of its key, and no other number in a bucket
  pub record AreFiled (hash : T → ℕ) (items : List (Option T)) (room : ℕ) (buckets : Lists)
      : Type 0 where
    pub numbers : buckets.numbers ≡ room
    pub count : length buckets.lists ≡ room
    pub each : (b n : ℕ) → b < room
        → is_in n (get_or buckets.lists b []) ≡ passes (is_in_bucket hash room b) items n

module _ {K T : Type 0} where
  -- no two items stand under one key
  abbrev pub AreUnlike : (K → K → Bool) → (T → K) → List (Option T) → Type 0
  AreUnlike eq key items = (n m : ℕ) (t u : T) → get_or items n None ≡ Some t
      → get_or items m None ≡ Some u → eq (key t) (key u) ≡ true → n ≡ m

  -- of the two lists in `order` one has the numbers of the items, and the other the free ones
  pub record IsSound (eq : K → K → Bool) (key : T → K) (hash : K → ℕ) (items : List (Option T))
      (order buckets : Lists) (live room : ℕ) : Type 0 where
    pub some : 1 ≤ room
    pub few : room < 2 ^ 30
    pub slots : length items ≤ room
    pub two : length order.lists ≡ 2
    pub known : order.numbers ≡ room
    pub filled : (n : ℕ) → is_in n (get_or order.lists 0 []) ≡ is_some (get_or items n None)
    pub all : length (get_or order.lists 0 []) + length (get_or order.lists 1 []) ≡ room
    pub count : live ≡ length (get_or order.lists 0 [])
    pub filed : AreFiled (λ t. hash (key t)) items room buckets
    pub unlike : AreUnlike eq key items
