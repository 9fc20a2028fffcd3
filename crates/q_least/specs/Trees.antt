-- A tree of keys: the leaves stand behind the inner places, and each of these has the lesser of its two children.
use Rattle.std.specs.Int.{IsPowerOfTwo}
use Rattle.std.specs.Prelude.{◌≡◌, ◌≢◌, ◌&&◌, ◌||◌, ◌==◌, ◌*◌, ◌+◌, ◌<◌, ◌≤◌, ◌^◌, All, Bool, drop, if◌then◌else◌, length, List, map, nat_lt, slice_index_or, take, ℕ}
use Rattle.q_least.specs.Keys.{is_within, key_at, no_key}
use Rattle.q_least.specs.declared.tree.Keyed.{Keyed}

-- it has a lesser key, or the same and a lesser number
abbrev pub is_before : Keyed → Keyed → Bool
is_before a b = nat_lt a.key b.key || (a.key == b.key) && nat_lt a.number b.number

-- of two, the one that is before the other
abbrev pub lesser : Keyed → Keyed → Keyed
lesser a b = if is_before b a then b else a

abbrev pub nothing : Keyed
nothing = record { key = 0; number = 0 }

-- a place without a key
abbrev pub keyless : Keyed
keyless = record { key = no_key; number = 0 }

-- what stands at a place
abbrev pub keyed_at : List Keyed → ℕ → Keyed
keyed_at tree p = slice_index_or tree p nothing

-- the place has the lesser of its children
abbrev pub IsLesser : List Keyed → ℕ → Type 0
IsLesser tree p = keyed_at tree p ≡ lesser (keyed_at tree (2 * p)) (keyed_at tree (2 * p + 1))

-- each inner place does, but perhaps one
abbrev pub AreLesserBut : ℕ → ℕ → List Keyed → Type 0
AreLesserBut but n tree = (p : ℕ) → 1 ≤ p → p < n → p ≢ but → IsLesser tree p

-- each inner place does
abbrev pub AreLesser : ℕ → List Keyed → Type 0
AreLesser n tree = (p : ℕ) → 1 ≤ p → p < n → IsLesser tree p

-- each leaf has its own number
abbrev pub AreNumbered : ℕ → List Keyed → Type 0
AreNumbered n tree = (i : ℕ) → i < n → (keyed_at tree (n + i)).number ≡ i

-- the keys of the leaves
abbrev pub leaf_keys : ℕ → List Keyed → List ℕ
leaf_keys n tree = map (λ k. k.key) (drop n tree)

-- the keys of the first leaves, so many
abbrev pub first_keys : ℕ → ℕ → List Keyed → List ℕ
first_keys count n tree = take count (leaf_keys n tree)

-- the first child whose key is at most the bound, if either's is
abbrev pub child_within : ℕ → List Keyed → ℕ → ℕ
child_within bound tree p = if is_within bound (keyed_at tree (2 * p)).key then 2 * p else 2 * p + 1

-- the key of this leaf is at most the bound, and each before it is above
pub record IsFirstWithin (bound : ℕ) (keys : List ℕ) (i : ℕ) : Type 0 where
  pub inside : i < length keys
  pub within : key_at keys i ≤ bound
  pub first : (j : ℕ) → j < i → bound < key_at keys j

-- n leaves, and as many places before them
pub record IsTree (n : ℕ) (tree : List Keyed) : Type 0 where
  pub some : 1 ≤ n
  pub few : n ≤ 2 ^ 32
  pub len : length tree ≡ 2 * n
  pub lesser : AreLesser n tree
  pub numbered : AreNumbered n tree

-- so many of the leaves are numbers with keys, and those behind have none
pub record AreKeysIn (count n : ℕ) (places : List Keyed) : Type 0 where
  pub tree : IsTree n places
  pub power : IsPowerOfTwo n
  pub some : 1 ≤ count
  pub inside : count ≤ n
  pub keys : All (λ key. key ≤ no_key) (leaf_keys n places)
  pub behind : All (λ key. key ≡ no_key) (drop count (leaf_keys n places))
