-- The keys of numbers, as a list.
use Rattle.std.specs.Prelude.{◌<◌, ◌≤◌, ◌^◌, ◌-◌, Bool, length, List, nat_le, slice_index_or, ℕ}

-- the greatest key, of a number that has none
abbrev pub no_key : ℕ
no_key = 2 ^ 64 - 1

-- the key at a place, 0 past the end
abbrev pub key_at : List ℕ → ℕ → ℕ
key_at keys p = slice_index_or keys p 0

-- the key is at most the bound
abbrev pub is_within : ℕ → ℕ → Bool
is_within bound key = nat_le key bound

-- no key is less than the one of this number, and each before it is greater
pub record IsLeastAt (keys : List ℕ) (i : ℕ) : Type 0 where
  pub within : i < length keys
  pub least : (j : ℕ) → j < length keys → key_at keys i ≤ key_at keys j
  pub first : (j : ℕ) → j < i → key_at keys i < key_at keys j
