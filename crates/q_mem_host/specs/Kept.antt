-- A file in memory: its bytes, and what of them isn't synced.
use Rattle.std.specs.Prelude.{◌+◌, ◌-◌, ℕ, Bool, ◌&&◌, nat_le, nat_lt, if◌then◌else◌, List, [], ◌∷◌, ◌++◌, length}
use Rattle.std.specs.List.{list_any}
use Rattle.q_host.specs.Files.{written}
use Rattle.q_mem_host.specs.declared.rot.Rot.{Rot}
use Rattle.q_mem_host.specs.declared.rot.Rot.TheVariants.{Keep, Old, Byte}

-- a file: its bytes, the ranges (offset and length) written since its last sync, and its bytes at that sync
pub record Kept : Type 0 where
  pub bytes : List ℕ
  pub soft : List (ℕ × ℕ)
  pub synced : List ℕ

-- whether an offset stands in the range of this offset and length
abbrev pub in_range : ℕ → ℕ → ℕ → Bool
in_range at len i = nat_le at i && nat_lt (i - at) len

-- whether the byte there was written since the last sync
abbrev pub is_soft : List (ℕ × ℕ) → ℕ → Bool
is_soft rs i = list_any (λ r. in_range r.0 r.1 i) rs

-- a file of these bytes, which are on the disk
abbrev pub firm : List ℕ → Kept
firm bytes = record { bytes = bytes; soft = []; synced = bytes }

-- the file with all its bytes on the disk
abbrev pub synced : Kept → Kept
synced k = firm k.bytes

-- the file with other bytes over its own
abbrev pub overwritten : ℕ → List ℕ → Kept → Kept
overwritten at over k = record {
  bytes = written at over k.bytes;
  soft = k.soft ++ (at, length over) ∷ [];
  synced = k.synced;
}

-- each byte that isn't synced is b, from offset i on
abbrev pub rotten : ℕ → List (ℕ × ℕ) → ℕ → List ℕ → List ℕ
rotten b soft i [] = []
rotten b soft i (x ∷ xs) = (if is_soft soft i then b else x) ∷ rotten b soft (i + 1) xs

-- what a crash makes of a file: the bytes that aren't synced stay, fall back, or each become this byte
abbrev pub fallen : Rot → Kept → Kept
fallen Keep k = firm k.bytes
fallen Old k = firm k.synced
fallen (Byte b) k = firm (rotten b k.soft 0 k.bytes)
