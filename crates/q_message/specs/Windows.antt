-- A window on the bytes of a file.
use Rattle.std.specs.Prelude.{◌+◌, ◌≡◌, ◌≤◌, Bool, drop, length, List, take, true, ℕ}

-- bytes from an offset on, and whether the file was seen to end with them
pub record Seen : Type 0 where
  pub at : ℕ
  pub bytes : List ℕ
  pub ended : Bool

-- they are those of the file
pub record Shows (file : List ℕ) (w : Seen) : Type 0 where
  pub same : w.bytes ≡ take (length w.bytes) (drop w.at file)
  pub all : w.ended ≡ true → length (drop w.at file) ≤ length w.bytes

-- the window so many bytes on
abbrev pub moved_on : ℕ → Seen → Seen
moved_on n w = record { at = w.at + n; bytes = drop n w.bytes; ended = w.ended }
