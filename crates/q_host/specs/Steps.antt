-- What a call makes of what a crash might have left before it.
use Rattle.std.specs.Prelude.{◌≡◌, ◌⊎◌, ◌≤◌, ◌+◌, max, ℕ, false, List, ◌++◌, length, take, drop, Option, Some}
use Rattle.q_model.specs.declared.spot.Area.{Area}
use Rattle.q_host.specs.Files.{same_place}
use Rattle.q_model.specs.SpoolFiles.{Files}
use Rattle.q_host.specs.View.{Remains, Step}

-- nothing changes
abbrev pub Stay : Step
Stay d c = c ≡ d

-- the files are changed by a function
abbrev pub Become : (Files → Files) → Step
Become change d c = (c.files ≡ change d.files) × (c.told ≡ d.told)

-- the same at every other place
abbrev pub SameBut : Area → List ℕ → Files → Files → Type 0
SameBut a n f g = (b : Area) (m : List ℕ) → same_place a n b m ≡ false → g b m ≡ f b m

-- A write of so many bytes that a crash cuts short: any bytes in the range and past the old end, the same elsewhere.
pub record TornBytes (at len : ℕ) (old new : List ℕ) : Type 0 where
  pub before : take at new ≡ take at old
  pub after : drop (at + len) new ≡ drop (at + len) old
  pub no_shorter : length old ≤ length new
  pub no_longer : length new ≤ max (length old) (at + len)

-- one file is torn by a write of so many bytes
pub record Tear (a : Area) (n : List ℕ) (at len : ℕ) (d c : Remains) : Type 0 where
  pub old : List ℕ
  pub new : List ℕ
  pub was : d.files a n ≡ Some old
  pub is : c.files a n ≡ Some new
  pub torn : TornBytes at len old new
  pub others : SameBut a n d.files c.files
  pub told : c.told ≡ d.told

-- the bytes of one file are those that a read gives
pub record Sync (a : Area) (n : List ℕ) (file : Option (List ℕ)) (d c : Remains) : Type 0 where
  pub same : c ≡ d
  pub whole : c.files a n ≡ file

-- these bytes are told
pub record Add (bytes : List ℕ) (d c : Remains) : Type 0 where
  pub files : c.files ≡ d.files
  pub told : c.told ≡ d.told ++ bytes

-- some first part of these bytes is told
abbrev pub AddSome : List ℕ → Step
AddSome bytes d c = (k : ℕ) × (k ≤ length bytes) × Add (take k bytes) d c

-- one step or the other: all is as the old, or as the new
abbrev pub OldOrNew : Step → Step → Step
OldOrNew Old New d c = Old d c ⊎ New d c

-- what is told is these bytes and some first part of those
abbrev pub ToldSome : List ℕ → List ℕ → Remains → Type 0
ToldSome before bytes c = (k : ℕ) × (k ≤ length bytes) × (c.told ≡ before ++ take k bytes)
