-- What each call of a host does to what the host tells.
use Rattle.std.specs.Prelude.{◌≡◌, ◌≤◌, ◌⊎◌, ℕ, List, [], ◌++◌, length, take}
use Rattle.std.specs.Option.{option_map}
use Rattle.q_model.specs.declared.spot.Area.{Area}
use Rattle.q_host.specs.Files.{moved, put, with_file, without_file, written}
use Rattle.q_model.specs.SpoolFiles.{Files}
use Rattle.q_host.specs.View.{Remains, View, Goes}
use Rattle.q_host.specs.Steps.{Stay, Become, Tear, Sync, Add, AddSome}

-- nothing changes but the moment
pub record Stays (old new : View) : Type 0 where
  pub files : new.files ≡ old.files
  pub told : new.told ≡ old.told
  pub goes : Goes Stay Stay old new

-- the files are changed at once, and the change is durable
pub record Changes (change : Files → Files) (old new : View) : Type 0 where
  pub files : new.files ≡ change old.files
  pub told : new.told ≡ old.told
  pub goes : Goes (Become change) (Become change) old new

-- an empty file stands at the place, in place of any
abbrev pub Creates : Area → List ℕ → View → View → Type 0
Creates a n = Changes (λ f. with_file f a n [])

-- the file of the first place stands at the second, in place of any
abbrev pub Renames : Area → List ℕ → Area → List ℕ → View → View → Type 0
Renames a n b m = Changes (λ f. moved f a n b m)

-- no file stands at the place
abbrev pub Removes : Area → List ℕ → View → View → Type 0
Removes a n = Changes (λ f. without_file f a n)

-- each of these was done, or nothing was
abbrev pub MayCreate : Area → List ℕ → View → View → Type 0
MayCreate a n old new = Creates a n old new ⊎ Stays old new

abbrev pub MayRename : Area → List ℕ → Area → List ℕ → View → View → Type 0
MayRename a n b m old new = Renames a n b m old new ⊎ Stays old new

abbrev pub MayRemove : Area → List ℕ → View → View → Type 0
MayRemove a n old new = Removes a n old new ⊎ Stays old new

-- the first k of these bytes were written, and aren't synced
pub record Writes (a : Area) (n : List ℕ) (at : ℕ) (bytes : List ℕ) (k : ℕ) (old new : View) : Type 0 where
  pub files : new.files ≡ put old.files a n (option_map (written at (take k bytes)) (old.files a n))
  pub told : new.told ≡ old.told
  pub goes : Goes (Tear a n at k) (Tear a n at (length bytes)) old new

-- all of these bytes were written
abbrev pub WritesAll : Area → List ℕ → ℕ → List ℕ → View → View → Type 0
WritesAll a n at bytes = Writes a n at bytes (length bytes)

-- some first part of these bytes was written
abbrev pub WritesSome : Area → List ℕ → ℕ → List ℕ → View → View → Type 0
WritesSome a n at bytes old new = (k : ℕ) × (k ≤ length bytes) × Writes a n at bytes k old new

-- the bytes of the file are on the disk
pub record Syncs (a : Area) (n : List ℕ) (old new : View) : Type 0 where
  pub files : new.files ≡ old.files
  pub told : new.told ≡ old.told
  pub goes : Goes (Sync a n (old.files a n)) Stay old new

-- the first k of these bytes were told
pub record Tells (bytes : List ℕ) (k : ℕ) (old new : View) : Type 0 where
  pub files : new.files ≡ old.files
  pub told : new.told ≡ old.told ++ take k bytes
  pub goes : Goes (Add (take k bytes)) (AddSome bytes) old new

-- all of these bytes were told
abbrev pub TellsAll : List ℕ → View → View → Type 0
TellsAll bytes = Tells bytes (length bytes)

-- some first part of these bytes was told
abbrev pub TellsSome : List ℕ → View → View → Type 0
TellsSome bytes old new = (k : ℕ) × (k ≤ length bytes) × Tells bytes k old new

-- the host is as it was
pub record IsAsItWas (old new : View) : Type 0 where
  pub files : new.files ≡ old.files
  pub told : new.told ≡ old.told
  pub moment : new.moment ≡ old.moment
  pub may_leave : (c : Remains) → new.may_leave c → old.may_leave c
  pub left_since : (t : ℕ) (c : Remains) → new.left_since t c → old.left_since t c
