-- What storing a file by way of Tmp does to reads, and to what a crash leaves.
use Rattle.std.specs.Prelude.{◌≡◌, ◌⊎◌, ℕ, false, List, Some}
use Rattle.q_model.specs.declared.spot.Area.{Area}
use Rattle.q_model.specs.declared.spot.Area.TheVariants.{Tmp}
use Rattle.q_model.specs.SpoolFiles.{Files}
use Rattle.q_host.specs.Files.{put, same_place}
use Rattle.q_host.specs.Steps.{SameBut}
use Rattle.q_host.specs.View.{After, Goes, LeavesOnly, now, Remains, View}

-- one file may have become anything; nothing else changed
pub record OneFile (a : Area) (n : List ℕ) (d c : Remains) : Type 0 where
  pub others : SameBut a n d.files c.files
  pub told : c.told ≡ d.told

-- these bytes stand at the place, and all else is as before
abbrev pub IsPut : Area → List ℕ → List ℕ → View → View → Type 0
IsPut a n bytes v w = w.files ≡ put v.files a n (Some bytes)

-- the files are as before but for this name in Tmp
abbrev pub IsAsBefore : List ℕ → Files → Files → Type 0
IsAsBefore t = SameBut Tmp t

-- the file stands at its place, whole, and all else but this name in Tmp is as before
pub record IsStored (t : List ℕ) (a : Area) (n bytes : List ℕ) (before after : Files) : Type 0 where
  pub whole : after a n ≡ Some bytes
  pub others : (b : Area) (m : List ℕ) → same_place Tmp t b m ≡ false → same_place a n b m ≡ false
      → after b m ≡ before b m

-- nothing is stored, and nothing told
abbrev pub Keeps : List ℕ → Remains → Remains → Type 0
Keeps t = OneFile Tmp t

-- the file is stored, and nothing told
pub record Stores (t : List ℕ) (a : Area) (n bytes : List ℕ) (d c : Remains) : Type 0 where
  pub files : IsStored t a n bytes d.files c.files
  pub told : c.told ≡ d.told

-- the file is stored or not, whole or not at all, and nothing told
pub record MayStore (t : List ℕ) (a : Area) (n bytes : List ℕ) (d c : Remains) : Type 0 where
  pub files : IsAsBefore t d.files c.files ⊎ IsStored t a n bytes d.files c.files
  pub told : c.told ≡ d.told

-- The file was stored: reads give it, and so does every crash. A crash meanwhile left it or not.
pub record Holds (t : List ℕ) (a : Area) (n bytes : List ℕ) (v w : View) : Type 0 where
  pub reads : Stores t a n bytes (now v) (now w)
  pub goes : Goes (Stores t a n bytes) (MayStore t a n bytes) v w

-- The file wasn't stored: neither reads nor a crash give it. A crash meanwhile left it or not.
pub record Leaves (t : List ℕ) (a : Area) (n bytes : List ℕ) (v w : View) : Type 0 where
  pub reads : Keeps t (now v) (now w)
  pub goes : Goes (Keeps t) (MayStore t a n bytes) v w

-- one or the other, the same for reads and crashes
abbrev pub MayHold : List ℕ → Area → List ℕ → List ℕ → View → View → Type 0
MayHold t a n bytes v w = Leaves t a n bytes v w ⊎ Holds t a n bytes v w

-- a crash leaves the file stored or not, now and meanwhile
abbrev pub MayGo : List ℕ → Area → List ℕ → List ℕ → View → View → Type 0
MayGo t a n bytes v w = Goes (MayStore t a n bytes) (MayStore t a n bytes) v w

-- a crash at any moment between the two leaves what a crash might have left before, or with the file stored
abbrev pub LeavesWhole : List ℕ → Area → List ℕ → List ℕ → View → View → Type 0
LeavesWhole t a n bytes v w = LeavesOnly v w (After (MayStore t a n bytes) v.may_leave)
