-- When a host stands for a book: what reads give stands for it, and what a crash leaves now stands
-- for what a crash may make of it. And how a call goes from one book to another.
use Rattle.std.specs.Prelude.{◌≡◌, ◌⊎◌, Bool, false, IsTrue, List, None, ℕ}
use Rattle.q_model.specs.declared.id.Id.{Id}
use Rattle.q_model.specs.declared.spot.Area.TheVariants as areas
use Rattle.q_model.specs.Book.{Book, stands}
use Rattle.q_model.specs.Crashes.{IsCrashOf}
use Rattle.q_model.specs.FilesStand.{Stands}
use Rattle.q_model.specs.IdTexts.{id_text, IsId}
use Rattle.q_model.specs.SpoolFiles.{Files}
use Rattle.q_host.specs.Files.{same_place}
use Rattle.q_host.specs.View.{LeavesOnly, Remains, View}

-- what remains stands for what a crash may make of the book
pub record IsLeftOf (b : Book) (c : Remains) : Type 0 where
  pub left : Book
  pub after : IsCrashOf b left
  pub stands : Stands c.files left

pub record HostStands (v : View) (b : Book) : Type 0 where
  pub reads : Stands v.files b
  pub crash : (c : Remains) → v.may_leave c → IsLeftOf b c

-- each failure log is of an id that stands in the book
abbrev pub OwnLogs : Files → Book → Type 0
OwnLogs f b = (id : Id) → IsId id → stands b id ≡ false → f areas.Bounce (id_text id) ≡ None

-- a crash between two books leaves the one or the other, and nothing more told
pub record Between (b k : Book) (before : List ℕ) (c : Remains) : Type 0 where
  pub told : c.told ≡ before
  pub book : IsLeftOf b c ⊎ IsLeftOf k c

-- The host went from the one book to the other.
pub record Takes (b k : Book) (v w : View) : Type 0 where
  pub told : w.told ≡ v.told
  pub stands : HostStands w k
  pub logs : OwnLogs v.files b → OwnLogs w.files k
  pub moments : LeavesOnly v w (Between b k v.told)

-- The host stands for the one book or the other.
pub record Tries (b k : Book) (v w : View) : Type 0 where
  pub told : w.told ≡ v.told
  pub stands : HostStands w b ⊎ HostStands w k
  pub moments : LeavesOnly v w (Between b k v.told)

-- The host stands for the one book or the other, or for the other one as long as the disk isn't sure
-- of all of it.
pub record TriesLoosely (b k loose : Book) (v w : View) : Type 0 where
  pub told : w.told ≡ v.told
  pub stands : HostStands w b ⊎ HostStands w k ⊎ HostStands w loose
  pub moments : LeavesOnly v w (Between b k v.told)

-- Where a host tells and stands for a book that is changed in this way, a call takes it to the
-- changed book.
abbrev pub TakesBy : {H : Type 0} → (Book → Book → Type 0) → Bool → (H → View) → H → H → Type 0
TakesBy Change tells view before after = IsTrue tells → (b k : Book) → HostStands (view before) b
    → Change b k → Takes b k (view before) (view after)

-- The same for a call that was given up.
abbrev pub TriesBy : {H : Type 0} → (Book → Book → Type 0) → Bool → (H → View) → H → H → Type 0
TriesBy Change tells view before after = IsTrue tells → (b k : Book) → HostStands (view before) b
    → Change b k → Tries b k (view before) (view after)

-- The same where `cut` makes of the changed book the one of which the disk isn't sure yet.
abbrev pub TriesLooselyBy : {H : Type 0} → (Book → Book → Type 0) → (Book → Book) → Bool → (H → View) → H → H → Type 0
TriesLooselyBy Change cut tells view before after = IsTrue tells → (b k : Book) → HostStands (view before) b
    → Change b k → TriesLoosely b k (cut k) (view before) (view after)

-- no deferral log changed
abbrev pub KeepsNotes : View → View → Type 0
KeepsNotes v w = (n : List ℕ) → w.files areas.Defer n ≡ v.files areas.Defer n

-- no deferral log changed but that of one name
abbrev pub KeepsOtherNotes : List ℕ → View → View → Type 0
KeepsOtherNotes name v w = (n : List ℕ) → same_place areas.Defer name areas.Defer n ≡ false
    → w.files areas.Defer n ≡ v.files areas.Defer n

-- what each host tells of crashes at a moment
pub record TellsCrashes (v : View) : Type 0 where
  pub only : (c : Remains) → v.left_since v.moment c → v.may_leave c
  pub told : (c : Remains) → v.may_leave c → c.told ≡ v.told
