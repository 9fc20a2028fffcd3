-- A walk over the names of an area in the order of bytes.
use Rattle.std.specs.Ordering.{nat_cmp}
use Rattle.std.specs.declared.cmp.Ordering.TheVariants.{Less}
use Rattle.std.specs.Cmp.Lexicographic.{slice_cmp}
use Rattle.std.specs.Prelude.{◌<◌, ◌^◌, ◌≡◌, ◌≤◌, ◌⊎◌, Contains, IsSome, List, None, Option, Some, ℕ}
use Rattle.q_host.specs.Reads.{IsAfter}
use Rattle.q_model.specs.declared.id.Id.{Id}
use Rattle.q_model.specs.declared.spot.Area.{Area}
use Rattle.q_model.specs.declared.spot.Area.TheVariants as areas
use Rattle.q_model.specs.IdTexts.{due_text, IsId}
use Rattle.q_model.specs.SpoolFiles.{Files}

-- the area, the name that was given or passed over last, and those that were listed behind it
pub record Walk : Type 0 where
  pub area : Area
  pub place : Option (List ℕ)
  pub ahead : List (List ℕ)

-- the name of a file in deferred
pub record IsDueName (name : List ℕ) (due : ℕ) (id : Id) : Type 0 where
  pub form : IsId id
  pub digits : due < 10 ^ 12
  pub says : due_text due id ≡ name

-- the names that a walk gives, whatever the moment: in deferred those of files that wait there
abbrev pub IsWalked : Area → List ℕ → Type 0
IsWalked areas.Deferred n = (due : ℕ) × (id : Id) × IsDueName n due id
IsWalked area n = Unit {0}

-- those that it gives by a moment: in deferred those with a due time of at most this
abbrev pub IsWithin : Area → ℕ → List ℕ → Type 0
IsWithin areas.Deferred until n = (due : ℕ) × (id : Id) × IsDueName n due id × (due ≤ until)
IsWithin area until n = Unit {0}

-- The walk will come to the name: it is listed, or stands behind all that are.
pub record IsStillAhead (w : Walk) (n : List ℕ) : Type 0 where
  pub behind : IsAfter w.place n
  pub listed : (m : List ℕ) → Contains w.ahead m → slice_cmp nat_cmp n m ≡ Less
      → Contains w.ahead n

-- what was listed stands there
abbrev pub AllStand : Files → Walk → Type 0
AllStand f w = (n : List ℕ) → Contains w.ahead n → IsSome (f w.area n)

-- What was listed and not yet given is what a listing behind the walk's place gives now.
pub record IsUpToDate (f : Files) (w : Walk) : Type 0 where
  pub stands : AllStand f w
  pub none_left_out : (n : List ℕ) → IsSome (f w.area n) → IsWalked w.area n → IsAfter w.place n
      → IsStillAhead w n

-- what stands behind the new place stands behind the old one
abbrev pub GoesForward : Walk → Walk → Type 0
GoesForward old new = (n : List ℕ) → IsAfter new.place n → IsAfter old.place n

-- the walk gave this name
pub record IsGiven (until : ℕ) (old new : Walk) (x : List ℕ) : Type 0 where
  pub within : IsWithin old.area until x
  pub behind : IsAfter old.place x
  pub place : new.place ≡ Some x

-- A name to which the walk would have come is the one that was given, or it will still come to it;
-- where none was given, the name isn't due yet.
abbrev pub LeavesAhead : ℕ → Option (List ℕ) → Walk → List ℕ → Type 0
LeavesAhead until None new n = (IsWithin new.area until n → ⊥) × IsStillAhead new n
LeavesAhead until (Some x) new n = (x ≡ n) ⊎ IsStillAhead new n

-- a file has a name behind the walk's place that it gives by the moment
pub record IsDueAhead (f : Files) (w : Walk) (until : ℕ) (n : List ℕ) : Type 0 where
  pub there : IsSome (f w.area n)
  pub behind : IsAfter w.place n
  pub within : IsWithin w.area until n

-- it is the first such name
pub record IsFirstDue (f : Files) (w : Walk) (until : ℕ) (x : List ℕ) : Type 0 where
  pub due : IsDueAhead f w until x
  pub first : (n : List ℕ) → IsDueAhead f w until n → slice_cmp nat_cmp n x ≡ Less → ⊥

-- the first such name, or none where there is none
abbrev pub IsNextOf : Files → Walk → ℕ → Option (List ℕ) → Type 0
IsNextOf f w until None = (n : List ℕ) → IsDueAhead f w until n → ⊥
IsNextOf f w until (Some x) = IsFirstDue f w until x
