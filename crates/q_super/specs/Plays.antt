-- Deeds that are done on a host one behind another, at each moment.
use Rattle.std.specs.Prelude.{◌≡◌, ◌≢◌, ◌≤◌, ◌⊎◌, ◌++◌, [], length, List, take, true, ℕ, ◌∷◌}
use Rattle.q_books.specs.HostStands.{HostStands, IsLeftOf, OwnLogs}
use Rattle.q_host.specs.View.{LeavesOnly, Remains, View}
use Rattle.q_host.specs.declared.error.HostError.{HostError}
use Rattle.q_host.specs.declared.error.HostError.TheVariants.{Tell}
use Rattle.q_lives.specs.Tools.{after_cut_steps}
use Rattle.q_model.specs.Book.{Book}
use Rattle.q_model.specs.Orderly.{is_orderly}
use Rattle.q_model.specs.ToolSteps.{after_steps, is_unpaired}
use Rattle.q_super.specs.Deeds.{Deed, lines_in, steps_in, told_by}

-- a book that tools act on: it is orderly, and no message stands with its bounce
pub record IsAtRest (b : Book) : Type 0 where
  pub orderly : is_orderly b ≡ true
  pub unpaired : is_unpaired b ≡ true

-- of each such book for which the host stands
abbrev pub OnBook : View → (Book → Type 0) → Type 0
OnBook v says = (b : Book) → HostStands v b → IsAtRest b → says b

-- the book after these deeds
abbrev pub after_deeds : Book → List Deed → Book
after_deeds b ds = after_steps b (steps_in ds)

-- the same where the last step was cut off before the disk was sure of it
abbrev pub after_cut_deeds : Book → List Deed → Book
after_cut_deeds b ds = after_cut_steps b (steps_in ds)

-- the line that is told next, if the next deed tells one
abbrev pub next_line : List Deed → List ℕ
next_line [] = []
next_line (d ∷ ds) = told_by d

-- What a crash leaves of these deeds: the book after the first ones, all lines of these, and some
-- first part of a line that comes next.
pub record IsLeftOfDeeds (b : Book) (ds : List Deed) (before : List ℕ) (c : Remains) : Type 0 where
  pub done : List Deed
  pub rest : List Deed
  pub all : ds ≡ done ++ rest
  pub part : ℕ
  pub short : part ≤ length (next_line rest)
  pub told : c.told ≡ (before ++ lines_in done) ++ take part (next_line rest)
  pub book : IsLeftOf (after_deeds b done) c

-- All were done.
pub record PlaysDeeds (b : Book) (ds : List Deed) (u v : View) : Type 0 where
  pub told : v.told ≡ u.told ++ lines_in ds
  pub stands : HostStands v (after_deeds b ds)
  pub logs : OwnLogs u.files b → OwnLogs v.files (after_deeds b ds)
  pub moments : LeavesOnly u v (IsLeftOfDeeds b ds u.told)

-- The host stands for the book after these deeds. Where disk or memory failed, it may also be that
-- the last of their steps, a failure, may still be gone after a crash.
abbrev pub StandsAfter : Book → List Deed → HostError → View → Type 0
StandsAfter b done error v =
    HostStands v (after_deeds b done) ⊎ ((error ≢ Tell) × HostStands v (after_cut_deeds b done))

-- Some were, and then the host gave up: of a line it told a part by a failed output alone.
pub record HaltsDeeds (b : Book) (ds : List Deed) (error : HostError) (u v : View) : Type 0 where
  pub done : List Deed
  pub rest : List Deed
  pub all : ds ≡ done ++ rest
  pub part : ℕ
  pub short : part ≤ length (next_line rest)
  pub told : v.told ≡ (u.told ++ lines_in done) ++ take part (next_line rest)
  pub only_tell : error ≢ Tell → part ≡ 0
  pub stands : StandsAfter b done error v
  pub moments : LeavesOnly u v (IsLeftOfDeeds b ds u.told)
