-- What a call on a spool leaves, at its end or by a crash at any moment in it: the book that a life
-- leaves, and of the life's trace all lines but the last, which may lack in part; or all lines, and behind
-- them those of queue tools.
use Rattle.std.specs.Prelude.{◌++◌, ◌≡◌, ◌≤◌, ◌⊎◌, [], length, List, take, true, ℕ}
use Rattle.q_books.specs.HostStands.{HostStands}
use Rattle.q_host.specs.View.{LeavesOnly, Remains, View}
use Rattle.q_lives.specs.Lives.{IsLife, IsOrderly, Life, life_entries}
use Rattle.q_model.specs.Book.{Book}
use Rattle.q_model.specs.Crashes.{IsCrashOf}
use Rattle.q_model.specs.FilesStand.{Stands}
use Rattle.q_model.specs.Orderly.{is_lawful}
use Rattle.q_model.specs.Settings.{Table}
use Rattle.q_model.specs.Text.{text}
use Rattle.q_model.specs.ToolSteps.{ToolStep}
use Rattle.q_model.specs.declared.entry.Entry.{Entry}
use Rattle.q_replay.specs.ToolLines.{AreToolLines}

-- The lines of these entries were told, that of the last one in part or not at all, perhaps.
pub record AreTold (table : Table) (es : List Entry) (before told : List ℕ) : Type 0 where
  pub done : List Entry
  pub last : List Entry
  pub all : es ≡ done ++ last
  pub few : length last ≤ 1
  pub part : ℕ
  pub told_is : told ≡ (before ++ text table done) ++ take part (text table last)

-- All lines of these entries were told, and then lines of queue tools that did these steps.
pub record AreToldThenTools (table : Table) (es : List Entry) (steps : List ToolStep) (before told : List ℕ)
    : Type 0 where
  pub by_tools : List ℕ
  pub tools : AreToolLines steps by_tools
  pub told_is : told ≡ (before ++ text table es) ++ by_tools

-- What was told of a life: no tool acted behind it, and its lines were; or they were all, and then those of
-- tools.
abbrev pub LifeIsTold : Table → List Entry → List ToolStep → List ℕ → List ℕ → Type 0
LifeIsTold table es steps before told =
    ((steps ≡ []) × AreTold table es before told) ⊎ AreToldThenTools table es steps before told

-- A life on the book left this one: its items were allowed, by settings that are of use.
pub record LeftByLife (b : Book) (before told : List ℕ) (left : Book) : Type 0 where
  pub life : Life
  pub is : IsLife b life
  pub left_is : life.left ≡ left
  pub lines : LifeIsTold life.world.table (life_entries b life) life.steps before told

-- No life began: nothing was told, and the book is as it was, or what a crash makes of it.
pub record LeftAsItWas (b : Book) (before told : List ℕ) (left : Book) : Type 0 where
  pub told_is : told ≡ before
  pub book : (left ≡ b) ⊎ IsCrashOf b left

-- One of these, and the book that is left is orderly, and lawful where the first was.
pub record IsLeft (b : Book) (before told : List ℕ) (left : Book) : Type 0 where
  pub by : LeftByLife b before told left ⊎ LeftAsItWas b before told left
  pub orderly : IsOrderly left
  pub lawful : is_lawful b ≡ true → is_lawful left ≡ true

-- What a crash left stands for such a book, of which a second crash takes nothing more.
abbrev pub LeftAt : Book → List ℕ → Remains → Type 0
LeftAt b before c =
    (left : Book) × Stands c.files left × IsCrashOf left left × IsLeft b before c.told left

-- So it is at the end of a call, and after a crash at any moment in it.
pub record LeavesLives (b : Book) (u v : View) : Type 0 where
  pub at_end : (left : Book) × HostStands v left × IsLeft b u.told v.told left
  pub moments : LeavesOnly u v (LeftAt b u.told)
