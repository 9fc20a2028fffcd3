-- Calls on one spool, one after another, each as far as it came, and the lives that they ran.
use Rattle.std.specs.Prelude.{◌++◌, ◌≡◌, ◌⊎◌, [], Bool, false, List, true, ℕ, ◌∷◌}
use Rattle.q_books.specs.HostStands.{HostStands, IsLeftOf}
use Rattle.q_host.specs.View.{LeavesOnly, Remains, View}
use Rattle.q_inflation.specs.Bounds.{Call, IsBounded, IsFirstAtNoCost, IsInMemory}
use Rattle.q_lives.specs.Bounces.{BouncedAtMostOnce, BouncedThroughout}
use Rattle.q_lives.specs.Causes.{DoneAfterCause}
use Rattle.q_lives.specs.Lives.{AreLives, last_book, Life, life_entries, tool_steps, trace}
use Rattle.q_lives.specs.Repeats.{RepeatsUnsynced}
use Rattle.q_lives.specs.Standing.{StandsOnceOrLeft}
use Rattle.q_lives.specs.Throughout.{DeliversApart, DeliversOneByOne, FitsAccount, FitsWindow, KeepsLimits, LeavesDone, Throughout}
use Rattle.q_model.specs.Book.{Book}
use Rattle.q_model.specs.Crashes.{IsCrashOf}
use Rattle.q_model.specs.Message.{Message}
use Rattle.q_model.specs.Orderly.{is_lawful, is_orderly}
use Rattle.q_model.specs.declared.entry.Entry.{Entry}
use Rattle.q_model.specs.declared.id.Id.{Id}
use Rattle.q_replay.specs.LivesLeft.{LeavesLives, LifeIsTold}

-- ---- one call

-- A call that looks leaves the book as it is, and a crash in it takes what it might have taken before.
pub record OnlyLooks (b : Book) (u v : View) : Type 0 where
  pub at_end : HostStands v b
  pub moments : LeavesOnly u v (IsLeftOf b)

abbrev pub ServesBook : Bool → Book → View → View → Type 0
ServesBook true b u v = LeavesLives b u v
ServesBook false b u v = OnlyLooks b u v

-- what a call does to a spool that stands for an orderly book: it runs lives, or only looks
abbrev pub Serves : Bool → View → View → Type 0
Serves runs u v = (b : Book) → HostStands u b → is_orderly b ≡ true → ServesBook runs b u v

-- A call: whether its command runs lives, the host at its end, had it come to it, what it told, and
-- the host as the next call finds it.
pub record Course (H : Type 0) : Type 0 where
  pub runs : Bool
  pub behind : H
  pub told : List ℕ
  pub next : H

-- the views of its hosts
pub record Seen : Type 1 where
  pub behind : View
  pub next : View
  pub told : List ℕ

abbrev pub seen : {H : Type 0} → (H → View) → Course H → Seen
seen view c = record { behind = view c.behind; next = view c.next; told = c.told }

-- it came to its end, and the next call finds the spool as it left it
pub record CameToEnd (u : View) (c : Seen) : Type 0 where
  pub told : (c.behind).told ≡ u.told ++ c.told
  pub files : (c.next).files ≡ (c.behind).files
  pub crash : (d : Remains) → (c.next).may_leave d
      → (e : Remains) × (c.behind).may_leave e × (d.files ≡ e.files)

-- a crash came at some moment in it, and the next call finds what it left
pub record WasCutOff (u : View) (c : Seen) : Type 0 where
  pub remains : Remains
  pub left : (c.behind).left_since u.moment remains
  pub told : remains.told ≡ u.told ++ c.told
  pub files : (c.next).files ≡ remains.files
  pub crash : (d : Remains) → (c.next).may_leave d → d.files ≡ remains.files

-- ---- calls one after another

pub data Calls (H : Type 0) : Type 0 where
  none : Calls H
  then : Course H → Calls H → Calls H

-- each serves the spool that the one before it left
abbrev pub AreCalls : {H : Type 0} → (H → View) → H → Calls H → Type 0
AreCalls view h none = Unit {0}
AreCalls view h (then c cs) = Serves c.runs (view h) (view c.behind)
    × (CameToEnd (view h) (seen view c) ⊎ WasCutOff (view h) (seen view c))
    × AreCalls view c.next cs

-- the host behind all of them
abbrev pub host_behind : {H : Type 0} → H → Calls H → H
host_behind h none = h
host_behind h (then c cs) = host_behind c.next cs

-- ---- their lives

-- nothing of a life was told
abbrev pub TellsNoLife : {H : Type 0} → Course H → Type 0
TellsNoLife c = (c.runs ≡ false) ⊎ (c.told ≡ [])

-- Each call ran one of these lives, in order, and told its lines and those of the tools behind it, or told
-- none of a life.
abbrev pub AreToldBy : {H : Type 0} → Book → List Life → Calls H → Type 0
AreToldBy b lives none = lives ≡ []
AreToldBy b lives (then c cs) = (TellsNoLife c × AreToldBy b lives cs)
    ⊎ ((life : Life) × (rest : List Life) × (lives ≡ life ∷ rest)
    × LifeIsTold life.world.table (life_entries b life) life.steps [] c.told
    × AreToldBy life.left rest cs)

-- the call that a life on a book was
abbrev pub call_of : Book → Life → Call
call_of b life = record { world = life.world; mode = life.mode; book = b; items = life.items }

-- so it is of each message in memory, at each moment of one life
abbrev pub EachMomentOf : (Call → Message → Id → List Entry → Type 0) → Call → Type 0
EachMomentOf P call = (m : Message) → (id : Id) → (before since : List Entry)
    → IsInMemory call m id before since → P call m id since

-- and of each life
abbrev pub EachMoment : (Call → Message → Id → List Entry → Type 0) → Book → List Life → Type 0
EachMoment P b [] = Unit {0}
EachMoment P b (life ∷ lives) = EachMomentOf P (call_of b life) × EachMoment P life.left lives

-- what holds of lives on a spool, from the first book to the last
pub record KeepPromises (first : Book) (lives : List Life) : Type 0 where
  pub limits : Throughout KeepsLimits first lives
  pub windows : Throughout FitsWindow first lives
  pub apart : Throughout DeliversApart first lives
  pub one_by_one : Throughout DeliversOneByOne first lives
  pub accounts : Throughout FitsAccount first lives
  pub done : DoneAfterCause first (tool_steps lives) (trace first lives) (last_book first lives)
  pub repeats : RepeatsUnsynced (trace first lives)
  pub stands : StandsOnceOrLeft first (trace first lives) (last_book first lives)
  pub leaves_done : Throughout LeavesDone first lives
  pub bounced : BouncedThroughout first [] first lives
  pub bounced_once : BouncedAtMostOnce first (trace first lives)
  pub delayed : EachMoment IsBounded first lives
  pub undelayed : EachMoment IsFirstAtNoCost first lives
  pub lawful : is_lawful first ≡ true → is_lawful (last_book first lives) ≡ true

-- The lives of calls on a spool that stands for a book: they begin with it, or with what a crash makes of
-- it, leave what the last call leaves, and keep what is promised.
pub record HaveLives {H : Type 0} (view : H → View) (b : Book) (h : H) (cs : Calls H) : Type 0 where
  pub first : Book
  pub begins : (first ≡ b) ⊎ IsCrashOf b first
  pub lives : List Life
  pub are : AreLives first lives
  pub told : AreToldBy first lives cs
  pub left : HostStands (view (host_behind h cs)) (last_book first lives)
  pub promises : KeepPromises first lives

-- it holds of all calls, whatever comes, on each spool that stands for an orderly book
abbrev pub WhateverComes : {H : Type 0} → (H → View) → Type 0
WhateverComes {H} view = (b : Book) → (h : H) → (cs : Calls H) → HostStands (view h) b
    → is_orderly b ≡ true → AreCalls view h cs → HaveLives view b h cs
