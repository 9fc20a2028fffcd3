-- How a tool ends: its life was told, and deeds were done behind it.
use Rattle.std.specs.Prelude.{◌++◌, ◌≡◌, ◌≢◌, ◌≤◌, ◌⊎◌, [], Err, false, length, List, Ok, Result, take, true, ℕ}
use Rattle.q_books.specs.HostStands.{HostStands}
use Rattle.q_entries.specs.Runs.{IsLeftOfRun}
use Rattle.q_host.specs.View.{LeavesOnly, Remains, View}
use Rattle.q_host.specs.declared.error.HostError.{HostError}
use Rattle.q_host.specs.declared.error.HostError.TheVariants as faults
use Rattle.q_laws.specs.Traces.{AreAllowed}
use Rattle.q_model.specs.Book.{Book}
use Rattle.q_model.specs.Ledger.{opening}
use Rattle.q_model.specs.Settings.{World}
use Rattle.q_model.specs.ToolSteps.{may_steps}
use Rattle.q_model.specs.declared.event.Mode.TheVariants.{Intake}
use Rattle.q_replay.specs.RunEnds.{RunEnds}
use Rattle.q_super.specs.Deeds.{Deed, lines_in, steps_in}
use Rattle.q_super.specs.Plays.{after_deeds, IsLeftOfDeeds, next_line, StandsAfter}
use Rattle.q_super.specs.declared.error.SuperError.TheVariants as acts
use Rattle.q_tools.specs.Lives.{book_behind, life_taken, life_text, tool_entries, tool_items}
use Rattle.q_tools.specs.Tasks.{deeds_for, lacks_some}
use Rattle.q_tools.specs.declared.error.ToolError.{ToolError}
use Rattle.q_tools.specs.declared.error.ToolError.TheVariants.{Act, Life}
use Rattle.q_tools.specs.declared.task.Task.{Task}

-- what a crash leaves of the life, or of these deeds behind it
abbrev pub IsLeftOfTool : World → Book → ℕ → List Deed → List ℕ → Remains → Type 0
IsLeftOfTool w b moment ds before c =
    IsLeftOfRun w (opening Intake b) (tool_entries w b moment) before c
    ⊎ IsLeftOfDeeds (book_behind w b moment) ds (before ++ life_text w b moment) c

-- The life was told whole, and behind it these deeds were done.
pub record PlaysBehind (w : World) (b : Book) (moment : ℕ) (ds : List Deed) (u v : View) : Type 0 where
  pub fits : AreAllowed w (opening Intake b) (tool_items moment)
  pub may : may_steps (book_behind w b moment) (steps_in ds) ≡ true
  pub told : v.told ≡ (u.told ++ life_text w b moment) ++ lines_in ds
  pub stands : HostStands v (after_deeds (book_behind w b moment) ds)
  pub moments : LeavesOnly u v (IsLeftOfTool w b moment ds u.told)

-- Some of them were, and then the host gave up: of a line it told a part by a failed output alone.
pub record HaltsBehind (w : World) (b : Book) (moment : ℕ) (ds : List Deed) (error : HostError) (u v : View)
    : Type 0 where
  pub fits : AreAllowed w (opening Intake b) (tool_items moment)
  pub may : may_steps (book_behind w b moment) (steps_in ds) ≡ true
  pub done : List Deed
  pub rest : List Deed
  pub all : ds ≡ done ++ rest
  pub part : ℕ
  pub short : part ≤ length (next_line rest)
  pub told : v.told ≡ ((u.told ++ life_text w b moment) ++ lines_in done) ++ take part (next_line rest)
  pub only_tell : error ≢ faults.Tell → part ≡ 0
  pub stands : StandsAfter (book_behind w b moment) done error v
  pub moments : LeavesOnly u v (IsLeftOfTool w b moment ds u.told)

-- what the task does on the book that the life leaves
abbrev pub deeds_behind : World → Book → ℕ → Task → List Deed
deeds_behind w b moment task = deeds_for task (book_behind w b moment)

-- Behind the whole life nothing was begun, or some of the task was done.
abbrev pub StopsBehind : World → Book → ℕ → Task → HostError → View → View → Type 0
StopsBehind w b moment task error u v = PlaysBehind w b moment [] u v
    ⊎ HaltsBehind w b moment (deeds_behind w b moment task) error u v

-- By each answer: all was done; the life didn't come to its end, and nothing behind it was begun; some message
-- was lacking, and the others had their turn; or the host gave up behind the life.
abbrev pub ToolEnds : World → Book → ℕ → Task → View → View → Result (Unit {0}) ToolError → Type 0
ToolEnds w b moment task u v (Ok done) = (lacks_some task (book_behind w b moment) ≡ false)
    × PlaysBehind w b moment (deeds_behind w b moment task) u v
ToolEnds w b moment task u v (Err (Life error)) = RunEnds w Intake b (life_taken w b moment) u v (Err error)
ToolEnds w b moment task u v (Err (Act acts.Absent)) = (lacks_some task (book_behind w b moment) ≡ true)
    × PlaysBehind w b moment (deeds_behind w b moment task) u v
ToolEnds w b moment task u v (Err (Act acts.Disk)) = StopsBehind w b moment task faults.Disk u v
ToolEnds w b moment task u v (Err (Act acts.Tell)) = StopsBehind w b moment task faults.Tell u v
ToolEnds w b moment task u v (Err (Act acts.NoMemory)) = StopsBehind w b moment task faults.NoMemory u v
