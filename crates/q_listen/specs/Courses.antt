-- How a life that listens stands: what was told, what the clock gave, and what engine and host stand for.
use Rattle.std.specs.Prelude.{◌≡◌, ◌≢◌, [], Bool, false, List, Option, true, ℕ}
use Rattle.q_drain.specs.Told.{moment_after}
use Rattle.q_engine.specs.Stands.{EngineStands, IsReady}
use Rattle.q_host.specs.View.{View}
use Rattle.q_listen.specs.ListenEnds.{Outside}
use Rattle.q_listen.specs.Listens.{greatest, IsClocked, IsClockedSoFar}
use Rattle.q_listen.specs.Runs.{IsRun, IsStopped, ledger_of}
use Rattle.q_listen.specs.Stories.{HasGiven, Story}
use Rattle.q_listen.specs.declared.hearing.Life.{Life}
use Rattle.q_listen.specs.declared.listened.ListenError.{ListenError}
use Rattle.q_model.specs.Book.{Book}
use Rattle.q_model.specs.Settings.{World}

-- where a life began: on this host, for this book, when clock and door were so
pub record Start (H : Type 0) : Type 0 where
  pub host : H
  pub world : World
  pub book : Book
  pub outside : Outside

-- no moment came yet, or one did
abbrev pub IsFirst : Bool → Story → Type 0
IsFirst true s = s.moments ≡ []
IsFirst false s = s.moments ≢ []

-- Since then all of this was told, and engine and host stand for what it led to.
pub record IsCourse {H : Type 0} (view : H → View) (o : Start H) (clock : Option (List ℕ)) (v : View) (life : Life) (s : Story)
    : Type 0 where
  pub run : IsRun o.world o.book (view o.host) v s.told
  pub stands : EngineStands o.world life.engine v (ledger_of o.world o.book s.told)
  pub clocked : IsClocked s
  pub now : (ledger_of o.world o.book s.told).now ≡ greatest s.moments
  pub named : moment_after 0 s.told ≡ greatest s.moments
  pub first : IsFirst life.first s
  pub given : HasGiven o.outside.clock clock s
  pub rested : s.rests ≡ life.given

-- It was given up, and this was told before.
pub record GaveUp {H : Type 0} (view : H → View) (o : Start H) (clock : Option (List ℕ)) (v : View) (error : ListenError) (s : Story)
    : Type 0 where
  pub stopped : IsStopped o.world o.book error (view o.host) v s.told
  pub clocked : IsClockedSoFar s
  pub given : HasGiven o.outside.clock clock s

-- its engine may hear an event, and a moment came unless it is still to hear the first
pub record IsGoing (life : Life) : Type 0 where
  pub ready : IsReady life.engine
  pub timed : life.first ≡ false → life.engine.core.value.timed ≡ true
