-- How a life ends that listens.
use Rattle.std.specs.Prelude.{◌++◌, ◌-◌, ◌<◌, ◌≡◌, ◌≤◌, ◌^◌, [], ◌∷◌, Err, length, List, Ok, Option, Result, Some, true, ℕ}
use Rattle.q_door.specs.Doors.{DoorView}
use Rattle.q_link.specs.Records.{counted}
use Rattle.q_model.specs.declared.limits.Bound.TheVariants.{Generation, Serial}
use Rattle.q_host.specs.View.{View}
use Rattle.q_laws.specs.Traces.{AreAllowed}
use Rattle.q_host.specs.declared.error.HostError.{HostError}
use Rattle.q_host.specs.declared.error.HostError.TheVariants as faults
use Rattle.q_listen.specs.Listens.{IsClocked, IsClockedSoFar, ServesAll, ServesClosed, ServesSome, ServesWhole}
use Rattle.q_listen.specs.Stories.{HasDone, HasGiven, Story}
use Rattle.q_listen.specs.Told.{life_told, mails_told}
use Rattle.q_listen.specs.declared.listened.ListenError.{ListenError}
use Rattle.q_listen.specs.declared.listened.ListenError.TheVariants as errors
use Rattle.q_listen.specs.declared.listened.Listened.{Listened}
use Rattle.q_listen.specs.declared.listened.Listened.TheVariants.{All, Unfinished}
use Rattle.q_model.specs.Book.{Book}
use Rattle.q_model.specs.Ledger.{opening}
use Rattle.q_model.specs.Settings.{World}
use Rattle.q_model.specs.declared.event.LifeEvent.{LifeEvent}
use Rattle.q_model.specs.declared.event.LifeEvent.TheVariants.{Finish}
use Rattle.q_model.specs.declared.event.Mode.TheVariants.{Intake}
use Rattle.q_replay.specs.Reading.{is_spent}
use Rattle.q_replay.specs.RunEnds.{IsTold, IsToldInPart}
use Rattle.q_restart.specs.Damages.{IsDamage}

-- what a clock and a door tell
pub record Outside : Type 0 where
  pub clock : Option (List ℕ)
  pub door : DoorView

-- before the call, and behind it
pub record Outsides : Type 0 where
  pub before : Outside
  pub behind : Outside

-- Where clock and door tell at the end, they tell this story, of which this holds.
pub record IsStoryOf (o : Outsides) (s : Story) (holds : Type 0) : Type 0 where
  pub given : HasGiven o.before.clock o.behind.clock s
  pub done : HasDone o.before.door o.behind.door s holds

-- All links were served, and the life has ended. Its items were allowed.
pub record ListensToAll (w : World) (b : Book) (port count : ℕ) (o : Outsides) (u v : View) : Type 0 where
  pub story : Story
  pub fits : AreAllowed w (opening Intake b) (life_told story.told ++ Finish ∷ [])
  pub told : IsTold w Intake b (life_told story.told ++ Finish ∷ []) u v
  pub clocked : IsClocked story
  pub is : IsStoryOf o story (ServesAll port count story)

-- So many rests were given, and another is needed: what was told is the whole run of the events so far,
-- and each link was closed.
pub record LeavesOff (w : World) (b : Book) (count rests : ℕ) (o : Outsides) (u v : View) : Type 0 where
  pub story : Story
  pub fits : AreAllowed w (opening Intake b) (life_told story.told)
  pub told : IsTold w Intake b (life_told story.told) u v
  pub clocked : IsClockedSoFar story
  pub is : IsStoryOf o story (ServesClosed count story)
  pub rests_given : story.rests ≡ rests

-- It was given up behind a whole event, as the door failed: no session was open.
pub record StopsBehind (w : World) (b : Book) (count : ℕ) (o : Outsides) (u v : View) : Type 0 where
  pub story : Story
  pub fits : AreAllowed w (opening Intake b) (life_told story.told)
  pub told : IsTold w Intake b (life_told story.told) u v
  pub clocked : IsClockedSoFar story
  pub is : IsStoryOf o story (ServesWhole count story)

-- It was given up behind a whole event, as no serial was left for a message: as many messages had come as there are.
pub record HasNoSerial (w : World) (b : Book) (count : ℕ) (o : Outsides) (u v : View) : Type 0 where
  pub story : Story
  pub fits : AreAllowed w (opening Intake b) (life_told story.told)
  pub told : IsTold w Intake b (life_told story.told) u v
  pub full : 2 ^ 32 - 1 ≤ length (mails_told story.told)
  pub clocked : IsClockedSoFar story
  pub is : IsStoryOf o story (ServesSome count story)

-- It was given up within an event, of which no line is whole: the host failed, or memory ran out.
pub record StopsWithin (w : World) (b : Book) (count : ℕ) (o : Outsides) (fault : HostError) (u v : View) : Type 0 where
  pub story : Story
  pub items : List LifeEvent
  pub fits : AreAllowed w (opening Intake b) items
  pub halts : IsToldInPart w Intake b items fault u v
  pub told : halts.done ≡ story.told
  pub others : List LifeEvent
  pub few : length others ≤ 1
  pub front : (more : List LifeEvent) × (life_told story.told ++ others ≡ items ++ more)
  pub clocked : IsClockedSoFar story
  pub is : IsStoryOf o story (ServesSome count story)

-- So many rests more were counted, up to the last value of a count.
abbrev pub CountsRests : DoorView → DoorView → ℕ → Type 0
CountsRests old new more = counted new.rests 0 ≡ counted old.rests more

-- so many rests are fewer than the links may answer `NotYet`, where it is known how often they may
abbrev pub AreTooFew : ℕ → DoorView → Type 0
AreTooFew rests door = (most : ℕ) → door.waits_left ≡ Some most → rests < most

-- By each answer; no generation was left, or the spool was found damaged, before anything was told.
abbrev pub ListenEnds : World → Book → ℕ → ℕ → Outsides → View → View → Result Listened ListenError → Type 0
ListenEnds w b port count o u v (Ok All) = ListensToAll w b port count o u v
ListenEnds w b port count o u v (Ok (Unfinished rests)) = LeavesOff w b count rests o u v
ListenEnds w b port count o u v (Err errors.Disk) = StopsWithin w b count o faults.Disk u v
ListenEnds w b port count o u v (Err errors.Tell) = StopsWithin w b count o faults.Tell u v
ListenEnds w b port count o u v (Err errors.NoMemory) = StopsWithin w b count o faults.NoMemory u v
ListenEnds w b port count o u v (Err errors.Door) = StopsBehind w b count o u v
ListenEnds w b port count o u v (Err (errors.Limit Generation)) =
    (is_spent (opening Intake b) ≡ true) × IsTold w Intake b [] u v
ListenEnds w b port count o u v (Err (errors.Limit bound)) = (bound ≡ Serial) × HasNoSerial w b count o u v
ListenEnds w b port count o u v (Err (errors.Damaged area name)) =
    IsTold w Intake b [] u v × IsDamage v.files area name
ListenEnds w b port count o u v (Err (errors.Unreadable area name)) = ⊥
