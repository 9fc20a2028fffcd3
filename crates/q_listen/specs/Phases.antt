-- How a life that listens goes on, is left off or given up, where so much was done with its door.
use Rattle.std.specs.Prelude.{◌+◌, ◌-◌, ◌^◌, ◌≡◌, ◌≤◌, ◌<◌, Bool, Err, false, IsTrue, List, None, Ok, Option, Result, Some, ℕ}
use Rattle.q_door.specs.Doors.{DoorView, Rests}
use Rattle.q_engine.specs.Steps.{StandsForSome}
use Rattle.q_host.specs.View.{View}
use Rattle.q_link.specs.Records.{IsRested}
use Rattle.q_link.specs.Views.{View as LinkView}
use Rattle.q_link.specs.WaitsLeft.{Spares, waits_sum}
use Rattle.q_listen.specs.Courses.{GaveUp, IsCourse, IsGoing, Start}
use Rattle.q_listen.specs.ListenEnds.{AreTooFew, CountsRests, ListenEnds, Outside, Outsides}
use Rattle.q_listen.specs.Listens.{IsClockedSoFar, ServesClosed, ServesSome, ServesWhole}
use Rattle.q_listen.specs.Runs.{IsRun}
use Rattle.q_listen.specs.Sessions.{InSession, IsAccepted, IsBetween, IsGivenUp, IsOver, IsUnbound}
use Rattle.q_listen.specs.Serving.{next_task, Task}
use Rattle.q_listen.specs.Stories.{HasDone, HasGiven, Story}
use Rattle.q_listen.specs.declared.hearing.Life.{Life}
use Rattle.q_listen.specs.declared.listened.ListenError.{ListenError}
use Rattle.q_listen.specs.declared.listened.ListenError.TheVariants as errors
use Rattle.q_listen.specs.declared.listened.Listened.{Listened}
use Rattle.q_listen.specs.declared.polling.Polled.{Polled}
use Rattle.q_listen.specs.declared.polling.Polled.TheVariants.{Onward, Over, Spent}
use Rattle.q_smtpd.specs.declared.session.Session.{Session}

-- It goes on, and where the door tells, this holds of what was done with it.
pub record GoesOn {H : Type 0} (view : H → View) (o : Start H) (z : Outside) (v : View) (holds : Story → Type 0) (life : Life)
    : Type 0 where
  pub story : Story
  pub course : IsCourse view o z.clock v life story
  pub done : HasDone o.outside.door z.door story (holds story)

-- All rests were given, and another is needed.
pub record IsLeft {H : Type 0} (view : H → View) (o : Start H) (z : Outside) (v : View) (holds : Story → Type 0) (rests : ℕ)
    : Type 0 where
  pub story : Story
  pub run : IsRun o.world o.book (view o.host) v story.told
  pub clocked : IsClockedSoFar story
  pub given : HasGiven o.outside.clock z.clock story
  pub rested : story.rests ≡ rests
  pub done : HasDone o.outside.door z.door story (holds story)

-- It was given up.
pub record IsRefused {H : Type 0} (view : H → View) (o : Start H) (z : Outside) (v : View) (holds : Story → Type 0) (error : ListenError)
    : Type 0 where
  pub story : Story
  pub gave_up : GaveUp view o z.clock v error story
  pub done : HasDone o.outside.door z.door story (holds story)

-- ---- by an answer

-- what holds where it goes on, where another rest is needed, and by its refusal where it is given up
abbrev pub ServedTo : {H : Type 0} → (H → View) → Start H → Outside → View → (Story → Type 0) → (Story → Type 0)
    → (ListenError → Story → Type 0) → ℕ → Result (Option Life) ListenError → Type 0
ServedTo view o z v holds left ends rests (Ok (Some life)) = GoesOn view o z v holds life
ServedTo view o z v holds left ends rests (Ok None) = IsLeft view o z v left rests
ServedTo view o z v holds left ends rests (Err error) = IsRefused view o z v (ends error) error

-- what holds of the links where the call is given up: where the door failed, no session was open
abbrev pub GivesUp : ℕ → ListenError → Story → Type 0
GivesUp count errors.Door s = ServesWhole count s
GivesUp count errors.Disk s = ServesSome count s
GivesUp count errors.Tell s = ServesSome count s
GivesUp count errors.NoMemory s = ServesSome count s
GivesUp count (errors.Limit bound) s = ServesSome count s
GivesUp count (errors.Damaged area name) s = ServesSome count s
GivesUp count (errors.Unreadable area name) s = ServesSome count s

-- the same of a poll
abbrev pub PolledTo : {H : Type 0} → (H → View) → Start H → Outside → View → Task → LinkView → Session → ℕ
    → Result Polled ListenError → Type 0
PolledTo view o z v k link i rests (Ok (Onward life)) =
    GoesOn view o z v (InSession k 0 link i) life
PolledTo view o z v k link i rests (Ok (Over life)) =
    GoesOn view o z v (IsOver k link) life
PolledTo view o z v k link i rests (Ok Spent) =
    IsLeft view o z v (IsGivenUp k link) rests
PolledTo view o z v k link i rests (Err error) =
    IsRefused view o z v (IsGivenUp k link) error

-- a session whose link has no record for want of memory
abbrev pub unrecorded : Result (Option Life) ListenError → Result (Option Life) ListenError
unrecorded (Ok served) = Err errors.NoMemory
unrecorded (Err error) = Err error

-- ---- by what holds before a call

-- a poll, which reads no clock
abbrev pub ServesPoll : {H : Type 0} → (H → View) → DoorView → DoorView → View → View → Life → LinkView → LinkView → Session → Session → ℕ
    → Result Polled ListenError → Type 0
ServesPoll {H} view d e u v life l m i j rests result = (o : Start H) → (clock : Option (List ℕ)) → (k : Task)
    → GoesOn view o (record { clock = clock; door = d }) u (InSession k 1 l i) life
    → PolledTo view o (record { clock = clock; door = e }) v k m j rests result

-- a session, from its link's accept to its last poll
abbrev pub ServesSession : {H : Type 0} → (H → View) → Outsides → View → View → Life → LinkView → LinkView → ℕ
    → Result (Option Life) ListenError → Type 0
ServesSession {H} view z u v life l m rests result = (o : Start H) → (k : Task)
    → GoesOn view o z.before u (IsAccepted k l) life
    → ServedTo view o z.behind v (IsOver k m) (IsGivenUp k m) (λ error. IsGivenUp k m) rests result

-- a link
abbrev pub ServesLink : {H : Type 0} → (H → View) → Outsides → View → View → Life → ℕ → Result (Option Life) ListenError → Type 0
ServesLink {H} view z u v life rests result = (o : Start H) → (k : Task) → k.served < k.count
    → GoesOn view o z.before u (IsBetween k) life
    → ServedTo view o z.behind v (IsBetween (next_task k)) (ServesClosed k.count) (GivesUp k.count) rests result

-- all links
abbrev pub ServesLinks : {H : Type 0} → (H → View) → Outsides → View → View → Life → ℕ → ℕ → Result (Option Life) ListenError → Type 0
ServesLinks {H} view z u v life count rests result = (o : Start H) → (port : ℕ)
    → GoesOn view o z.before u (IsBetween (record { port = port; count = count; served = 0 })) life
    → ServedTo view o z.behind v (IsBetween (record { port = port; count = count; served = count })) (ServesClosed count)
    (GivesUp count) rests result

-- a life that has begun
abbrev pub ListensOn : {H : Type 0} → (H → View) → Outsides → View → View → Life → ℕ → ℕ → Result Listened ListenError → Type 0
ListensOn {H} view z u v life port count result = (o : Start H)
    → GoesOn view o z.before u IsUnbound life
    → ListenEnds o.world o.book port count (record { before = o.outside; behind = z.behind }) (view o.host) v result

-- ---- whatever is told

-- From this door on so many rests were counted, and at least as often the links answered `NotYet`.
pub record IsCounted (first now : DoorView) (left : Option ℕ) (given : ℕ) : Type 0 where
  pub rests : CountsRests first now given
  pub spares : Spares given first.waits_left left

-- so many are all
pub record IsSpent (first now : DoorView) (rests : ℕ) : Type 0 where
  pub rests_are : CountsRests first now rests
  pub few : AreTooFew rests first

-- so it is counted behind a call, where it was before: of a life that goes on, or of all rests
abbrev pub CountedTo : DoorView → DoorView → ℕ → Result (Option Life) ListenError → Type 0
CountedTo first new rests (Ok (Some life)) = IsCounted first new new.waits_left life.given
CountedTo first new rests (Ok None) = IsSpent first new rests
CountedTo first new rests (Err error) = Unit {0}

abbrev pub CountsServed : DoorView → Option ℕ → Life → DoorView → ℕ → Result (Option Life) ListenError → Type 0
CountsServed old left life new rests result = (first : DoorView) → IsCounted first old left life.given
    → CountedTo first new rests result

-- the same of a poll
abbrev pub CountedPoll : DoorView → DoorView → LinkView → ℕ → Result Polled ListenError → Type 0
CountedPoll first new link rests (Ok (Onward life)) =
    IsCounted first new (waits_sum new.waits_left link.waits_left) life.given
CountedPoll first new link rests (Ok (Over life)) = IsCounted first new new.waits_left life.given
CountedPoll first new link rests (Ok Spent) = IsSpent first new rests
CountedPoll first new link rests (Err error) = Unit {0}

abbrev pub CountsPolled : DoorView → LinkView → Life → DoorView → LinkView → ℕ → Result Polled ListenError → Type 0
CountsPolled old link life new next rests result = (first : DoorView)
    → IsCounted first old (waits_sum old.waits_left link.waits_left) life.given
    → CountedPoll first new next rests result

-- A life that goes on may, its engine stands for some ledger with a host that tells, and no more rests
-- were given than may be.
pub record IsReadyAt (tells : Bool) (rests : ℕ) (v : View) (life : Life) : Type 0 where
  pub going : IsGoing life
  pub stands : IsTrue tells → StandsForSome life.engine v
  pub few : life.given ≤ rests

abbrev pub StaysReady : Bool → ℕ → View → Result (Option Life) ListenError → Type 0
StaysReady tells rests v (Ok (Some life)) = IsReadyAt tells rests v life
StaysReady tells rests v (Ok None) = Unit {0}
StaysReady tells rests v (Err error) = Unit {0}

-- so does a session, which may be polled once more, or is over
abbrev pub PollsOn : Bool → ℕ → View → Session → Result Polled ListenError → Type 0
PollsOn tells rests v i (Ok (Onward life)) =
    IsReadyAt tells rests v life × (life.first ≡ false) × (i.over ≡ false) × (i.untaken ≡ false)
PollsOn tells rests v i (Ok (Over life)) = IsReadyAt tells rests v life
PollsOn tells rests v i (Ok Spent) = Unit {0}
PollsOn tells rests v i (Err error) = Unit {0}

-- how many rests and bytes may still come
abbrev pub left_over : ℕ → Life → Session → ℕ
left_over rests life i = (rests - life.given) + (2 ^ 40 - i.count)

-- fewer are left of a session that goes on
abbrev pub LeavesLess : ℕ → Life → Session → Session → Result Polled ListenError → Type 0
LeavesLess rests life i j (Ok (Onward next)) = left_over rests next j < left_over rests life i
LeavesLess rests life i j (Ok (Over next)) = Unit {0}
LeavesLess rests life i j (Ok Spent) = Unit {0}
LeavesLess rests life i j (Err error) = Unit {0}

-- A rest was given, unless all were.
abbrev pub RestsOnce : DoorView → DoorView → LinkView → LinkView → Life → ℕ → Polled → Type 0
RestsOnce d e l m life rests (Onward next) =
    (next ≡ record life { given = life.given + 1 }) × (life.given < rests) × Rests d e × IsRested l m
RestsOnce d e l m life rests (Over next) = ⊥
RestsOnce d e l m life rests Spent = (life.given ≡ rests) × (e ≡ d) × (m ≡ l)

-- the door stays bound, or not, and failed no more
pub record KeepsDoor (old new : DoorView) : Type 0 where
  pub door_faults : new.door_faults ≡ old.door_faults
  pub bound : new.bound ≡ old.bound
