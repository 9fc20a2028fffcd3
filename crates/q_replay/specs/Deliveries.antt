-- How a life ends whose messages are delivered by SMTP.
use Rattle.std.specs.Prelude.{◌∷◌, ◌+◌, ◌++◌, ◌≡◌, ◌≢◌, ◌≤◌, [], Err, length, List, map, Ok, Result, true, ◌^◌, ℕ}
use Rattle.q_drain.specs.Drains.{IsQuiet, IsWhole}
use Rattle.q_drain.specs.Exits.{Delivered as AsPromised}
use Rattle.q_drain.specs.Opened.{GaveUp}
use Rattle.q_drain.specs.Standing.{HasGiven}
use Rattle.q_drain.specs.Stories.{Story}
use Rattle.q_drain.specs.Told.{events_of}
use Rattle.q_drain.specs.Swept.{Outsides}
use Rattle.q_drain.specs.Sweeps.{AllConnected, IsClocked}
use Rattle.q_drain.specs.Waited.{waiting_in}
use Rattle.q_entries.specs.Runs.{PlaysRun}
use Rattle.q_laws.specs.Traces.{AreAllowed}
use Rattle.q_model.specs.declared.limits.Bound.TheVariants.{Deliveries, Generation}
use Rattle.q_host.specs.View.{View}
use Rattle.q_host.specs.declared.error.HostError.{HostError}
use Rattle.q_host.specs.declared.error.HostError.TheVariants as faults
use Rattle.q_model.specs.Book.{Book}
use Rattle.q_model.specs.Ledger.{Ledger, opening}
use Rattle.q_model.specs.Past.{starts}
use Rattle.q_model.specs.Settings.{World}
use Rattle.q_model.specs.Step.{after_all}
use Rattle.q_model.specs.declared.entry.Entry.{Entry}
use Rattle.q_model.specs.declared.event.Event.{Event}
use Rattle.q_model.specs.declared.event.LifeEvent.{LifeEvent}
use Rattle.q_model.specs.declared.event.LifeEvent.TheVariants.{Begin, Finish, Heard}
use Rattle.q_model.specs.declared.event.Mode.TheVariants.{Deliver}
use Rattle.q_replay.specs.Reading.{is_spent}
use Rattle.q_replay.specs.RunEnds.{entries_on, IsTold, IsToldInPart}
use Rattle.q_replay.specs.declared.deliveries.Delivered.{Delivered}
use Rattle.q_replay.specs.declared.deliveries.Delivered.TheVariants.{All, Unfinished}
use Rattle.q_replay.specs.declared.error.ReplayError.{ReplayError}
use Rattle.q_replay.specs.declared.error.ReplayError.TheVariants as errors
use Rattle.q_restart.specs.Damages.{IsDamage}

-- the ledger of a life that has just begun on a book
abbrev pub begun_on : World → Book → Ledger
begun_on w b = after_all w (opening Deliver b) (entries_on w Deliver b (Begin ∷ []))

-- the items of a life that heard these events
abbrev pub life_of : List Event → List LifeEvent
life_of heard = Begin ∷ map Heard heard

-- the items that the lines of a story name
abbrev pub life_told : Story → List LifeEvent
life_told s = life_of (events_of s.told)

-- What holds of the story of a life that came to the end of a sweep.
pub record IsStoryOf (w : World) (b : Book) (o : Outsides) (s : Story) : Type 0 where
  pub whole : IsWhole w (begun_on w b) s
  pub given : HasGiven o.before.clock o.behind.clock s
  pub delivered : AsPromised w (begun_on w b) o s

-- No delivery is in flight, and the life has ended. Its items were allowed.
pub record DeliversAll (w : World) (b : Book) (o : Outsides) (u v : View) : Type 0 where
  pub story : Story
  pub fits : AreAllowed w (opening Deliver b) (life_told story ++ Finish ∷ [])
  pub told : IsTold w Deliver b (life_told story ++ Finish ∷ []) u v
  pub is : IsStoryOf w b o story
  pub quiet : IsQuiet w (begun_on w b) story

-- So many rests were given, and another is needed: in one sweep more every open session waited and none
-- was opened.
pub record LeavesSome (w : World) (b : Book) (o : Outsides) (rests : ℕ) (u v : View) : Type 0 where
  pub story : Story
  pub fits : AreAllowed w (opening Deliver b) (life_told story)
  pub told : IsTold w Deliver b (life_told story) u v
  pub is : IsStoryOf w b o story
  pub flies : (after_all w (begun_on w b) story.told).flights ≢ []
  pub rests_given : story.rests ≡ rests
  pub waited : waiting_in w (begun_on w b) story is.whole.sweeps ≡ rests + 1

-- It was given up in some first part of the life: no line of the story names the last event that was
-- heard. The lines before the story's and behind them name none.
pub record StopsDelivering (w : World) (b : Book) (o : Outsides) (fault : HostError) (u v : View) : Type 0 where
  pub story : Story
  pub items : List LifeEvent
  pub fits : AreAllowed w (opening Deliver b) items
  pub halts : IsToldInPart w Deliver b items fault u v
  pub before : List Entry
  pub behind : List Entry
  pub told : halts.done ≡ before ++ (story.told ++ behind)
  pub silent : events_of before ++ events_of behind ≡ []
  pub others : List LifeEvent
  pub few : length others ≤ 1
  pub front : (more : List LifeEvent) × (life_told story ++ others ≡ items ++ more)
  pub gave_up : GaveUp w (begun_on w b) o.before o.behind story

-- A session is over, and the life has begun as many deliveries as it may: its link was closed, and its
-- reply isn't told.
pub record HasNoNumber (w : World) (b : Book) (o : Outsides) (u v : View) : Type 0 where
  pub story : Story
  pub fits : AreAllowed w (opening Deliver b) (life_told story)
  pub plays : PlaysRun w (opening Deliver b) (entries_on w Deliver b (life_told story)) u v
  pub full : 2 ^ 48 ≤ starts (after_all w (begun_on w b) story.told)
  pub clocked : IsClocked story
  pub connected : AllConnected story
  pub gave_up : GaveUp w (begun_on w b) o.before o.behind story

-- By each answer; no generation was left, or the spool was found damaged, before anything was told.
-- Where the host tells, each queue file can be read.
abbrev pub DeliveryEnds : World → Book → Outsides → View → View → Result Delivered ReplayError → Type 0
DeliveryEnds w b o u v (Ok All) = DeliversAll w b o u v
DeliveryEnds w b o u v (Ok (Unfinished rests)) = LeavesSome w b o rests u v
DeliveryEnds w b o u v (Err errors.Disk) = StopsDelivering w b o faults.Disk u v
DeliveryEnds w b o u v (Err errors.Tell) = StopsDelivering w b o faults.Tell u v
DeliveryEnds w b o u v (Err errors.NoMemory) = StopsDelivering w b o faults.NoMemory u v
DeliveryEnds w b o u v (Err (errors.Limit Generation)) =
    (is_spent (opening Deliver b) ≡ true) × IsTold w Deliver b [] u v
DeliveryEnds w b o u v (Err (errors.Limit bound)) = (bound ≡ Deliveries) × HasNoNumber w b o u v
DeliveryEnds w b o u v (Err (errors.Damaged area name)) =
    IsTold w Deliver b [] u v × IsDamage v.files area name
DeliveryEnds w b o u v (Err errors.Source) = ⊥
DeliveryEnds w b o u v (Err (errors.Unreadable area name)) = ⊥
DeliveryEnds w b o u v (Err (errors.BadEvent line)) = ⊥
