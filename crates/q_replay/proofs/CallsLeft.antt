-- What a call leaves that takes the items of a list, or hands a message in.
use Rattle.std.proofs.Common.{◌≡◌, ◌≤◌, ◌++◌, ℕ, List, [], ◌∷◌, ap, subst}
use Rattle.std.specs.Prelude.{Err, Ok, Result}
use Rattle.q_events.specs.Forms.{IsMailInForm}
use Rattle.q_events.specs.declared.list_item.ListItem.TheVariants.{End, Step}
use Rattle.q_host.specs.View.{View}
use Rattle.q_host.specs.declared.error.HostError.{HostError}
use Rattle.q_host.specs.declared.error.HostError.TheVariants as faults
use Rattle.q_laws.specs.Consistency.{IsUsable}
use Rattle.q_laws.specs.Traces.{AreAllowed}
use Rattle.q_lives.specs.Lives.{IsOrderly}
use Rattle.q_model.specs.Book.{Book}
use Rattle.q_model.specs.Ledger.{opening}
use Rattle.q_model.specs.Settings.{World}
use Rattle.q_model.specs.declared.event.Event.TheVariants as events
use Rattle.q_model.specs.declared.event.LifeEvent.{LifeEvent}
use Rattle.q_model.specs.declared.event.Mode.{Mode}
use Rattle.q_model.specs.declared.event.Mode.TheVariants.{Deliver, Intake}
use Rattle.q_replay.proofs.AllowedItems.{allowed_front, list_allowed, list_begins}
use Rattle.q_replay.proofs.LivesLeft.{BeginsLife, halted_lives, played_lives}
use Rattle.q_replay.specs.AnyLists.{ListEnds, read_list, TakesList}
use Rattle.q_replay.specs.Listings.{bad, gives, Listing}
use Rattle.q_replay.specs.Submissions.{submitted}
use Rattle.q_replay.specs.declared.letters.Letter.{Letter}
use Rattle.q_replay.specs.LivesLeft.{LeavesLives}
use Rattle.q_replay.specs.Reading.{items_in, TakenItems}
use Rattle.q_replay.specs.RunEnds.{HaltsIn, IsFrontOf, IsTold, RunEnds}
use Rattle.q_replay.specs.declared.error.ReplayError.{ReplayError}
use Rattle.q_replay.specs.declared.error.ReplayError.TheVariants as errors

front_begins : (items more : List LifeEvent) → BeginsLife (items ++ more) → BeginsLife items
front_begins [] more h = tt
front_begins (i ∷ items) more h = h

module _ (w : World) (mode : Mode) (b : Book) (usable : IsUsable w) (orderly : IsOrderly b) (taken : TakenItems) (fits : AreAllowed w (opening mode b) (items_in taken)) (begins : BeginsLife (items_in taken)) (u v : View) where
  -- so many of the items were told
  front_told : (items : List LifeEvent) → IsFrontOf taken items → IsTold w mode b items u v → LeavesLives b u v
  front_told items (more, is) told =
      played_lives w mode b orderly usable items u v (front_begins items more (subst BeginsLife is begins)) (allowed_front w (opening mode b) items more (subst (AreAllowed w (opening mode b)) is fits)) told.plays

  all_told : (items : List LifeEvent) → items_in taken ≡ items → IsTold w mode b items u v → LeavesLives b u v
  all_told items is told = played_lives w mode b orderly usable items u v (subst BeginsLife is begins) (subst (AreAllowed w (opening mode b)) is fits) told.plays

  halted : (fault : HostError) → HaltsIn w mode b taken fault u v → LeavesLives b u v
  halted fault (items, (more, is), halts) =
      halted_lives w mode b orderly usable items fault u v (front_begins items more (subst BeginsLife is begins)) (allowed_front w (opening mode b) items more (subst (AreAllowed w (opening mode b)) is fits)) halts

  pub run_lives : (r : Result (Unit {0}) ReplayError) → RunEnds w mode b taken u v r → LeavesLives b u v
  run_lives (Ok done) e = all_told e.0 (ap items_in e.1) e.2
  run_lives (Err (errors.BadEvent line)) e = all_told e.0 (ap items_in e.1) e.2
  run_lives (Err (errors.Limit bound)) e = all_told e.0 (ap items_in e.1) e.2
  run_lives (Err errors.Disk) e = halted faults.Disk e
  run_lives (Err errors.Tell) e = halted faults.Tell e
  run_lives (Err errors.NoMemory) e = halted faults.NoMemory e
  run_lives (Err errors.Source) e = absurd e
  run_lives (Err (errors.Unreadable area name)) e = absurd e
  run_lives (Err (errors.Damaged area name)) e = front_told e.0 e.1 e.2

-- the items of a list
pub list_lives : (w : World) (b : Book) (u v : View) (r : Result (Unit {0}) ReplayError) → IsUsable w → IsOrderly b → TakesList w b u v r → LeavesLives b u v
list_lives w b u v r usable orderly takes = by r takes.ends
  where
    fits : AreAllowed w (opening Deliver b) (items_in (read_list w b takes.said))
    fits = list_allowed w Deliver b takes.said takes.form

    starts : BeginsLife (items_in (read_list w b takes.said))
    starts = list_begins w Deliver b takes.said

    same : (r : Result (Unit {0}) ReplayError) → RunEnds w Deliver b (read_list w b takes.said) u v r → LeavesLives b u v
    same r e = run_lives w Deliver b usable orderly (read_list w b takes.said) fits starts u v r e

    by : (r : Result (Unit {0}) ReplayError) → ListEnds w b takes.said u v r → LeavesLives b u v
    by (Ok done) e = same (Ok done) e
    by (Err errors.Source) (items, line, is, told) = all_told w Deliver b usable orderly (read_list w b takes.said) fits starts u v items (ap items_in is) told
    by (Err errors.Disk) e = same (Err errors.Disk) e
    by (Err errors.Tell) e = same (Err errors.Tell) e
    by (Err errors.NoMemory) e = same (Err errors.NoMemory) e
    by (Err (errors.BadEvent line)) e = same (Err (errors.BadEvent line)) e
    by (Err (errors.Limit bound)) e = same (Err (errors.Limit bound)) e
    by (Err (errors.Damaged area name)) e = same (Err (errors.Damaged area name)) e
    by (Err (errors.Unreadable area name)) e = same (Err (errors.Unreadable area name)) e

-- a message that is handed in
pub submission_lives : (w : World) (b : Book) (moment : ℕ) (letter : Letter) (u v : View) (r : Result (Unit {0}) ReplayError) → moment ≤ 999990000000 → IsMailInForm letter.sender letter.to → IsUsable w → IsOrderly b → RunEnds w Intake b (submitted w b moment letter) u v r → LeavesLives b u v
submission_lives w b moment letter u v r late form usable orderly e =
    let said : Listing = gives (Step (events.At moment) 1) 1 (gives (Step (events.Mail letter.sender letter.to letter.content) 2) 2 (gives End 3 (bad 4))) in
    run_lives w Intake b usable orderly (submitted w b moment letter) (list_allowed w Intake b said (late, (form, (tt, tt)))) (list_begins w Intake b said) u v r e
