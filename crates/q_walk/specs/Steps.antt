-- The steps of a walk.
use Rattle.std.specs.Prelude.{◌≡◌, ◌<◌, [], false, List, None, Option, Some, true, ℕ}
use Rattle.q_books.specs.Spots.{spot_of}
use Rattle.q_message.specs.FileHeads.{IsHead}
use Rattle.q_model.specs.declared.id.Id.{Id}
use Rattle.q_model.specs.declared.rows.Place.{Place}
use Rattle.q_model.specs.Book.{Book}
use Rattle.q_model.specs.Message.{Message}
use Rattle.q_model.specs.QueueFile.{queue_file}
use Rattle.q_model.specs.SpoolFiles.{file_at, Files}
use Rattle.q_scan.specs.Walks.{IsNextOf}
use Rattle.q_walk.specs.declared.walk.Found.{Found}
use Rattle.q_walk.specs.declared.walk.Step.{Step}
use Rattle.q_walk.specs.declared.walk.Step.TheVariants as steps
use Rattle.q_walk.specs.declared.walk.Walk.{Walk}
use Rattle.q_walk.specs.Queues.{is_chosen}
use Rattle.q_walk.specs.Walks.{GivesNext, IsAhead, walk_left}

-- what was found is the file of the place and id, which has these bytes
pub record IsFileFound (place : Place) (id : Id) (bytes : List ℕ) (found : Found) : Type 0 where
  pub spot : found.spot ≡ spot_of place id
  pub same_place : found.place ≡ place
  pub same_id : found.id ≡ id
  pub head : IsHead found.head bytes

-- the same, where the bytes are a queue file; nothing is found of other bytes
abbrev pub Says : Place → Id → List ℕ → Option Found → Type 0
Says place id bytes None = queue_file bytes ≡ None
Says place id bytes (Some found) = IsFileFound place id bytes found

-- the same of the file that stands there, if there is one
abbrev pub SaysFile : Files → Place → Id → Option Found → Type 0
SaysFile f place id found = (bytes : List ℕ) → file_at f place id ≡ Some bytes
    → Says place id bytes found

-- the next name of the walk's queue, and none where the queue isn't chosen
pub record IsNextName (f : Files) (w : Walk) (o : Option (List ℕ)) : Type 0 where
  pub chosen : is_chosen w.queues w.queue ≡ true → IsNextOf f w.scan 999999999999 o
  pub passed : is_chosen w.queues w.queue ≡ false → o ≡ None

-- what a step leaves ahead of the walk
abbrev pub Leads : Files → Book → Walk → List Message → Step → Type 0
Leads f b w ms (steps.Given found) = GivesNext f b w ms (Some found)
Leads f b w ms steps.Passed = IsAhead f b w ms
Leads f b w ms steps.Ended = ms ≡ []

-- unless it ended, the walk may come to fewer names
abbrev pub LeavesFewer : Walk → Walk → Step → Type 0
LeavesFewer old new steps.Ended = Unit {0}
LeavesFewer old new step = walk_left new < walk_left old
