-- What a walk over queues gives.
use Rattle.std.specs.Cmp.Lexicographic.{slice_cmp}
use Rattle.std.specs.Ordering.{is_lt, nat_cmp}
use Rattle.std.specs.Prelude.{◌≡◌, ◌++◌, ◌+◌, ◌∷◌, [], Bool, filter, List, None, Option, Some, true, ℕ}
use Rattle.q_books.specs.Spots.{spot_of}
use Rattle.q_host.specs.NamesLeft.{names_left}
use Rattle.q_message.specs.FileHeads.{head_of}
use Rattle.q_model.specs.Book.{Book}
use Rattle.q_model.specs.FilesStand.{file_message, MessageStands}
use Rattle.q_model.specs.Message.{Message}
use Rattle.q_model.specs.SpoolFiles.{Files, name_at}
use Rattle.q_scan.specs.Walks.{IsUpToDate}
use Rattle.q_walk.specs.declared.walk.Found.{Found}
use Rattle.q_walk.specs.declared.walk.Walk.{Walk}
use Rattle.q_walk.specs.Queues.{held_behind, held_in, names_behind, queue_area}

-- the message's file stands behind the name; each stands behind none
abbrev pub is_behind : Option (List ℕ) → Message → Bool
is_behind None m = true
is_behind (Some name) m = is_lt (slice_cmp nat_cmp name (name_at m.place m.id))

-- the messages behind the name
abbrev pub left : Option (List ℕ) → List Message → List Message
left place ms = filter (is_behind place) ms

-- The walk will give these messages of the book, one behind another, while the files are these.
pub record IsAhead (f : Files) (b : Book) (w : Walk) (ms : List Message) : Type 0 where
  pub area : w.scan.area ≡ queue_area w.queue
  pub up_to_date : IsUpToDate f w.scan
  pub all : ms ≡ left w.scan.place (held_in w.queues w.queue b) ++ held_behind w.queues w.queue b

-- this is the message, and its file stands at the spot and has this head
pub record IsFound (f : Files) (m : Message) (found : Found) : Type 0 where
  pub stands : MessageStands f m
  pub spot : found.spot ≡ spot_of m.place m.id
  pub id : found.id ≡ m.id
  pub place : found.place ≡ m.place
  pub head : found.head ≡ head_of (file_message m)

-- Of the messages that are ahead the first is given, and the rest stays ahead.
abbrev pub GivesNext : Files → Book → Walk → List Message → Option Found → Type 0
GivesNext f b w ms None = ms ≡ []
GivesNext f b w ms (Some found) = (m : Message) × (rest : List Message)
    × (ms ≡ m ∷ rest) × IsFound f m found × IsAhead f b w rest

-- how many names a walk may still come to, and one more of each queue behind
abbrev pub walk_left : Walk → ℕ
walk_left w = names_behind w.queue + names_left w.scan.place
