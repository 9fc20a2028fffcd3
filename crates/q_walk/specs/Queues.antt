-- The queues of a walk.
use Rattle.std.specs.Prelude.{◌≡◌, ◌++◌, ◌+◌, ◌*◌, [], Bool, List, None, Option, Some, true, ℕ}
use Rattle.q_host.specs.NamesLeft.{names_left}
use Rattle.q_model.specs.declared.id.Id.{Id}
use Rattle.q_model.specs.declared.rows.Place.{Place}
use Rattle.q_model.specs.declared.spot.Area.{Area}
use Rattle.q_model.specs.declared.spot.Area.TheVariants as areas
use Rattle.q_model.specs.Book.{Book}
use Rattle.q_model.specs.IdTexts.{IsId}
use Rattle.q_model.specs.Message.{Message}
use Rattle.q_model.specs.Places.{is_active, is_incoming}
use Rattle.q_model.specs.SpoolFiles.{IsPlace, name_at}
use Rattle.q_walk.specs.declared.queue.Queue.{Queue}
use Rattle.q_walk.specs.declared.queue.Queue.TheVariants as queues
use Rattle.q_walk.specs.Listed.{is_deferred, is_held, of_queue}
use Rattle.q_model.specs.declared.queues.Queues.{Queues}

-- the area of its files
abbrev pub queue_area : Queue → Area
queue_area queues.Incoming = areas.Incoming
queue_area queues.Active = areas.Active
queue_area queues.Deferred = areas.Deferred
queue_area queues.Hold = areas.Hold

-- the queue behind this one
abbrev pub queue_after : Queue → Option Queue
queue_after queues.Incoming = Some queues.Active
queue_after queues.Active = Some queues.Deferred
queue_after queues.Deferred = Some queues.Hold
queue_after queues.Hold = None

-- the queue was chosen
abbrev pub is_chosen : Queues → Queue → Bool
is_chosen q queues.Incoming = q.incoming
is_chosen q queues.Active = q.active
is_chosen q queues.Deferred = q.deferred
is_chosen q queues.Hold = q.hold

-- the place is in the queue
abbrev pub is_in : Queue → Place → Bool
is_in queues.Incoming place = is_incoming place
is_in queues.Active place = is_active place
is_in queues.Deferred place = is_deferred place
is_in queues.Hold place = is_held place

-- a file of the queue with this place and id has the name
pub record IsNamed (queue : Queue) (name : List ℕ) (place : Place) (id : Id) : Type 0 where
  pub form : IsId id
  pub fits : IsPlace place
  pub inside : is_in queue place ≡ true
  pub says : name_at place id ≡ name

-- the messages of the queue, if it is chosen
abbrev pub held_in : Queues → Queue → Book → List Message
held_in q queue b = of_queue (is_chosen q queue) (is_in queue) b

-- the messages of the chosen queues behind this one
abbrev pub held_behind : Queues → Queue → Book → List Message
held_behind q queues.Incoming b = held_in q queues.Active b
    ++ (held_in q queues.Deferred b ++ held_in q queues.Hold b)
held_behind q queues.Active b = held_in q queues.Deferred b ++ held_in q queues.Hold b
held_behind q queues.Deferred b = held_in q queues.Hold b
held_behind q queues.Hold b = []

-- how many names there may be in the queues behind this one, and one more of each
abbrev pub names_behind : Queue → ℕ
names_behind queues.Incoming = 3 * (1 + names_left None)
names_behind queues.Active = 2 * (1 + names_left None)
names_behind queues.Deferred = 1 + names_left None
names_behind queues.Hold = 0
