-- The messages of queues in the order of a listing.
use Rattle.std.specs.Cmp.Lexicographic.{slice_cmp}
use Rattle.std.specs.Ordering.{is_lt, nat_cmp}
use Rattle.std.specs.Prelude.{◌++◌, [], Bool, filter, if◌then◌else◌, is_some, List, true}
use Rattle.q_model.specs.declared.rows.Place.{Place}
use Rattle.q_model.specs.declared.rows.Place.TheVariants as places
use Rattle.q_model.specs.Book.{Book}
use Rattle.q_model.specs.Message.{Message}
use Rattle.q_model.specs.Places.{due_of, is_active, is_incoming, place_eq}
use Rattle.q_model.specs.SpoolFiles.{name_at}
use Rattle.q_walk.specs.Orders.{in_order}
use Rattle.q_model.specs.declared.queues.Queues.{Queues}

-- the name of the first file stands before that of the second
abbrev pub comes_before : Message → Message → Bool
comes_before a b = is_lt (slice_cmp nat_cmp (name_at a.place a.id) (name_at b.place b.id))

-- in deferred, in hold
abbrev pub is_deferred : Place → Bool
is_deferred place = is_some (due_of place)

abbrev pub is_held : Place → Bool
is_held place = place_eq place places.Hold

-- the messages of a queue by their files' names, if the queue is chosen
abbrev pub of_queue : Bool → (Place → Bool) → Book → List Message
of_queue chosen queue b =
    if chosen then in_order comes_before (filter (λ m. queue m.place) b.messages) else []

-- the messages of the chosen queues
abbrev pub listed : Queues → Book → List Message
listed q b = of_queue q.incoming is_incoming b ++ (of_queue q.active is_active b
    ++ (of_queue q.deferred is_deferred b ++ of_queue q.hold is_held b))

-- all queues
abbrev pub all_queues : Queues
all_queues = record { incoming = true; active = true; deferred = true; hold = true }
