-- The book: all messages of a spool, and the files that are no queue files.
use Rattle.std.specs.List.{list_any}
use Rattle.std.specs.Prelude.{◌&&◌, ◌++◌, [], Bool, filter, find, is_some, List, map, Option, ◌||◌, ℕ}
use Rattle.q_model.specs.declared.id.Id.{Id}
use Rattle.q_model.specs.declared.rows.Place.{Place}
use Rattle.q_model.specs.Ids.{id_eq}
use Rattle.q_model.specs.Message.{Message}

-- a file of a message's name that is no queue file
pub record Damaged : Type 0 where
  pub id : Id
  pub place : Place

-- the last generation (0 for none), and all messages and damaged files; ids are distinct
pub record Book : Type 0 where
  pub generation : ℕ
  pub messages : List Message
  pub damaged : List Damaged

-- the book of an empty spool
abbrev pub empty_book : Book
empty_book = record { generation = 0; messages = []; damaged = [] }

-- the message of an id
abbrev pub message_of : Book → Id → Option Message
message_of b id = find (λ m. id_eq m.id id) b.messages

-- the damaged file of an id
abbrev pub damaged_of : Book → Id → Option Damaged
damaged_of b id = find (λ d. id_eq d.id id) b.damaged

-- the id has a file
abbrev pub stands : Book → Id → Bool
stands b id = is_some (message_of b id) || is_some (damaged_of b id)

-- the id has a file at a place that passes
abbrev pub stands_in : (Place → Bool) → Book → Id → Bool
stands_in place b id = list_any (λ m. id_eq m.id id && place m.place) b.messages
    || list_any (λ d. id_eq d.id id && place d.place) b.damaged

-- the ids at the places that pass
abbrev pub ids_at : (Place → Bool) → Book → List Id
ids_at place b =
    map (λ m. m.id) (filter (λ m. place m.place) b.messages)
    ++ map (λ d. d.id) (filter (λ d. place d.place) b.damaged)

-- the ids of the messages and of the damaged files
abbrev pub all_ids : Book → List Id
all_ids b = map (λ m. m.id) b.messages ++ map (λ d. d.id) b.damaged
