-- Changes of the book.
use Rattle.std.specs.Prelude.{◌++◌, [], filter, if◌then◌else◌, map, not, ◌∷◌}
use Rattle.q_model.specs.declared.id.Id.{Id}
use Rattle.q_model.specs.declared.rows.Place.{Place}
use Rattle.q_model.specs.Book.{Book, Damaged}
use Rattle.q_model.specs.Ids.{id_eq}
use Rattle.q_model.specs.Message.{Message}

-- the message of this id is changed
abbrev pub change_message : Book → Id → (Message → Message) → Book
change_message b id change =
    record b { messages = map (λ (m : Message). if id_eq m.id id then change m else m) b.messages }

-- the message of this id stands at another place
abbrev pub move_message : Book → Id → Place → Book
move_message b id place = change_message b id (λ (m : Message). record m { place = place })

-- the damaged file of this id stands at another place
abbrev pub move_damaged : Book → Id → Place → Book
move_damaged b id place =
    record b { damaged = map (λ (d : Damaged). if id_eq d.id id then record d { place = place } else d) b.damaged }

-- the message of this id is gone
abbrev pub remove_message : Book → Id → Book
remove_message b id = record b { messages = filter (λ m. not (id_eq m.id id)) b.messages }

-- a message more
abbrev pub add_message : Book → Message → Book
add_message b m = record b { messages = b.messages ++ m ∷ [] }
