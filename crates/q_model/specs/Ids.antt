-- Equality and order of message ids, and the bounce of an id.
use Rattle.std.specs.List.{list_any}
use Rattle.std.specs.Prelude.{◌&&◌, ◌==◌, [], Bool, false, List, nat_lt, not, true, ◌||◌, ◌∷◌}
use Rattle.q_model.specs.declared.id.Id.{Id}

-- both or neither
abbrev pub bool_eq : Bool → Bool → Bool
bool_eq true b = b
bool_eq false b = not b

-- the same id
abbrev pub id_eq : Id → Id → Bool
id_eq a b = (a.generation == b.generation) && (a.serial == b.serial) && bool_eq a.bounce b.bounce

-- the order of the names' bytes
abbrev pub id_before : Id → Id → Bool
id_before a b = nat_lt a.generation b.generation
    || ((a.generation == b.generation)
    && (nat_lt a.serial b.serial || ((a.serial == b.serial) && not a.bounce && b.bounce)))

-- the id of the bounce of a message
abbrev pub bounce_of : Id → Id
bounce_of a = record a { bounce = true }

-- the id of the message that a bounce is of
abbrev pub cause_of : Id → Id
cause_of a = record a { bounce = false }

-- no id twice
abbrev pub are_distinct : List Id → Bool
are_distinct [] = true
are_distinct (id ∷ ids) = not (list_any (λ i. id_eq i id) ids) && are_distinct ids
