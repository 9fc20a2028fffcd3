-- Messages in active that an earlier life left there.
use Rattle.std.specs.List.{list_any}
use Rattle.std.specs.Option.{option_map_or}
use Rattle.std.specs.Prelude.{Bool, false, filter, List, not, Option}
use Rattle.q_model.specs.declared.id.Id.{Id}
use Rattle.q_model.specs.Book.{ids_at}
use Rattle.q_model.specs.Ids.{id_before, id_eq}
use Rattle.q_model.specs.Ledger.{Ledger}
use Rattle.q_model.specs.Lists.{least}
use Rattle.q_model.specs.Memory.{is_admitted}
use Rattle.q_model.specs.Places.{is_active}

-- the ids in active that are not in memory
abbrev pub leftovers : Ledger → List Id
leftovers l = filter (λ id. not (is_admitted l id)) (ids_at is_active l.book)

-- the id is one of these
abbrev pub is_leftover : Ledger → Id → Bool
is_leftover l id = list_any (id_eq id) (leftovers l)

-- the least of these
abbrev pub next_leftover : Ledger → Option Id
next_leftover l = least id_before (leftovers l)

-- the id is the least of these
abbrev pub is_next_leftover : Ledger → Id → Bool
is_next_leftover l id = option_map_or (λ x. id_eq x id) (next_leftover l) false

-- the leftover was synced in this life
abbrev pub was_synced : Ledger → Id → Bool
was_synced l id = list_any (id_eq id) l.synced
