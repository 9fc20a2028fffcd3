-- How the counts of a message's rows change.
use Rattle.std.specs.Option.{option_map_or}
use Rattle.std.specs.Prelude.{◌+◌, ◌-◌, ◌^◌, find, List, map, min, ℕ}
use Rattle.q_model.specs.declared.id.Id.{Id}
use Rattle.q_pool.specs.Kept.{counted_at, is_of}
use Rattle.q_pool.specs.declared.kept.Kept.{Kept}

-- so many more, as far as the count goes
abbrev pub more : ℕ → ℕ → ℕ
more n count = min (count + n) (2 ^ 64 - 1)

abbrev pub with_waiting : ℕ → Kept → Kept
with_waiting n k = record k { waiting = more n k.waiting }

abbrev pub with_unsettled : ℕ → Kept → Kept
with_unsettled n k = record k { unsettled = more n k.unsettled }

-- a row that waited is in flight
abbrev pub with_flight : Kept → Kept
with_flight k = record k { waiting = k.waiting - 1; flying = more 1 k.flying }

-- a row that waited needs so many outcomes settled
abbrev pub with_row_put_off : ℕ → Kept → Kept
with_row_put_off n k = record k { waiting = k.waiting - 1; unsettled = more n k.unsettled }

abbrev pub without_flight : Kept → Kept
without_flight k = record k { flying = k.flying - 1 }

abbrev pub without_unsettled : ℕ → Kept → Kept
without_unsettled n k = record k { unsettled = k.unsettled - n }

-- the message of this id has the counts of another one
abbrev pub counted_as : Id → Kept → List Kept → List Kept
counted_as id k ks = map (counted_at id k.waiting k.flying k.unsettled) ks

-- its counts change, where it is in memory
abbrev pub recounted : (Kept → Kept) → Id → List Kept → List Kept
recounted change id ks = option_map_or (λ k. counted_as id (change k) ks) (find (is_of id) ks) ks
