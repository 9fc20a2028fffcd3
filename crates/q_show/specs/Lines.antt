-- The line of a position, by the addresses and the states that were read.
use Rattle.std.specs.BTreeMap.{BTreeMap}
use Rattle.std.specs.Prelude.{[], List, None, slice_index_or, ℕ}
use Rattle.q_model.specs.Values.{Receiver}
use Rattle.q_show.specs.declared.states.State.{State}
use Rattle.q_show.specs.Shown.{state_line}
use Rattle.q_show.specs.States.{state_in}

-- the address of a position
abbrev pub name_at : List Receiver → ℕ → List ℕ
name_at names position =
    (slice_index_or names position (record { address = []; original = None })).address

abbrev pub line_at : List Receiver → BTreeMap ℕ State → ℕ → List ℕ
line_at names kept position = state_line (name_at names position) (state_in kept position)
