-- Which positions of a message are pending, one by one.
use Rattle.std.specs.Option.{option_map_or}
use Rattle.std.specs.Prelude.{◌&&◌, Bool, drop, false, List, not, slice_get, ◌||◌, ℕ}
use Rattle.q_model.specs.Lists.{places_from}
use Rattle.q_model.specs.Marks.{is_marked}
use Rattle.q_model.specs.Message.{is_logged, Message, Recipient}

-- neither marked nor logged
abbrev pub is_open : Message → ℕ → Recipient → Bool
is_open m i r = not (is_marked r.mark || is_logged m i)

-- logged and not marked
abbrev pub lacks_mark : Message → ℕ → Recipient → Bool
lacks_mark m i r = not (is_marked r.mark) && is_logged m i

-- a position passes
abbrev pub passes_in : Message → (ℕ → Recipient → Bool) → ℕ → Bool
passes_in m test i = option_map_or (test i) (slice_get m.recipients i) false

-- the positions that pass, from one on
abbrev pub positions_behind : Message → (ℕ → Recipient → Bool) → ℕ → List ℕ
positions_behind m test from = places_from from test (drop from m.recipients)
