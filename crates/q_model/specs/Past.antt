-- What the entries of this life tell.
use Rattle.std.specs.Option.{option_map_or}
use Rattle.std.specs.Prelude.{Bool, count_by, false, is_some, not, slice_get, true, ℕ}
use Rattle.q_model.specs.declared.entry.Entry.{Entry}
use Rattle.q_model.specs.Ledger.{Ledger}
use Rattle.q_model.specs.declared.entry.Entry.TheVariants as entries

-- a delivery begins
abbrev pub is_start : Entry → Bool
is_start (entries.Start number id site positions) = true
is_start _ = false

-- a message arrives
abbrev pub is_arrive : Entry → Bool
is_arrive (entries.Arrive id sender to content) = true
is_arrive _ = false

-- the life ends as asked
abbrev pub is_end : Entry → Bool
is_end entries.End = true
is_end _ = false

-- a life begins
abbrev pub is_life : Entry → Bool
is_life (entries.Life generation mode) = true
is_life _ = false

-- a life has begun
abbrev pub has_entries : Ledger → Bool
has_entries l = is_some (slice_get l.past 0)

-- a life has begun, and hasn't ended
abbrev pub is_living : Ledger → Bool
is_living l = option_map_or (λ e. not (is_end e)) (slice_get l.past 0) false

-- the deliveries begun in this life
abbrev pub starts : Ledger → ℕ
starts l = count_by is_start l.past

-- the messages that came in this life
abbrev pub arrivals : Ledger → ℕ
arrivals l = count_by is_arrive l.past
