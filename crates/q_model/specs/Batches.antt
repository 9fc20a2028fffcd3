-- What a load reads, and how it groups recipients for delivery (postconf(5): default_destination_recipient_limit).
use Rattle.std.specs.Option.{option_map_or}
use Rattle.std.specs.Prelude.{◌&&◌, ◌+◌, ◌++◌, ◌-◌, [], filter, if◌then◌else◌, length, List, nat_le, nat_lt, slice_get, ℕ, ◌∷◌}
use Rattle.q_model.specs.declared.id.Id.{Id}
use Rattle.q_model.specs.declared.rows.Row.{Row}
use Rattle.q_model.specs.Sites.{site_eq}
use Rattle.q_model.specs.Message.{address_at, Message, pending}
use Rattle.q_model.specs.Settings.{World}
use Rattle.q_model.specs.Values.{Site}

-- the pending positions from a place on
abbrev pub pending_from : Message → ℕ → List ℕ
pending_from m from = filter (λ p. nat_le from p) (pending m)

-- The least place with `free` pending positions from `from` on: just behind the last of them. Or
-- the number of recipients, where there are fewer.
abbrev pub load_end : Message → ℕ → ℕ → ℕ
load_end m from free = option_map_or (λ p. p + 1) (slice_get (pending_from m from) (free - 1)) (length m.recipients)

-- the positions that a load takes
abbrev pub load_positions : Message → ℕ → ℕ → List ℕ
load_positions m from to = filter (λ p. nat_lt p to) (pending_from m from)

-- A position joins the row of its site that isn't full, or begins one.
abbrev pub join_rows : ℕ → Id → Site → ℕ → List Row → List Row
join_rows limit id site position [] = record { id = id; site = site; positions = position ∷ [] } ∷ []
join_rows limit id site position (r ∷ rs) = if site_eq r.site site && nat_lt (length r.positions) limit
    then record r { positions = r.positions ++ position ∷ [] } ∷ rs else r ∷ join_rows limit id site position rs

-- the rows, with these positions joined to them in order
abbrev pub rows_from : World → Message → List Row → List ℕ → List Row
rows_from w m rows [] = rows
rows_from w m rows (p ∷ ps) =
    rows_from w m (join_rows w.settings.entry_limit m.id (w.table.route (address_at m p)) p rows) ps

-- the rows that a load makes
abbrev pub load_rows : World → Message → ℕ → ℕ → List Row
load_rows w m from to = rows_from w m [] (load_positions m from to)
