-- How recipients are grouped in rows.
use Rattle.std.specs.Option.{option_map_or}
use Rattle.std.specs.Prelude.{◌&&◌, ◌++◌, ◌-◌, ◌≡◌, [], Bool, if◌then◌else◌, length, List, nat_lt, None, Option, option_map, set, slice_get, Some, ◌∷◌, ℕ}
use Rattle.q_model.specs.Batches.{join_rows}
use Rattle.q_model.specs.declared.id.Id.{Id}
use Rattle.q_model.specs.declared.rows.Row.{Row}
use Rattle.q_model.specs.Message.{Message}
use Rattle.q_model.specs.Settings.{World}
use Rattle.q_model.specs.Sites.{site_eq}
use Rattle.q_model.specs.Values.{Site}
use Rattle.q_ledger.specs.Pending.{is_open, passes_in}

-- the row is of this site, and not full
abbrev pub has_space : ℕ → Site → Row → Bool
has_space limit site r = site_eq r.site site && nat_lt (length r.positions) limit

-- a row of one position
abbrev pub row_of_one : Id → Site → ℕ → Row
row_of_one id site position = record { id = id; site = site; positions = position ∷ [] }

-- the row at this place has one more position
abbrev pub HasJoined : ℕ → ℕ → List Row → List Row → Type 0
HasJoined place position old new = (r : Row) → slice_get old place ≡ Some r
    → new ≡ set old place (record r { positions = r.positions ++ position ∷ [] })

-- of so many positions one less, where this one is pending
abbrev pub left_behind : Message → ℕ → ℕ → ℕ
left_behind m position left = left - (if passes_in m (is_open m) position then 1 else 0)

-- the address of a position that is pending
abbrev pub pending_address : Message → ℕ → Option (List ℕ)
pending_address m position =
    if passes_in m (is_open m) position then option_map (λ r. r.address) (slice_get m.recipients position) else None

-- a position with this address joins the row of its site
abbrev pub joined : World → Id → List ℕ → ℕ → List Row → List Row
joined w id address position rows = join_rows w.settings.entry_limit id (w.table.route address) position rows

-- a position joins the row of its site, where it is pending
abbrev pub with_pending : World → Message → ℕ → List Row → List Row
with_pending w m position rows =
    option_map_or (λ a. join_rows w.settings.entry_limit m.id (w.table.route a) position rows) (pending_address m position) rows
