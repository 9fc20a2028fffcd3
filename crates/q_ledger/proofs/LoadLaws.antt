-- The rows of a load, position by position.
use Rattle.std.proofs.Common.{◌≡◌, ℕ, ◌+◌, ◌≤◌, Bool, true, false, List, [], ◌∷◌, ◌++◌, refl, sym, ap, ◌∙◌, Option, Some, None, option_map}
use Rattle.std.specs.Option.{option_map_or}
use Rattle.std.specs.Prelude.{if◌then◌else◌, slice_get}
use Rattle.q_ledger.proofs.PlaceLaws.{one_more, passes_at}
use Rattle.q_ledger.specs.Grouping.{with_pending}
use Rattle.q_ledger.specs.Pending.{is_open}
use Rattle.q_model.specs.Batches.{join_rows, load_positions, load_rows, rows_from}
use Rattle.q_model.specs.Message.{Message, Recipient, address_at}
use Rattle.q_model.specs.Settings.{World}
use Rattle.q_model.specs.declared.rows.Row.{Row}

rows_append : (w : World) (m : Message) (rows : List Row) (ps qs : List ℕ) → rows_from w m rows (ps ++ qs) ≡ rows_from w m (rows_from w m rows ps) qs
rows_append w m rows [] qs = refl
rows_append w m rows (p ∷ ps) qs = rows_append w m (join_rows w.settings.entry_limit m.id (w.table.route (address_at m p)) p rows) ps qs

one_from : (w : World) (m : Message) (i : ℕ) (rows : List Row) (b : Bool) →
    (if b then join_rows w.settings.entry_limit m.id (w.table.route (address_at m i)) i rows else rows) ≡ rows_from w m rows (if b then i ∷ [] else [])
one_from w m i rows true = refl
one_from w m i rows false = refl

joined_by : (join : List ℕ → List Row) (rows : List Row) (r : Recipient) (b : Bool) →
    option_map_or join (if b then Some r.address else None) rows ≡ (if b then join r.address else rows)
joined_by join rows r true = refl
joined_by join rows r false = refl

joined : (m : Message) (i : ℕ) (join : List ℕ → List Row) (rows : List Row) (o : Option Recipient) →
    option_map_or join (if passes_at (is_open m) i o then option_map (λ r. r.address) o else None) rows
    ≡ (if passes_at (is_open m) i o then join (option_map_or (λ r. r.address) o []) else rows)
joined m i join rows None = refl
joined m i join rows (Some r) = joined_by join rows r (is_open m i r)

-- the rows with one position more
pub load_more : (w : World) (m : Message) (from i : ℕ) → from ≤ i → with_pending w m i (load_rows w m from i) ≡ load_rows w m from (i + 1)
load_more w m from i late =
    let rows = load_rows w m from i in
    let o = slice_get m.recipients i in
    joined m i (λ a. join_rows w.settings.entry_limit m.id (w.table.route a) i rows) rows o
    ∙ one_from w m i rows (passes_at (is_open m) i o)
    ∙ sym (rows_append w m [] (load_positions m from i) (if passes_at (is_open m) i o then i ∷ [] else []))
    ∙ ap (rows_from w m []) (sym (one_more (is_open m) from i m.recipients late))
