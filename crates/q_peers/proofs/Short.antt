-- No row that waits has more positions than have room.
use Rattle.std.proofs.Common.{◌≤◌, ◌∷◌, [], arith, get_or, length, List, None, Option, Some, suc, zero, ℕ}
use Rattle.std.specs.Option.{option_map_or}
use Rattle.std.specs.List.{cons_option}
use Rattle.q_model.specs.declared.rows.Row.{Row}
use Rattle.q_peers.specs.Numbered.{AreShort, Numbered}
use Rattle.q_peers.specs.Slots.{items_of, numbered_in}
use Rattle.q_positions.specs.Rows.{AreShort as AreSlotsShort}

short_at : (most : ℕ) (rows : List (Option Row)) (n : ℕ) → AreSlotsShort most rows → length (option_map_or (λ (r : Row). r.positions) (get_or rows n None) []) ≤ most
short_at most [] n h = omega arith
short_at most (o ∷ os) zero h = h.0
short_at most (o ∷ os) (suc n) h = short_at most os n h.1

item_short : (most n : ℕ) (o : Option Row) (ks : List Numbered) → length (option_map_or (λ (r : Row). r.positions) o []) ≤ most → AreShort most ks → AreShort most (cons_option (numbered_in n o) ks)
item_short most n None ks own rest = rest
item_short most n (Some r) ks own rest = (own, rest)

pub items_short : (most : ℕ) (rows : List (Option Row)) (ns : List ℕ) → AreSlotsShort most rows → AreShort most (items_of rows ns)
items_short most rows [] h = tt
items_short most rows (n ∷ ns) h = item_short most n (get_or rows n None) (items_of rows ns) (short_at most rows n h) (items_short most rows ns h)
