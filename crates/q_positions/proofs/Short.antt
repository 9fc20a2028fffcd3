-- No list, and no row, has more numbers than have room.
use Rattle.std.proofs.Common.{◌≤◌, ◌∷◌, [], arith, drop, get_or, length, List, None, Option, Some, take, ℕ}
use Rattle.std.proofs.lemmas.List.{length-take}
use Rattle.std.specs.List.{AllByRecursion}
use Rattle.std.specs.Option.{option_map_or}
use Rattle.std.specs.Prelude.{min}
use Rattle.q_model.specs.declared.rows.Row.{Row}
use Rattle.q_positions.specs.declared.head.Head.{Head}
use Rattle.q_positions.specs.Heads.{rows_of, slot_of, slots_of}
use Rattle.q_positions.specs.Lists.{AreWithin, lists_in}
use Rattle.q_positions.specs.Rows.{AreShort}

pub lists_short : (most : ℕ) (cells ns : List ℕ) → AreWithin most ns → AllByRecursion (λ xs. length xs ≤ most) (lists_in most cells ns)
lists_short most cells [] h = tt
lists_short most cells (n ∷ ns) h = (let taken = length-take n cells in omega (arith, taken, h.0), lists_short most (drop most cells) ns h.1)

slot_short : (most : ℕ) (h : Option Head) (xs : List ℕ) → length xs ≤ most → length (option_map_or (λ (r : Row). r.positions) (slot_of h xs) []) ≤ most
slot_short most None xs short = omega arith
slot_short most (Some h) xs short = short

pub slots_short : (most : ℕ) (hs : List (Option Head)) (lists : List (List ℕ)) → AllByRecursion (λ xs. length xs ≤ most) lists → AreShort most (slots_of hs lists)
slots_short most [] lists h = tt
slots_short most (g ∷ hs) [] h = (slot_short most g [] (omega arith), slots_short most hs [] tt)
slots_short most (g ∷ hs) (xs ∷ lists) h = (slot_short most g xs h.0, slots_short most hs lists h.1)

pub rows_short : (most : ℕ) (hs : List Head) (lists : List (List ℕ)) → AllByRecursion (λ xs. length xs ≤ most) lists → AllByRecursion (λ (r : Row). length r.positions ≤ most) (rows_of hs lists)
rows_short most [] lists h = tt
rows_short most (g ∷ hs) [] h = (omega arith, rows_short most hs [] tt)
rows_short most (g ∷ hs) (xs ∷ lists) h = (h.0, rows_short most hs lists h.1)
