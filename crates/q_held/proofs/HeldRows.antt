-- Worked rows of what calls make of rows that are held back.
use Rattle.std.proofs.Common.{◌≡◌, ◌∷◌, [], Bool, false, List, map, None, option_map, refl, Some, true, ℕ}
use Rattle.std.specs.Prelude.{find}
use Rattle.q_model.specs.declared.rows.Row.{Row}
use Rattle.q_model.specs.Values.{Site}
use Rattle.q_held.specs.Held.{held_at, HeldRow, released}

abbrev site : ℕ → Site
site transport = record { transport = transport; hop = 97 ∷ [] }

abbrev row : ℕ → ℕ → Row
row serial transport = record { id = record { generation = 1; serial = serial; bounce = false }; site = site transport; positions = [] }

abbrev held_row : ℕ → Row → Bool → HeldRow
held_row n r held = record { number = n; row = r; held = held }

abbrev waiting : List HeldRow
waiting = held_row 4 (row 1 1) false ∷ held_row 0 (row 5 2) true ∷ held_row 2 (row 1 2) false ∷ []

-- a site without rows, one of which a row is held back already, and one that comes back
turned : (map (held_at (site 3) true) waiting ≡ waiting)
    × (map (held_at (site 2) true) waiting ≡ held_row 4 (row 1 1) false ∷ held_row 0 (row 5 2) true ∷ held_row 2 (row 1 2) true ∷ [])
    × (map (held_at (site 2) false) waiting ≡ held_row 4 (row 1 1) false ∷ held_row 0 (row 5 2) false ∷ held_row 2 (row 1 2) false ∷ [])
turned = (refl, refl, refl)

all_go : map released waiting ≡ map (held_at (site 2) false) waiting
all_go = refl

first_held : (option_map (λ (h : HeldRow). h.number) (find (λ h. h.held) waiting) ≡ Some 0)
    × (option_map (λ (h : HeldRow). h.number) (find (λ h. h.held) (map released waiting)) ≡ None)
first_held = (refl, refl)
