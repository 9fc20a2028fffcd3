-- What a contract sees of the rows that wait, of which some are held back.
use Rattle.std.specs.List.{AllByRecursion}
use Rattle.std.specs.Prelude.{◌≡◌, Bool, false, if◌then◌else◌, List, map, ℕ}
use Rattle.q_model.specs.declared.rows.Row.{Row}
use Rattle.q_model.specs.Sites.{site_eq}
use Rattle.q_model.specs.Values.{Site}
use Rattle.q_peers.specs.Numbered.{Numbered}

-- a row, the number under which it waits, and whether it is held back
pub record HeldRow : Type 0 where
  pub number : ℕ
  pub row : Row
  pub held : Bool

-- the rows in the order in which they came, how many have room, and how many positions each has
-- room for
pub record Held : Type 0 where
  pub items : List HeldRow
  pub room : ℕ
  pub most : ℕ

abbrev pub numbered : HeldRow → Numbered
numbered h = record { number = h.number; row = h.row }

-- the rows with their numbers, held back or not
abbrev pub plain : List HeldRow → List Numbered
plain hs = map numbered hs

abbrev pub rows_of : List HeldRow → List Row
rows_of hs = map (λ h. h.row) hs

-- the row held back or not from now on, if it goes to the site
abbrev pub held_at : Site → Bool → HeldRow → HeldRow
held_at site held h = if site_eq h.row.site site then record h { held = held } else h

-- the row let go
abbrev pub released : HeldRow → HeldRow
released h = record h { held = false }

-- a row is held back exactly where it passes
abbrev pub AreHeldBy : (Row → Bool) → List HeldRow → Type 0
AreHeldBy p hs = AllByRecursion (λ h. h.held ≡ p h.row) hs
