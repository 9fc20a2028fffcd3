-- What always holds of rows and of the marks of those that are held back.
use Rattle.std.specs.Prelude.{◌≡◌, Bool, List, map, ℕ}
use Rattle.q_marked.specs.Marks.{is_marked, Marks}
use Rattle.q_peers.specs.Numbered.{Items, Numbered}
use Rattle.q_held.specs.Held.{HeldRow}

abbrev pub numbers_of : List Numbered → List ℕ
numbers_of ks = map (λ k. k.number) ks

-- a row is held back where its number is marked
abbrev pub with_mark : List Bool → Numbered → HeldRow
with_mark marks k =
    record { number = k.number; row = k.row; held = is_marked k.number marks }

abbrev pub with_marks : List Bool → List Numbered → List HeldRow
with_marks marks ks = map (with_mark marks) ks

-- the numbers of the rows stand in the order of these
pub record IsSound (waiting : Items) (marks : Marks) : Type 0 where
  pub order : marks.order ≡ numbers_of waiting.items
  pub numbers : marks.numbers ≡ waiting.room
