-- What a contract sees of the rows that wait, and how one of them is named.
use Rattle.std.specs.List.{AllByRecursion}
use Rattle.std.specs.Prelude.{◌≡◌, ◌≤◌, ◌&&◌, ◌==◌, [], ◌∷◌, Bool, find, if◌then◌else◌, length, List, map, None, Option, option_map, true, ℕ}
use Rattle.q_model.specs.declared.id.Id.{Id}
use Rattle.q_model.specs.declared.rows.Row.{Row}
use Rattle.q_model.specs.Ids.{id_eq}
use Rattle.q_model.specs.Sites.{site_eq}
use Rattle.q_model.specs.Values.{Site}

-- a row, and the number under which it waits
pub record Numbered : Type 0 where
  pub number : ℕ
  pub row : Row

-- the rows in the order in which they came, how many have room, and how many positions each has
-- room for
pub record Items : Type 0 where
  pub items : List Numbered
  pub room : ℕ
  pub most : ℕ

abbrev pub rows_of : List Numbered → List Row
rows_of ks = map (λ k. k.row) ks

-- it has this number
abbrev pub has_number : ℕ → Numbered → Bool
has_number n k = k.number == n

-- no two have one number
abbrev pub AreApart : List Numbered → Type 0
AreApart [] = Unit {0}
AreApart (k ∷ ks) = (find (has_number k.number) ks ≡ None) × AreApart ks

-- none has more positions than this
abbrev pub AreShort : ℕ → List Numbered → Type 0
AreShort most ks = AllByRecursion (λ k. length k.row.positions ≤ most) ks

abbrev pub any_row : Row → Bool
any_row r = true

-- the row is of this message
abbrev pub is_of : Id → Row → Bool
is_of id r = id_eq r.id id

-- it goes to this site
abbrev pub is_at : Site → Row → Bool
is_at site r = site_eq r.site site

-- both
abbrev pub is_for : Id → Site → Row → Bool
is_for id site r = is_of id r && is_at site r

-- the row of this number
abbrev pub row_at : ℕ → List Numbered → Option Row
row_at n ks = option_map (λ k. k.row) (find (has_number n) ks)

-- the number of the first row that passes
abbrev pub first_such : (Row → Bool) → List Numbered → Option ℕ
first_such p ks = option_map (λ k. k.number) (find (λ k. p k.row) ks)

-- the number of the first that passes, beside the row of this number, of those behind it
abbrev pub next_such : (Row → Row → Bool) → ℕ → List Numbered → Option ℕ
next_such like n [] = None
next_such like n (k ∷ ks) =
    if k.number == n then first_such (like k.row) ks else next_such like n ks
