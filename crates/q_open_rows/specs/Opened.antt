-- What a contract sees of the rows that were begun last.
use Rattle.std.specs.Prelude.{◌≡◌, [], ◌∷◌, Bool, find, if◌then◌else◌, List, None, Option, option_map, ℕ}
use Rattle.q_model.specs.Sites.{site_eq}
use Rattle.q_model.specs.Values.{Site}
use Rattle.q_open_rows.specs.declared.open_row.OpenRow.{OpenRow}

-- the sites with the places of their rows, and how many have room
pub record Opened : Type 0 where
  pub items : List OpenRow
  pub room : ℕ

-- it is the row of this site
abbrev pub is_at : Site → OpenRow → Bool
is_at site r = site_eq r.site site

-- no two are of one site
abbrev pub AreApart : List OpenRow → Type 0
AreApart [] = Unit {0}
AreApart (r ∷ rs) = (find (is_at r.site) rs ≡ None) × AreApart rs

-- the place of the site's row
abbrev pub place_of : Site → List OpenRow → Option ℕ
place_of site rs = option_map (λ r. r.place) (find (is_at site) rs)

-- The site's row is at this place. A site that wasn't there comes behind all others.
abbrev pub with_place : Site → ℕ → List OpenRow → List OpenRow
with_place site place [] = record { site = site; place = place } ∷ []
with_place site place (r ∷ rs) =
    if is_at site r then record { site = site; place = place } ∷ rs
    else r ∷ with_place site place rs
