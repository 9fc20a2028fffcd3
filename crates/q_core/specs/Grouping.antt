-- Where the rows stand that recipients may join.
use Rattle.std.specs.Prelude.{◌≡◌, List, slice_get, Some, true, ℕ}
use Rattle.q_core.specs.Loading.{has_space}
use Rattle.q_model.specs.declared.rows.Row.{Row}
use Rattle.q_model.specs.Values.{Site}
use Rattle.q_open_rows.specs.declared.open_row.OpenRow.{OpenRow}
use Rattle.q_open_rows.specs.Opened.{place_of}

-- each row that has space for a site stands at the place that is kept of the site
abbrev pub AreOpen : ℕ → List OpenRow → List Row → Type 0
AreOpen limit places rows = (site : Site) (place : ℕ) (r : Row) → slice_get rows place ≡ Some r
    → has_space limit site r ≡ true → place_of site places ≡ Some place
