-- What a contract sees of the sites that are suspended.
use Rattle.std.specs.List.{list_any}
use Rattle.std.specs.Prelude.{◌≡◌, [], ◌∷◌, Bool, false, List, nat_le, ℕ}
use Rattle.q_model.specs.Sites.{site_eq}
use Rattle.q_model.specs.Values.{Site}
use Rattle.q_suspended.specs.declared.suspension.Suspension.{Suspension}

-- the sites in the order in which they were suspended, and how many have room
pub record Suspensions : Type 0 where
  pub items : List Suspension
  pub room : ℕ

-- it is this site
abbrev pub is_at : Site → Suspension → Bool
is_at site s = site_eq s.site site

-- no two are one site
abbrev pub AreApart : List Suspension → Type 0
AreApart [] = Unit {0}
AreApart (s ∷ ss) = (list_any (is_at s.site) ss ≡ false) × AreApart ss

-- its moment has come
abbrev pub is_due : ℕ → Suspension → Bool
is_due moment s = nat_le s.until moment
