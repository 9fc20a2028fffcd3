-- What the place of a site's row is once a place was set.
use Rattle.std.proofs.Common.{◌≡◌, ◌∙◌, ◌∷◌, [], ap, Bool, cond, false, List, Option, option_map, refl, Some, sym, true, ℕ}
use Rattle.std.specs.Prelude.{find}
use Rattle.q_model.proofs.IdLaws.{site_eq-refl, site_eq-true}
use Rattle.q_model.specs.Sites.{site_eq}
use Rattle.q_model.specs.Values.{Site}
use Rattle.q_open_rows.specs.declared.open_row.OpenRow.{OpenRow}
use Rattle.q_open_rows.specs.Opened.{is_at, place_of, with_place}

-- what is found of a row and the others
abbrev place_in : Bool → OpenRow → List OpenRow → Site → Option ℕ
place_in t r rs site = option_map (λ (r : OpenRow). r.place) (cond t (Some r) (find (is_at site) rs))

own_step : (site : Site) (place : ℕ) (r : OpenRow) (rs : List OpenRow) (t : Bool) → is_at site r ≡ t → place_of site (with_place site place rs) ≡ Some place →
    place_of site (cond t (record { site = site; place = place } ∷ rs) (r ∷ with_place site place rs)) ≡ Some place
own_step site place r rs true e rest = ap (λ t. place_in t (record { site = site; place = place }) rs site) (site_eq-refl site)
own_step site place r rs false e rest = ap (λ t. place_in t r (with_place site place rs) site) e ∙ rest

-- the place that was set
pub place_own : (site : Site) (place : ℕ) (rs : List OpenRow) → place_of site (with_place site place rs) ≡ Some place
place_own site place [] = ap (λ t. place_in t (record { site = site; place = place }) [] site) (site_eq-refl site)
place_own site place (r ∷ rs) = own_step site place r rs (is_at site r) refl (place_own site place rs)

other_step : (site other : Site) (place : ℕ) (r : OpenRow) (rs : List OpenRow) (t : Bool) → is_at site r ≡ t → site_eq site other ≡ false → place_of other (with_place site place rs) ≡ place_of other rs →
    place_of other (cond t (record { site = site; place = place } ∷ rs) (r ∷ with_place site place rs)) ≡ place_in (is_at other r) r rs other
other_step site other place r rs true e apart rest =
    ap (λ t. place_in t (record { site = site; place = place }) rs other) apart
    ∙ sym (ap (λ t. place_in t r rs other) (ap (λ s. site_eq s other) (site_eq-true r.site site e) ∙ apart))
other_step site other place r rs false e apart rest = found_step (is_at other r) rest
  where
    found_step : (t : Bool) → place_of other (with_place site place rs) ≡ place_of other rs → place_in t r (with_place site place rs) other ≡ place_in t r rs other
    found_step true h = refl
    found_step false h = h

-- the place of any other site
pub place_other : (site other : Site) (place : ℕ) (rs : List OpenRow) → site_eq site other ≡ false → place_of other (with_place site place rs) ≡ place_of other rs
place_other site other place [] apart = ap (λ t. place_in t (record { site = site; place = place }) [] other) apart
place_other site other place (r ∷ rs) apart = other_step site other place r rs (is_at site r) refl apart (place_other site other place rs apart)
