-- The calls in the words of keyed items.
use Rattle.std.proofs.Common.{◌≡◌, ◌∙◌, ◌++◌, ◌∷◌, [], ap, Bool, cond, false, List, map, None, Option, option_map, refl, Some, sym, true, ℕ}
use Rattle.std.proofs.lemmas.List.{map-append}
use Rattle.std.specs.Prelude.{find, IfSome}
use Rattle.q_keyed.proofs.Values.{change_none, changed_where, find_none, held_item, item_found, NonePass, none_passes, one_under, OnePasses, put_values}
use Rattle.q_keyed.specs.Numbered.{AreApart as AreNumbersApart}
use Rattle.q_keyed.specs.Numbered.{AreKeysApart, first_number, first_such, item_at, Numbered, put_at, values_of}
use Rattle.q_model.proofs.IdLaws.{site_eq-true}
use Rattle.q_model.specs.Sites.{site_eq}
use Rattle.q_model.specs.Values.{Site}
use Rattle.q_open_rows.specs.declared.open_row.OpenRow.{OpenRow}
use Rattle.q_open_rows.specs.Opened.{AreApart, is_at, place_of, with_place}

abbrev pub AreSitesApart : List (Numbered OpenRow) → Type 0
AreSitesApart ks = AreKeysApart site_eq (λ (r : OpenRow). r.site) ks

-- no two are of one site
pub apart_rows : (ks : List (Numbered OpenRow)) → AreSitesApart ks → AreApart (values_of ks)
apart_rows [] h = tt
apart_rows (k ∷ ks) h = (find_none (is_at k.item.site) (values_of ks) (none_passes (is_at k.item.site) ks h.0), apart_rows ks h.1)

-- what is first passes the test that all pass
pub first_any : (ks : List (Numbered OpenRow)) → first_number ks ≡ first_such (λ r. true) ks
first_any [] = refl
first_any (k ∷ ks) = refl

-- where none is first there is none
pub none_first : (ks : List (Numbered OpenRow)) → first_number ks ≡ None → [] ≡ ks
none_first [] h = refl
none_first (k ∷ ks) h = cc

own_key : (site : Site) (o : Option OpenRow) (y : OpenRow) → o ≡ Some y → is_at site y ≡ true → IfSome o (λ r. r.site ≡ site)
own_key site None y h e = cc
own_key site (Some x) y h e = let same : x ≡ y = cc in ap (λ (r : OpenRow). r.site) same ∙ site_eq-true y.site site e

module _ (site : Site) (place : ℕ) where
  -- the site at this place
  abbrev placed : OpenRow
  placed = record { site = site; place = place }

  changed_step : (r : OpenRow) (rs : List OpenRow) (y : OpenRow) (t : Bool) → is_at site r ≡ t → (is_at site r ≡ true → NonePass (is_at site) rs) → cond t (Some r) (find (is_at site) rs) ≡ Some y →
      (find (is_at site) rs ≡ Some y → map (changed_where (is_at site) (λ r. placed)) rs ≡ with_place site place rs) →
      cond t placed r ∷ map (changed_where (is_at site) (λ r. placed)) rs ≡ cond t (placed ∷ rs) (r ∷ with_place site place rs)
  changed_step r rs y true e alone found rest = ap (λ xs. placed ∷ xs) (change_none (is_at site) (λ r. placed) rs (alone e))
  changed_step r rs y false e alone found rest = ap (λ xs. r ∷ xs) (rest found)

  changed_one : (rs : List OpenRow) (y : OpenRow) → OnePasses (is_at site) rs → find (is_at site) rs ≡ Some y → map (changed_where (is_at site) (λ r. placed)) rs ≡ with_place site place rs
  changed_one [] y one found = cc
  changed_one (r ∷ rs) y one found = changed_step r rs y (is_at site r) refl one.0 found (changed_one rs y one.1)

  behind : (rs : List OpenRow) → NonePass (is_at site) rs → (rs ++ placed ∷ []) ≡ with_place site place rs
  behind [] h = refl
  behind (r ∷ rs) h = ap (λ xs. r ∷ xs) (behind rs h.1) ∙ sym (ap (λ t. cond t (placed ∷ rs) (r ∷ with_place site place rs)) h.0)

  -- the site has no number yet
  pub set_new : (n : ℕ) (ks : List (Numbered OpenRow)) → first_such (is_at site) ks ≡ None → values_of (ks ++ record { number = n; item = placed } ∷ []) ≡ with_place site place (values_of ks)
  set_new n ks none =
      map-append (λ (k : Numbered OpenRow). k.item) ks (record { number = n; item = placed } ∷ [])
      ∙ behind (values_of ks) (none_passes (is_at site) ks none)

  -- it stands under this number
  pub set_there : (n : ℕ) (ks : List (Numbered OpenRow)) → AreNumbersApart ks → AreSitesApart ks → first_such (is_at site) ks ≡ Some n → values_of (map (put_at n placed) ks) ≡ with_place site place (values_of ks)
  set_there n ks apart keys found =
      let it = held_item (is_at site) n ks apart found in
      let one = one_under site_eq (λ (r : OpenRow). r.site) site_eq-true site ks keys in
      put_values (is_at site) (λ r. placed) n it.0 placed ks apart one found it.1 refl
      ∙ changed_one (values_of ks) it.0 one (sym (item_found (is_at site) n ks apart found) ∙ it.1)

-- the site stands under this number
pub own : (site : Site) (n : ℕ) (ks : List (Numbered OpenRow)) → AreNumbersApart ks → first_such (is_at site) ks ≡ Some n → IfSome (item_at n ks) (λ r. r.site ≡ site)
own site n ks apart found = let it = held_item (is_at site) n ks apart found in own_key site (item_at n ks) it.0 it.1 it.2

-- it stands under none
pub no_place : (site : Site) (ks : List (Numbered OpenRow)) → first_such (is_at site) ks ≡ None → place_of site (values_of ks) ≡ None
no_place site ks none = ap (option_map (λ (r : OpenRow). r.place)) (find_none (is_at site) (values_of ks) (none_passes (is_at site) ks none))
