-- The calls of the table in the words of keyed items.
use Rattle.std.proofs.Common.{◌≡◌, ◌∙◌, ◌∷◌, [], ap, cond, List, map, None, Option, refl, Some, true, ℕ}
use Rattle.std.specs.Prelude.{filter, find, IfSome}
use Rattle.q_dest.proofs.Changes.{is_else}
use Rattle.q_dest.specs.Dests.{AreApart, behind_dests, changed_at, is_at}
use Rattle.q_dest.specs.declared.dest.Dest.{Dest}
use Rattle.q_keyed.proofs.Values.{behind_where, change_none, find_none, held_item, keep_none, left_values, NonePass, none_passes, one_under, OnePasses, put_values}
use Rattle.q_keyed.specs.Numbered.{AreKeysApart, first_such, item_at, Numbered, put_at, values_of, without_number}
use Rattle.q_keyed.specs.Numbered.{AreApart as AreNumbersApart}
use Rattle.q_model.proofs.IdLaws.{site_eq-true}
use Rattle.q_model.specs.Sites.{site_eq}
use Rattle.q_model.specs.Values.{Site}

abbrev pub AreSitesApart : List (Numbered Dest) → Type 0
AreSitesApart ks = AreKeysApart site_eq (λ (d : Dest). d.known.site) ks

pub behind_is : (site : Site) (ds : List Dest) → behind_where (is_at site) ds ≡ behind_dests site ds
behind_is site [] = refl
behind_is site (d ∷ ds) = ap (λ xs. cond (is_at site d) ds xs) (behind_is site ds)

no_behind : (site : Site) (ds : List Dest) → NonePass (is_at site) ds → behind_dests site ds ≡ []
no_behind site [] h = refl
no_behind site (d ∷ ds) h = ap (λ b. cond b ds (behind_dests site ds)) h.0 ∙ no_behind site ds h.1

-- no two are one site
pub apart_dests : (ks : List (Numbered Dest)) → AreSitesApart ks → AreApart (values_of ks)
apart_dests [] h = tt
apart_dests (k ∷ ks) h = (find_none (is_at k.item.known.site) (values_of ks) (none_passes (is_at k.item.known.site) ks h.0), apart_dests ks h.1)

one_dest : (site : Site) (ks : List (Numbered Dest)) → AreSitesApart ks → OnePasses (is_at site) (values_of ks)
one_dest site ks h = one_under site_eq (λ (d : Dest). d.known.site) site_eq-true site ks h

own_key : (site : Site) (o : Option Dest) (y : Dest) → o ≡ Some y → is_at site y ≡ true → IfSome o (λ d. d.known.site ≡ site)
own_key site None y h e = cc
own_key site (Some x) y h e = let same : x ≡ y = cc in ap (λ (d : Dest). d.known.site) same ∙ site_eq-true y.known.site site e

-- The site stands under this number.
module _ (site : Site) (n : ℕ) (ks : List (Numbered Dest)) (apart : AreNumbersApart ks) (keys : AreSitesApart ks) (found : first_such (is_at site) ks ≡ Some n) where
  pub own : IfSome (item_at n ks) (λ d. d.known.site ≡ site)
  own = let it = held_item (is_at site) n ks apart found in own_key site (item_at n ks) it.0 it.1 it.2

  pub put_there : (dest : Dest) → values_of (map (put_at n dest) ks) ≡ map (changed_at site (λ d. dest)) (values_of ks)
  put_there dest =
      let it = held_item (is_at site) n ks apart found in
      put_values (is_at site) (λ d. dest) n it.0 dest ks apart (one_dest site ks keys) found it.1 refl

  pub left_there : values_of (without_number n ks) ≡ filter (is_else site) (values_of ks)
  left_there = left_values (is_at site) n ks apart (one_dest site ks keys) found

-- The site stands under none.
module _ (site : Site) (ks : List (Numbered Dest)) (none : first_such (is_at site) ks ≡ None) where
  pub not_found : find (is_at site) (values_of ks) ≡ None
  not_found = find_none (is_at site) (values_of ks) (none_passes (is_at site) ks none)

  pub put_nowhere : (dest : Dest) → map (changed_at site (λ d. dest)) (values_of ks) ≡ values_of ks
  put_nowhere dest = change_none (is_at site) (λ d. dest) (values_of ks) (none_passes (is_at site) ks none)

  pub left_nowhere : filter (is_else site) (values_of ks) ≡ values_of ks
  left_nowhere = keep_none (is_at site) (values_of ks) (none_passes (is_at site) ks none)

  pub nothing_behind : behind_dests site (values_of ks) ≡ []
  nothing_behind = no_behind site (values_of ks) (none_passes (is_at site) ks none)
