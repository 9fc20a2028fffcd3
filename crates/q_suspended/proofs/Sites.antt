-- Sites under their numbers.
use Rattle.std.proofs.Common.{◌≡◌, ◌∙◌, ◌∷◌, [], Bool, cond, false, List, None, Option, option_map, ap, refl, Some, sym, true, ℕ}
use Rattle.std.specs.List.{list_any}
use Rattle.std.specs.Option.{is_some}
use Rattle.std.specs.Prelude.{◌||◌, filter, find, not}
use Rattle.q_keyed.proofs.Values.{find_none, item_found, keep_none, left_values, none_passes, one_under}
use Rattle.q_keyed.specs.Numbered.{AreApart, AreKeysApart, first_such, item_at, Numbered, values_of, without_number}
use Rattle.q_model.proofs.IdLaws.{site_eq-true}
use Rattle.q_model.specs.Sites.{site_eq}
use Rattle.q_model.specs.Values.{Site}
use Rattle.q_suspended.specs.Suspensions.{is_at, is_due}
use Rattle.q_suspended.specs.Suspensions.{AreApart as AreSitesApart}
use Rattle.q_suspended.specs.declared.suspension.Suspension.{Suspension}

abbrev pub K : Type 0
K = Numbered Suspension

such_step : (b : Bool) (t : Bool) (k : K) (o : Option K) → is_some (option_map (λ (k : K). k.number) o) ≡ t → is_some (option_map (λ (k : K). k.number) (cond b (Some k) o)) ≡ (b || t)
such_step true t k o h = refl
such_step false t k o h = h

-- a site that passes stands under a number
pub such_there : (p : Suspension → Bool) (ks : List K) → is_some (first_such p ks) ≡ list_any p (values_of ks)
such_there p [] = refl
such_there p (k ∷ ks) = such_step (p k.item) (list_any p (values_of ks)) k (find (λ k. p k.item) ks) (such_there p ks)

none_from : (o : Option ℕ) → is_some o ≡ false → o ≡ None
none_from None h = refl
none_from (Some n) h = absurd cc

-- none stands under a number where none passes
pub such_nowhere : (p : Suspension → Bool) (ks : List K) → list_any p (values_of ks) ≡ false → first_such p ks ≡ None
such_nowhere p ks none = none_from (first_such p ks) (such_there p ks ∙ none)

none_step : (p : Suspension → Bool) (ks : List K) → first_such p ks ≡ None → list_any p (values_of ks) ≡ false
none_step p ks none = sym (such_there p ks) ∙ ap is_some none

-- no two are one site
pub sites_apart : (ks : List K) → AreKeysApart site_eq (λ (s : Suspension). s.site) ks → AreSitesApart (values_of ks)
sites_apart [] keys = tt
sites_apart (k ∷ ks) keys = (none_step (is_at k.item.site) ks keys.0, sites_apart ks keys.1)

module _ (site : Site) (ks : List K) where
  pub left_there : (n : ℕ) → AreApart ks → AreKeysApart site_eq (λ (s : Suspension). s.site) ks → first_such (is_at site) ks ≡ Some n → values_of (without_number n ks) ≡ filter (λ s. not (is_at site s)) (values_of ks)
  left_there n apart keys found = left_values (is_at site) n ks apart (one_under site_eq (λ (s : Suspension). s.site) site_eq-true site ks keys) found

  pub left_nowhere : first_such (is_at site) ks ≡ None → filter (λ s. not (is_at site s)) (values_of ks) ≡ values_of ks
  left_nowhere none = keep_none (is_at site) (values_of ks) (none_passes (is_at site) ks none)

module _ (moment : ℕ) (ks : List K) where
  pub due_there : (n : ℕ) → AreApart ks → first_such (is_due moment) ks ≡ Some n → item_at n ks ≡ find (is_due moment) (values_of ks)
  due_there n apart h = item_found (is_due moment) n ks apart h

  pub due_nowhere : first_such (is_due moment) ks ≡ None → find (is_due moment) (values_of ks) ≡ None
  due_nowhere none = find_none (is_due moment) (values_of ks) (none_passes (is_due moment) ks none)
