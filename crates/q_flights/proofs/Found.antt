-- The calls of the deliveries in the words of keyed items.
use Rattle.std.proofs.Common.{◌≡◌, ◌∙◌, ◌++◌, ◌∷◌, [], List, None, Option, Some, sym, ℕ}
use Rattle.std.proofs.lemmas.Bool.{eqb-true}
use Rattle.std.proofs.lemmas.List.{map-append}
use Rattle.std.specs.Prelude.{◌==◌, filter, find}
use Rattle.q_flights.specs.Flying.{has_number, is_other}
use Rattle.q_keyed.proofs.Values.{find_none, held_item, item_found, left_values, none_passes, one_under}
use Rattle.q_keyed.specs.Numbered.{AreApart, AreKeysApart, first_such, item_at, Numbered, values_of, without_number}
use Rattle.q_model.specs.declared.rows.Delivery.{Delivery}

-- no delivery has the number
pub found_nowhere : (n : ℕ) (ks : List (Numbered Delivery)) → first_such (has_number n) ks ≡ None → find (has_number n) (values_of ks) ≡ None
found_nowhere n ks none = find_none (has_number n) (values_of ks) (none_passes (has_number n) ks none)

-- It stands at a place.
module _ (n at : ℕ) (ks : List (Numbered Delivery)) (apart : AreApart ks) where
  pub found_at : first_such (has_number n) ks ≡ Some at → item_at at ks ≡ find (has_number n) (values_of ks)
  found_at found = item_found (has_number n) at ks apart found

  pub not_gone : first_such (has_number n) ks ≡ Some at → item_at at ks ≡ None → ⊥
  not_gone found none =
      let it = held_item (has_number n) at ks apart found in
      let some : ◌≡◌ {A = Option Delivery} None (Some it.0) = sym none ∙ it.1 in
      cc

  pub left_at : AreKeysApart (λ a b. a == b) (λ (f : Delivery). f.number) ks → first_such (has_number n) ks ≡ Some at → values_of (without_number at ks) ≡ filter (is_other n) (values_of ks)
  left_at keys found = left_values (has_number n) at ks apart (one_under (λ a b. a == b) (λ (f : Delivery). f.number) (λ a b e. eqb-true a b e) n ks keys) found

pub values_more : (k : Numbered Delivery) (ks : List (Numbered Delivery)) → values_of (ks ++ k ∷ []) ≡ values_of ks ++ k.item ∷ []
values_more k ks = map-append (λ (k : Numbered Delivery). k.item) ks (k ∷ [])
