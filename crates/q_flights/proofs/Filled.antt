-- Heads, each with the positions of its place, are keyed items too.
use Rattle.std.proofs.Common.{◌≡◌, ◌∙◌, ◌++◌, ◌∷◌, ◌<◌, [], ap, Bool, cond, false, get_or, length, List, None, Option, option_map, refl, set, Some, sym, true, ℕ}
use Rattle.std.proofs.lemmas.Bool.{eqb-false, eqb-true}
use Rattle.std.proofs.lemmas.List.{get_or-set_other, get_or-set_same, length-map, map-append}
use Rattle.std.specs.Prelude.{◌==◌, find, not}
use Rattle.q_flights.specs.declared.delivery_head.DeliveryHead.{DeliveryHead}
use Rattle.q_flights.specs.Heads.{deliveries_of, delivery_of, filled, with_positions}
use Rattle.q_flights.specs.Flying.{has_number}
use Rattle.q_keyed.specs.Numbered as keyed
use Rattle.q_keyed.specs.Numbered.{AreApart, AreKeysApart, first_number, first_such, item_at, Numbered, without_number}
use Rattle.q_model.specs.declared.rows.Delivery.{Delivery}

-- the delivery at a place
abbrev pub delivery_at : List (List ℕ) → ℕ → Option DeliveryHead → Option Delivery
delivery_at lists at o = option_map (λ (e : DeliveryHead). delivery_of e (get_or lists at [])) o

-- the head has this number
abbrev pub head_has : ℕ → DeliveryHead → Bool
head_has n e = e.number == n

lacks_step : (n : ℕ) (k : Numbered DeliveryHead) (ks : List (Numbered DeliveryHead)) (t : Bool) → (k.number == n) ≡ t → cond t (Some k) (find (keyed.has_number n) ks) ≡ None → ((k.number == n) ≡ false) × (find (keyed.has_number n) ks ≡ None)
lacks_step n k ks true e h = cc
lacks_step n k ks false e h = (e, h)

lacks : (n : ℕ) (k : Numbered DeliveryHead) (ks : List (Numbered DeliveryHead)) → find (keyed.has_number n) (k ∷ ks) ≡ None → ((k.number == n) ≡ false) × (find (keyed.has_number n) ks ≡ None)
lacks n k ks h = lacks_step n k ks (k.number == n) refl h

module _ (lists : List (List ℕ)) where
  first_step : (n : ℕ) (k : Numbered DeliveryHead) (ks : List (Numbered DeliveryHead)) (t : Bool) → first_such (has_number n) (filled lists ks) ≡ first_such (head_has n) ks →
      option_map (λ (k : Numbered Delivery). k.number) (cond t (Some (with_positions lists k)) (find (λ k. has_number n k.item) (filled lists ks)))
      ≡ option_map (λ (k : Numbered DeliveryHead). k.number) (cond t (Some k) (find (λ k. head_has n k.item) ks))
  first_step n k ks true rest = refl
  first_step n k ks false rest = rest

  pub filled_first : (n : ℕ) (ks : List (Numbered DeliveryHead)) → first_such (has_number n) (filled lists ks) ≡ first_such (head_has n) ks
  filled_first n [] = refl
  filled_first n (k ∷ ks) = first_step n k ks (k.item.number == n) (filled_first n ks)

  item_step : (at : ℕ) (k : Numbered DeliveryHead) (ks : List (Numbered DeliveryHead)) (t : Bool) → (k.number == at) ≡ t → item_at at (filled lists ks) ≡ delivery_at lists at (item_at at ks) →
      option_map (λ (k : Numbered Delivery). k.item) (cond t (Some (with_positions lists k)) (find (keyed.has_number at) (filled lists ks)))
      ≡ delivery_at lists at (option_map (λ (k : Numbered DeliveryHead). k.item) (cond t (Some k) (find (keyed.has_number at) ks)))
  item_step at k ks true e rest = ap (λ n. Some (delivery_of k.item (get_or lists n []))) (eqb-true k.number at e)
  item_step at k ks false e rest = rest

  pub filled_item : (at : ℕ) (ks : List (Numbered DeliveryHead)) → item_at at (filled lists ks) ≡ delivery_at lists at (item_at at ks)
  filled_item at [] = refl
  filled_item at (k ∷ ks) = item_step at k ks (k.number == at) refl (filled_item at ks)

  still_step : (n : ℕ) (k : Numbered DeliveryHead) (ks : List (Numbered DeliveryHead)) (t : Bool) → t ≡ false → find (keyed.has_number n) (filled lists ks) ≡ None → cond t (Some (with_positions lists k)) (find (keyed.has_number n) (filled lists ks)) ≡ None
  still_step n k ks true e rest = cc
  still_step n k ks false e rest = rest

  still_lacks : (n : ℕ) (ks : List (Numbered DeliveryHead)) → find (keyed.has_number n) ks ≡ None → find (keyed.has_number n) (filled lists ks) ≡ None
  still_lacks n [] h = refl
  still_lacks n (k ∷ ks) h = let parts = lacks n k ks h in still_step n k ks (k.number == n) parts.0 (still_lacks n ks parts.1)

  pub filled_apart : (ks : List (Numbered DeliveryHead)) → AreApart ks → AreApart (filled lists ks)
  filled_apart [] h = tt
  filled_apart (k ∷ ks) h = (still_lacks k.number ks h.0, filled_apart ks h.1)

  pub filled_keys : (ks : List (Numbered DeliveryHead)) → AreKeysApart (λ a b. a == b) (λ (e : DeliveryHead). e.number) ks → AreKeysApart (λ a b. a == b) (λ (f : Delivery). f.number) (filled lists ks)
  filled_keys [] h = tt
  filled_keys (k ∷ ks) h = (filled_first k.item.number ks ∙ h.0, filled_keys ks h.1)

  left_step : (at : ℕ) (k : Numbered DeliveryHead) (ks : List (Numbered DeliveryHead)) (t : Bool) → filled lists (without_number at ks) ≡ without_number at (filled lists ks) →
      filled lists (cond (not t) (k ∷ without_number at ks) (without_number at ks)) ≡ cond (not t) (with_positions lists k ∷ without_number at (filled lists ks)) (without_number at (filled lists ks))
  left_step at k ks true rest = rest
  left_step at k ks false rest = ap (λ l. with_positions lists k ∷ l) rest

  pub filled_left : (at : ℕ) (ks : List (Numbered DeliveryHead)) → filled lists (without_number at ks) ≡ without_number at (filled lists ks)
  filled_left at [] = refl
  filled_left at (k ∷ ks) = left_step at k ks (k.number == at) (filled_left at ks)

  pub filled_number : (ks : List (Numbered DeliveryHead)) → first_number (filled lists ks) ≡ first_number ks
  filled_number [] = refl
  filled_number (k ∷ ks) = refl

  pub count_filled : (ks : List (Numbered DeliveryHead)) → length (deliveries_of lists ks) ≡ length ks
  count_filled ks = length-map (filled lists ks) (λ (k : Numbered Delivery). k.item) ∙ length-map ks (with_positions lists)

  -- positions are put at a place where no head is
  same_filled : (at : ℕ) (xs : List ℕ) (ks : List (Numbered DeliveryHead)) → find (keyed.has_number at) ks ≡ None → filled (set lists at xs) ks ≡ filled lists ks
  same_filled at xs [] h = refl
  same_filled at xs (k ∷ ks) h =
      let parts = lacks at k ks h in
      ap (λ (ys : List ℕ). record { number = k.number; item = delivery_of k.item ys } ∷ filled (set lists at xs) ks) (get_or-set_other lists at k.number xs [] (eqb-false k.number at parts.0))
      ∙ ap (λ l. with_positions lists k ∷ l) (same_filled at xs ks parts.1)

  -- a delivery comes
  pub deliveries_more : (at : ℕ) (e : DeliveryHead) (xs : List ℕ) (ks : List (Numbered DeliveryHead)) → find (keyed.has_number at) ks ≡ None → at < length lists →
      deliveries_of (set lists at xs) (ks ++ record { number = at; item = e } ∷ []) ≡ deliveries_of lists ks ++ delivery_of e xs ∷ []
  deliveries_more at e xs ks fresh below =
      let more = set lists at xs in
      ap keyed.values_of (map-append (with_positions more) ks (record { number = at; item = e } ∷ []))
      ∙ map-append (λ (k : Numbered Delivery). k.item) (filled more ks) (with_positions more (record { number = at; item = e }) ∷ [])
      ∙ ap (λ l. keyed.values_of l ++ delivery_of e (get_or more at []) ∷ []) (same_filled at xs ks fresh)
      ∙ ap (λ ys. deliveries_of lists ks ++ delivery_of e ys ∷ []) (get_or-set_same lists at xs [] below)
