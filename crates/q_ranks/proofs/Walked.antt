-- A walk along an order, place by place.
use Rattle.std.proofs.Common.{◌≡◌, ◌∙◌, ◌≢◌, ◌∷◌, ◌*◌, ◌+◌, ◌<◌, ◌≤◌, [], add-one, ap, arith, below_more, cond, get_or, get_or-set_other, get_or-set_same, inl, inr, length, List, None, refl, set, Some, suc, sym, true, zero, ℕ}
use Rattle.std.proofs.lemmas.Bool.{eq-eqb}
use Rattle.std.proofs.lemmas.Map.Keys.{any_passes_from_place}
use Rattle.std.proofs.lemmas.Map.Steps.{length-le_from_distinct_below}
use Rattle.std.proofs.lemmas.Option.{get_or_from_slice_get, slice_get_within}
use Rattle.std.specs.List.{AllByRecursion}
use Rattle.std.specs.Prelude.{nat_eq, slice_get}
use Rattle.q_chains.specs.Laid.{AreApart}
use Rattle.q_chains.specs.Lists.{behind, first_of, is_in, list_with, Lists, StandOnce, stands}
use Rattle.q_chains.proofs.Numbers.{other_test}
use Rattle.q_chains.proofs.Places.{among_from, IsAmong, lacks_other}
use Rattle.q_chains.proofs.Walks.{distinct}
use Rattle.q_ranks.proofs.Alone.{apart_alone, below_alone, list_alone, stands_alone}

-- the number at a place is among them
pub at_place : (k n : ℕ) (xs : List ℕ) → slice_get xs k ≡ Some n → IsAmong n xs
at_place k n [] h = cc
at_place zero n (x ∷ xs) h = inl cc
at_place (suc k) n (x ∷ xs) h = inr (at_place k n xs h)

below_among : (numbers n : ℕ) (xs : List ℕ) → AllByRecursion (λ x. x < numbers) xs → IsAmong n xs → n < numbers
below_among numbers n [] below i = absurd i
below_among numbers n (x ∷ xs) below (inl e) = omega (arith, e, below.0)
below_among numbers n (x ∷ xs) below (inr i) = below_among numbers n xs below.1 i

-- numbers that are apart and below a limit are no more than that
pub few_below : (numbers : ℕ) (xs : List ℕ) → AreApart xs → AllByRecursion (λ x. x < numbers) xs → length xs ≤ numbers
few_below numbers xs apart below = length-le_from_distinct_below xs numbers (distinct xs apart) (λ n i. below_among numbers n xs below (among_from n xs i))

-- no place is left
pub past_end : (xs : List ℕ) (k : ℕ) → slice_get xs k ≡ None → length xs ≤ k
past_end [] k h = omega arith
past_end (x ∷ xs) zero h = cc
past_end (x ∷ xs) (suc k) h = omega (arith, past_end xs k h)

-- the one behind the number at a place stands at the next
pub behind_place : (k n : ℕ) (xs : List ℕ) → AreApart xs → slice_get xs k ≡ Some n → behind n xs ≡ slice_get xs (suc k)
behind_place k n [] apart h = cc
behind_place zero n (x ∷ xs) apart h = let same : x ≡ n = cc in ap (λ t. cond t (first_of xs) (behind n xs)) (eq-eqb x n same)
behind_place (suc k) n (x ∷ xs) apart h =
    ap (λ t. cond t (first_of xs) (behind n xs)) (other_test x n (lacks_other x n xs apart.0 (at_place k n xs h))) ∙ behind_place k n xs apart.1 h

-- another number stands at each place before it
pub earlier_place : (j k n : ℕ) (xs : List ℕ) → AreApart xs → slice_get xs k ≡ Some n → j < k → get_or xs j 0 ≢ n
earlier_place j k n [] apart h less = cc
earlier_place j zero n (x ∷ xs) apart h less = absurd (omega (arith, less))
earlier_place zero (suc k) n (x ∷ xs) apart h less = lacks_other x n xs apart.0 (at_place k n xs h)
earlier_place (suc j) (suc k) n (x ∷ xs) apart h less = earlier_place j k n xs apart.1 h (omega (arith, less))

-- what stands at a place of the one list
module _ (order : Lists) (once : StandOnce order) (one : length order.lists ≡ 1) (k n : ℕ) (here : slice_get (get_or order.lists 0 []) k ≡ Some n) where
  pub place_known : n < order.numbers
  place_known = below_among order.numbers n (get_or order.lists 0 []) (below_alone order.numbers order.lists once.below) (at_place k n (get_or order.lists 0 []) here)

  pub place_below : k < order.numbers
  place_below =
      let within = slice_get_within (get_or order.lists 0 []) k n here in
      let few = few_below order.numbers (get_or order.lists 0 []) (apart_alone order.lists once.once) (below_alone order.numbers order.lists once.below) in
      omega (arith, within, few)

  is_there : is_in n (get_or order.lists 0 []) ≡ true
  is_there = any_passes_from_place (nat_eq n) (get_or order.lists 0 []) k n here (eq-eqb n n refl)

  pub place_stands : stands n order.lists ≡ true
  place_stands = stands_alone n order.lists one ∙ is_there

  pub place_next : behind n (list_with n order.lists) ≡ slice_get (get_or order.lists 0 []) (k + 1)
  place_next =
      ap (behind n) (list_alone n order.lists one is_there) ∙ behind_place k n (get_or order.lists 0 []) (apart_alone order.lists once.once) here
      ∙ ap (slice_get (get_or order.lists 0 [])) (sym (add-one k))

-- another rank below a limit
pub low_set : (limit n r : ℕ) (ranks : List ℕ) → r < limit → ((m : ℕ) → get_or ranks m 0 < limit) → (m : ℕ) → get_or (set ranks n r) m 0 < limit
low_set limit n r [] h low m = low m
low_set limit zero r (x ∷ ranks) h low zero = h
low_set limit zero r (x ∷ ranks) h low (suc m) = low (suc m)
low_set limit (suc n) r (x ∷ ranks) h low zero = low zero
low_set limit (suc n) r (x ∷ ranks) h low (suc m) = low_set limit n r ranks h (λ q. low (suc q)) m

-- ranks that stand a step apart from place to place, where one more has its own
pub ranked_more : (step k n : ℕ) (ranks order : List ℕ) → AreApart order → slice_get order k ≡ Some n → n < length ranks → ((j : ℕ) → j < k → get_or ranks (get_or order j 0) 0 ≡ (j + 1) * step) →
    (j : ℕ) → j < k + 1 → get_or (set ranks n ((k + 1) * step)) (get_or order j 0) 0 ≡ (j + 1) * step
ranked_more step k n ranks order apart here known ranked =
    below_more (λ j. get_or (set ranks n ((k + 1) * step)) (get_or order j 0) 0 ≡ (j + 1) * step) k
    (λ j h. get_or-set_other ranks n (get_or order j 0) ((k + 1) * step) 0 (earlier_place j k n order apart here h) ∙ ranked j h)
    (ap (λ m. get_or (set ranks n ((k + 1) * step)) m 0) (get_or_from_slice_get order k n 0 here) ∙ get_or-set_same ranks n ((k + 1) * step) 0 known)
