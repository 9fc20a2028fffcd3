-- What is found by its own key.
use Rattle.std.proofs.Common.{◌≡◌, ◌∙◌, ◌∷◌, [], ap, Bool, cond, false, List, None, option_map, refl, Some, sym, true, ℕ}
use Rattle.std.proofs.lemmas.Bool.{both_ways, eqb-true}
use Rattle.std.specs.Prelude.{◌==◌, find}
use Rattle.q_keyed.specs.Numbered.{AreKeysApart, first_such, has_number, item_at, Numbered}
use Rattle.q_rounds.proofs.ItemSets.{unless_none}

module _ {K T : Type 0} (eq : K → K → Bool) (key : T → K) (is_same : (a b : K) → eq a b ≡ true → a ≡ b) (is_own : (a : K) → eq a a ≡ true) where
  own_step : (n : ℕ) (y : T) (k : Numbered T) (ks : List (Numbered T)) (t u : Bool) → (k.number == n) ≡ t → eq (key k.item) (key y) ≡ u → first_such (λ x. eq (key x) (key k.item)) ks ≡ None →
      option_map (λ (k : Numbered T). k.item) (cond t (Some k) (find (has_number n) ks)) ≡ Some y → (item_at n ks ≡ Some y → first_such (λ x. eq (key x) (key y)) ks ≡ Some n) →
      option_map (λ (k : Numbered T). k.number) (cond u (Some k) (find (λ k. eq (key k.item) (key y)) ks)) ≡ Some n
  own_step n y k ks true true e f apart there rest = ap Some (eqb-true k.number n e)
  own_step n y k ks true false e f apart there rest =
      let same : k.item ≡ y = cc in
      absurd (both_ways (eq (key k.item) (key y)) f (ap (λ x. eq (key x) (key y)) same ∙ is_own (key y)))
  own_step n y k ks false true e f apart there rest =
      absurd (unless_none (first_such (λ x. eq (key x) (key y)) ks) n (ap (λ j. first_such (λ x. eq (key x) j) ks) (sym (is_same (key k.item) (key y) f)) ∙ apart) (rest there))
  own_step n y k ks false false e f apart there rest = rest there

  pub own_found : (n : ℕ) (y : T) (ks : List (Numbered T)) → AreKeysApart eq key ks → item_at n ks ≡ Some y → first_such (λ x. eq (key x) (key y)) ks ≡ Some n
  own_found n y [] keys there = absurd cc
  own_found n y (k ∷ ks) keys there = own_step n y k ks (k.number == n) (eq (key k.item) (key y)) refl refl keys.0 there (own_found n y ks keys.1)

  -- two items of one key have one number
  pub one_number : (n m : ℕ) (x y : T) (ks : List (Numbered T)) → AreKeysApart eq key ks → item_at n ks ≡ Some x → item_at m ks ≡ Some y → key x ≡ key y → n ≡ m
  one_number n m x y ks keys a b same =
      let both : Some n ≡ Some m = sym (own_found n x ks keys a) ∙ ap (λ j. first_such (λ z. eq (key z) j) ks) same ∙ own_found m y ks keys b in
      cc
