-- Of rows under keys, the one that was sent to longest ago is the first of the key that was.
use Rattle.std.proofs.Common.{◌≡◌, ◌∙◌, ◌+◌, ◌≤◌, ◌⊎◌, inl, inr, ap, arith, Bool, cond, false, List, [], ◌∷◌, None, Option, refl, Some, subst, sym, true, ℕ}
use Rattle.std.proofs.lemmas.Grind.{common_steps}
use Rattle.std.specs.Prelude.{◌||◌, count_by, filter, find, nat_le, nat_lt}
use Rattle.q_core.proofs.ListLaws.{find-passes}
use Rattle.q_core.proofs.Tallies.{tally_there}
use Rattle.q_core.specs.Ties.{AreTallied}
use Rattle.q_model.specs.Lists.{least}
use Rattle.q_core.proofs.Firsts.{find-narrower, IsLeastOf, least_is, lowest_found, none_least}

module _ {K D X : Type 0} (eq : K → K → Bool) (key : D → K) (same : (a b : K) → eq a b ≡ true → a ≡ b) (own : (a : K) → eq a a ≡ true) (g : D → ℕ) (name : X → K) (T : K → Bool) (last : D → ℕ) (L : K → ℕ) (ds : List D) (xs : List X) where
  abbrev under : K → D → Bool
  under k d = eq (key d) k

  abbrev is : K → X → Bool
  is k x = eq (name x) k

  abbrev either : D → D → X → Bool
  either p d x = is (key p) x || is (key d) x

  -- what is known of what is kept under keys
  pub record AreRounds : Type 0 where
    pub tie : AreTallied eq key g name ds xs
    pub found : (q : D → Bool) (d : D) → find q ds ≡ Some d → find (under (key d)) ds ≡ Some d
    pub some : (k : K) (d : D) → find (under k) ds ≡ Some d → (x : X) × (find (is k) xs ≡ Some x)
    pub counted : (x : X) (q : X → Bool) → find q xs ≡ Some x → (n : ℕ) × (count_by (is (name x)) xs ≡ n + 1)
    pub known : (k : K) (d : D) → find (under k) ds ≡ Some d → last d ≡ L (key d)
    pub apart : (k j : K) (d p : D) → find (under k) ds ≡ Some d → find (under j) ds ≡ Some p → last d ≡ last p → nat_lt 0 (last p) ≡ true → d ≡ p
    pub order : (q : D → Bool) (p d : D) (k : K) → find q ds ≡ Some p → find (under k) ds ≡ Some d → q d ≡ true → last p ≡ 0 → last d ≡ 0 → (d ≡ p) ⊎ (find (either p d) xs ≡ find (is (key p)) xs)

  module _ (h : AreRounds) (p : D) (next : least (λ a b. nat_lt (last a) (last b)) (filter (λ d. T (key d)) ds) ≡ Some p) where
    chosen : IsLeastOf last (λ d. T (key d)) ds p
    chosen = least_is last (λ d. T (key d)) ds p next

    here : find (under (key p)) ds ≡ Some p
    here = h.found _ p chosen.first

    abbrev rows : X → ℕ
    rows x = L (name x)

    abbrev passes : X → Bool
    passes x = T (name x)

    module _ (r : X) (a : IsLeastOf rows passes xs r) (d : D) (there : find (under (name r)) ds ≡ Some d) (first : X) (of : find (is (key p)) xs ≡ Some first) where
      key_of : key d ≡ name r
      key_of = same (key d) (name r) (find-passes (under (name r)) ds d there)

      last_d : last d ≡ L (name r)
      last_d = h.known (name r) d there ∙ ap L key_of

      last_p : last p ≡ L (key p)
      last_p = h.known (key p) p here

      name_first : name first ≡ key p
      name_first = same (name first) (key p) (find-passes (is (key p)) xs first of)

      d_passes : T (key d) ≡ true
      d_passes = ap T key_of ∙ a.passes

      up : last p ≤ last d
      up = lowest_found last (λ d. T (key d)) (under (name r)) (last p) ds d chosen.lowest there d_passes

      down : L (name r) ≤ L (name first)
      down = lowest_found rows passes (is (key p)) (L (name r)) xs first a.lowest of (ap T name_first ∙ chosen.passes)

      level : last d ≡ last p
      level = let at = ap L name_first in omega (arith, up, down, last_d, last_p, at)

      at_level : (k : K) → L k ≡ last p → nat_le (L k) (L (name r)) ≡ true
      at_level k is_p = grind (arith, common_steps, is_p, level, last_d)

      both : (b c : Bool) → b ≡ true → c ≡ true → cond b c false ≡ true
      both b c e f = ap (λ x. cond x c false) e ∙ f

      -- a row of the key passes what the first that is least passes
      own_passes : (x : X) → is (key p) x ≡ true → cond (passes x) (nat_le (rows x) (rows r)) false ≡ true
      own_passes x e =
          let named : name x ≡ key p = same (name x) (key p) e in
          both (passes x) (nat_le (rows x) (rows r)) (ap T named ∙ chosen.passes) (at_level (name x) (ap L named ∙ sym last_p))

      other_passes : (x : X) → is (key d) x ≡ true → cond (passes x) (nat_le (rows x) (rows r)) false ≡ true
      other_passes x e =
          let named : name x ≡ key d = same (name x) (key d) e in
          both (passes x) (nat_le (rows x) (rows r)) (ap T named ∙ d_passes) (at_level (name x) (ap L (named ∙ key_of) ∙ sym last_d ∙ level))

      either_passes : (x : X) (b : Bool) → is (key p) x ≡ b → (b || is (key d) x) ≡ true → cond (passes x) (nat_le (rows x) (rows r)) false ≡ true
      either_passes x true e f = own_passes x e
      either_passes x false e f = other_passes x f

      r_is_d : is (key d) r ≡ true
      r_is_d = ap (eq (name r)) key_of ∙ own (name r)

      or_right : (b c : Bool) → c ≡ true → (b || c) ≡ true
      or_right true c e = refl
      or_right false c e = e

      by_same : d ≡ p → find (is (key p)) xs ≡ Some r
      by_same e = find-narrower (λ x. cond (passes x) (nat_le (rows x) (rows r)) false) (is (key p)) own_passes xs r a.first (subst (λ z. is (key z) r ≡ true) e r_is_d)

      by_order : find (either p d) xs ≡ find (is (key p)) xs → find (is (key p)) xs ≡ Some r
      by_order ahead =
          sym ahead ∙ find-narrower (λ x. cond (passes x) (nat_le (rows x) (rows r)) false) (either p d) (λ x e. either_passes x (is (key p) x) refl e) xs r a.first (or_right (is (key p) r) (is (key d) r) r_is_d)

      zero_of : (n : ℕ) → nat_lt 0 n ≡ false → n ≡ 0
      zero_of n e = grind (arith, common_steps, e)

      q_d : cond (T (key d)) (nat_le (last d) (last p)) false ≡ true
      q_d = both (T (key d)) (nat_le (last d) (last p)) d_passes (flat (last d) (last p) level)
        where
          flat : (n m : ℕ) → n ≡ m → nat_le n m ≡ true
          flat n m e = grind (arith, common_steps, e)

      by_level : (b : Bool) → nat_lt 0 (last p) ≡ b → find (is (key p)) xs ≡ Some r
      by_level true e = by_same (h.apart (name r) (key p) d p there here level e)
      by_level false e =
          let none = zero_of (last p) e in
          step (h.order (λ d. cond (T (key d)) (nat_le (last d) (last p)) false) p d (name r) chosen.first there q_d none (level ∙ none))
        where
          step : (d ≡ p) ⊎ (find (either p d) xs ≡ find (is (key p)) xs) → find (is (key p)) xs ≡ Some r
          step (inl e) = by_same e
          step (inr e) = by_order e

    stuck_step : (x : X) (o q : Option X) (y : X) → (o ≡ Some y → q ≡ None → ⊥) → (b c : Bool) → (b ≡ true → c ≡ true) → cond b (Some x) o ≡ Some y → cond c (Some x) q ≡ None → ⊥
    stuck_step x o q y rest true c within e f = let yes = within refl in cc
    stuck_step x o q y rest false true within e f = cc
    stuck_step x o q y rest false false within e f = rest e f

    stuck : (ys : List X) (y : X) → find (is (key p)) ys ≡ Some y → find passes ys ≡ None → ⊥
    stuck [] y e f = cc
    stuck (x ∷ ys) y e f =
        stuck_step x (find (is (key p)) ys) (find passes ys) y (stuck ys y) (is (key p) x) (passes x) (λ t. ap T (same (name x) (key p) t) ∙ chosen.passes) e f

    pub from_least : (first : X) → find (is (key p)) xs ≡ Some first → (o : Option X) → least (λ a b. nat_lt (rows a) (rows b)) (filter passes xs) ≡ o → o ≡ find (is (key p)) xs
    from_least first of None e = absurd (stuck xs first of (none_least rows passes xs e))
    from_least first of (Some r) e =
        let a = least_is rows passes xs r e in
        let n = h.counted r _ a.first in
        let d = tally_there eq key same own g name ds xs (name r) n.0 h.tie n.1 in
        sym (by_level r a d.0 d.1 first of (nat_lt 0 (last p)) refl)

    -- it is the first row of the key
    pub picked : least (λ a b. nat_lt (rows a) (rows b)) (filter passes xs) ≡ find (is (key p)) xs
    picked =
        let row = h.some (key p) p here in
        from_least row.0 row.1 (least (λ a b. nat_lt (rows a) (rows b)) (filter passes xs)) refl
