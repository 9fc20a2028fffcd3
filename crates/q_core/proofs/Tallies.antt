-- Counts that are kept under keys, as what they count comes and goes.
use Rattle.std.proofs.Common.{◌≡◌, ◌∙◌, ◌+◌, ◌-◌, ap, arith, Bool, cond, false, List, [], ◌∷◌, ◌++◌, map, None, Option, refl, Some, subst, sym, true, ℕ}
use Rattle.std.specs.Option.{option_map_or}
use Rattle.std.specs.Prelude.{count_by, filter, find, not}
use Rattle.q_core.proofs.CountLaws.{count_more, counted_step}
use Rattle.q_core.specs.Lists.{moved_back}
use Rattle.q_core.specs.Ties.{AreTallied, tally_of}
use Rattle.q_model.specs.Lists.{drop_first}

module _ {K D : Type 0} (eq : K → K → Bool) (key : D → K) (same : (a b : K) → eq a b ≡ true → a ≡ b) (own : (a : K) → eq a a ≡ true) where
  of_both : (k y : K) (d : D) → eq k y ≡ false → eq (key d) y ≡ true → eq (key d) k ≡ true → ⊥
  of_both k y d apart a b =
      let one : key d ≡ y = same (key d) y a in
      let two : key d ≡ k = same (key d) k b in
      let bad : true ≡ false = sym (own k) ∙ ap (eq k) (sym two ∙ one) ∙ apart in cc

  -- what stands under one key is changed, and stays under it
  module _ (g : D → ℕ) (k : K) (f : D → D) (stays : (d : D) → key (f d) ≡ key d) where
    other_step : (y : K) (d : D) (o o' : Option D) → eq k y ≡ false → option_map_or g o' 0 ≡ option_map_or g o 0 → (a b : Bool) → eq (key d) y ≡ a → eq (key d) k ≡ b →
        option_map_or g (cond (eq (key (cond b (f d) d)) y) (Some (cond b (f d) d)) o') 0 ≡ option_map_or g (cond a (Some d) o) 0
    other_step y d o o' apart h true true s t = absurd (of_both k y d apart s t)
    other_step y d o o' apart h true false s t = ap (λ b. option_map_or g (cond b (Some d) o') 0) s
    other_step y d o o' apart h false true s t = ap (λ b. option_map_or g (cond b (Some (f d)) o') 0) (ap (λ i. eq i y) (stays d) ∙ s) ∙ h
    other_step y d o o' apart h false false s t = ap (λ b. option_map_or g (cond b (Some d) o') 0) s ∙ h

    -- under the others it stays
    pub tally_others : (y : K) (ds : List D) → eq k y ≡ false → tally_of eq key g (map (λ d. cond (eq (key d) k) (f d) d) ds) y ≡ tally_of eq key g ds y
    tally_others y [] apart = refl
    tally_others y (d ∷ ds) apart =
        other_step y d (find (λ d. eq (key d) y) ds) (find (λ d. eq (key d) y) (map (λ d. cond (eq (key d) k) (f d) d) ds)) apart (tally_others y ds apart) (eq (key d) y) (eq (key d) k) refl refl

    own_step : (d found : D) (o o' : Option D) → (o ≡ Some found → option_map_or g o' 0 ≡ g (f found)) → (b : Bool) → eq (key d) k ≡ b → cond b (Some d) o ≡ Some found →
        option_map_or g (cond (eq (key (cond b (f d) d)) k) (Some (cond b (f d) d)) o') 0 ≡ g (f found)
    own_step d found o o' more true t h =
        let is : d ≡ found = cc in
        ap (λ b. option_map_or g (cond b (Some (f d)) o') 0) (ap (λ i. eq i k) (stays d) ∙ t) ∙ ap (λ x. g (f x)) is
    own_step d found o o' more false t h = ap (λ b. option_map_or g (cond b (Some d) o') 0) t ∙ more h

    pub tally_own : (ds : List D) (found : D) → find (λ d. eq (key d) k) ds ≡ Some found → tally_of eq key g (map (λ d. cond (eq (key d) k) (f d) d) ds) k ≡ g (f found)
    tally_own [] found h = cc
    tally_own (d ∷ ds) found h =
        own_step d found (find (λ d. eq (key d) k) ds) (find (λ d. eq (key d) k) (map (λ d. cond (eq (key d) k) (f d) d) ds)) (tally_own ds found) (eq (key d) k) refl h

    set_step : {X : Type 0} (name : X → K) (ds : List D) (xs ys : List X) (found : D) → AreTallied eq key g name ds xs → find (λ d. eq (key d) k) ds ≡ Some found → g (f found) ≡ count_by (λ x. eq (name x) k) ys →
        ((y : K) → eq k y ≡ false → count_by (λ x. eq (name x) y) ys ≡ count_by (λ x. eq (name x) y) xs) → (y : K) (b : Bool) → eq k y ≡ b → tally_of eq key g (map (λ d. cond (eq (key d) k) (f d) d) ds) y ≡ count_by (λ x. eq (name x) y) ys
    set_step name ds xs ys found tie there many others y true t =
        subst (λ z. tally_of eq key g (map (λ d. cond (eq (key d) k) (f d) d) ds) z ≡ count_by (λ x. eq (name x) z) ys) (same k y t) (tally_own ds found there ∙ many)
    set_step name ds xs ys found tie there many others y false t = tally_others y ds t ∙ tie y ∙ sym (others y t)

    -- the count under the key follows its list
    pub tally_set : {X : Type 0} (name : X → K) (ds : List D) (xs ys : List X) (found : D) → AreTallied eq key g name ds xs → find (λ d. eq (key d) k) ds ≡ Some found → g (f found) ≡ count_by (λ x. eq (name x) k) ys →
        ((y : K) → eq k y ≡ false → count_by (λ x. eq (name x) y) ys ≡ count_by (λ x. eq (name x) y) xs) → AreTallied eq key g name (map (λ d. cond (eq (key d) k) (f d) d) ds) ys
    tally_set name ds xs ys found tie there many others = λ y. set_step name ds xs ys found tie there many others y (eq k y) refl

  -- Changes that leave keys and counts.
  module _ (g : D → ℕ) (f : D → D) (stays : (d : D) → key (f d) ≡ key d) (counts : (d : D) → g (f d) ≡ g d) where
    map_step : (y : K) (d : D) (o o' : Option D) → option_map_or g o' 0 ≡ option_map_or g o 0 → (b : Bool) → option_map_or g (cond b (Some (f d)) o') 0 ≡ option_map_or g (cond b (Some d) o) 0
    map_step y d o o' h true = counts d
    map_step y d o o' h false = h

    pub tally_same : (y : K) (ds : List D) → tally_of eq key g (map f ds) y ≡ tally_of eq key g ds y
    tally_same y [] = refl
    tally_same y (d ∷ ds) =
        ap (λ i. option_map_or g (cond (eq i y) (Some (f d)) (find (λ d. eq (key d) y) (map f ds))) 0) (stays d)
        ∙ map_step y d (find (λ d. eq (key d) y) ds) (find (λ d. eq (key d) y) (map f ds)) (tally_same y ds) (eq (key d) y)

    pub tally_mapped : {X : Type 0} (name : X → K) (ds : List D) (xs : List X) → AreTallied eq key g name ds xs → AreTallied eq key g name (map f ds) xs
    tally_mapped name ds xs tie = λ y. tally_same y ds ∙ tie y

  last_step : (g : D → ℕ) (y : K) (d : D) (o o' : Option D) → option_map_or g o' 0 ≡ option_map_or g o 0 → (b : Bool) → option_map_or g (cond b (Some d) o') 0 ≡ option_map_or g (cond b (Some d) o) 0
  last_step g y d o o' h true = refl
  last_step g y d o o' h false = h

  nothing_yet : (g : D → ℕ) (new : D) → g new ≡ 0 → (b : Bool) → option_map_or g (cond b (Some new) None) 0 ≡ 0
  nothing_yet g new h true = h
  nothing_yet g new h false = refl

  pub tally_last : (g : D → ℕ) (y : K) (ds : List D) (new : D) → g new ≡ 0 → tally_of eq key g (ds ++ new ∷ []) y ≡ tally_of eq key g ds y
  tally_last g y [] new h = nothing_yet g new h (eq (key new) y)
  tally_last g y (d ∷ ds) new h = last_step g y d (find (λ d. eq (key d) y) ds) (find (λ d. eq (key d) y) (ds ++ new ∷ [])) (tally_last g y ds new h) (eq (key d) y)

  -- one comes of which nothing is counted
  pub tally_more : {X : Type 0} (g : D → ℕ) (name : X → K) (ds : List D) (xs : List X) (new : D) → g new ≡ 0 → AreTallied eq key g name ds xs → AreTallied eq key g name (ds ++ new ∷ []) xs
  tally_more g name ds xs new h tie = λ y. tally_last g y ds new h ∙ tie y

  gone_step : (g : D → ℕ) (k y : K) (d : D) (o : Option D) (ds : List D) → eq k y ≡ false → option_map_or g (find (λ d. eq (key d) y) ds) 0 ≡ option_map_or g o 0 → (a b : Bool) → eq (key d) k ≡ b → eq (key d) y ≡ a →
      option_map_or g (find (λ d. eq (key d) y) (cond (not b) (d ∷ ds) ds)) 0 ≡ option_map_or g (cond a (Some d) o) 0
  gone_step g k y d o ds apart h true true t s = absurd (of_both k y d apart s t)
  gone_step g k y d o ds apart h false true t s = h
  gone_step g k y d o ds apart h true false t s = ap (λ b. option_map_or g (cond b (Some d) (find (λ d. eq (key d) y) ds)) 0) s
  gone_step g k y d o ds apart h false false t s = ap (λ b. option_map_or g (cond b (Some d) (find (λ d. eq (key d) y) ds)) 0) s ∙ h

  tally_left : (g : D → ℕ) (k y : K) (ds : List D) → eq k y ≡ false → tally_of eq key g (filter (λ d. not (eq (key d) k)) ds) y ≡ tally_of eq key g ds y
  tally_left g k y [] apart = refl
  tally_left g k y (d ∷ ds) apart =
      gone_step g k y d (find (λ d. eq (key d) y) ds) (filter (λ d. not (eq (key d) k)) ds) apart (tally_left g k y ds apart) (eq (key d) y) (eq (key d) k) refl refl

  none_step : (k : K) (d : D) (ds : List D) → find (λ d. eq (key d) k) ds ≡ None → (b : Bool) → eq (key d) k ≡ b → find (λ d. eq (key d) k) (cond (not b) (d ∷ ds) ds) ≡ None
  none_step k d ds h true t = h
  none_step k d ds h false t = ap (λ b. cond b (Some d) (find (λ d. eq (key d) k) ds)) t ∙ h

  none_left : (k : K) (ds : List D) → find (λ d. eq (key d) k) (filter (λ d. not (eq (key d) k)) ds) ≡ None
  none_left k [] = refl
  none_left k (d ∷ ds) = none_step k d (filter (λ d. not (eq (key d) k)) ds) (none_left k ds) (eq (key d) k) refl

  left_step : {X : Type 0} (g : D → ℕ) (name : X → K) (ds : List D) (xs : List X) (k : K) → AreTallied eq key g name ds xs → tally_of eq key g ds k ≡ 0 → (y : K) (b : Bool) → eq k y ≡ b →
      tally_of eq key g (filter (λ d. not (eq (key d) k)) ds) y ≡ count_by (λ x. eq (name x) y) xs
  left_step g name ds xs k tie h y true t =
      subst (λ z. tally_of eq key g (filter (λ d. not (eq (key d) k)) ds) z ≡ count_by (λ x. eq (name x) z) xs) (same k y t) (ap (λ o. option_map_or g o 0) (none_left k ds) ∙ sym h ∙ tie k)
  left_step g name ds xs k tie h y false t = tally_left g k y ds t ∙ tie y

  -- one goes of which nothing is counted
  pub tally_goes : {X : Type 0} (g : D → ℕ) (name : X → K) (ds : List D) (xs : List X) (k : K) → AreTallied eq key g name ds xs → tally_of eq key g ds k ≡ 0 → AreTallied eq key g name (filter (λ d. not (eq (key d) k)) ds) xs
  tally_goes g name ds xs k tie h = λ y. left_step g name ds xs k tie h y (eq k y) refl

  -- What is kept under a key.
  pub tally_here : {X : Type 0} (g : D → ℕ) (name : X → K) (ds : List D) (xs : List X) (k : K) (d : D) → AreTallied eq key g name ds xs → find (λ d. eq (key d) k) ds ≡ Some d → g d ≡ count_by (λ x. eq (name x) k) xs
  tally_here g name ds xs k d tie there = ap (λ o. option_map_or g o 0) (sym there) ∙ tie k

  some_kept : (g : D → ℕ) (o : Option D) (n : ℕ) → option_map_or g o 0 ≡ n + 1 → (d : D) × (o ≡ Some d)
  some_kept g None n h = absurd (omega (arith, h))
  some_kept g (Some d) n h = (d, refl)

  -- what is counted has one that keeps its count
  pub tally_there : {X : Type 0} (g : D → ℕ) (name : X → K) (ds : List D) (xs : List X) (k : K) (n : ℕ) → AreTallied eq key g name ds xs → count_by (λ x. eq (name x) k) xs ≡ n + 1 → (d : D) × (find (λ d. eq (key d) k) ds ≡ Some d)
  tally_there g name ds xs k n tie many = some_kept g (find (λ d. eq (key d) k) ds) n (tie k ∙ many)

  module _ {X : Type 0} (g : D → ℕ) (name : X → K) (f : D → D) (stays : (d : D) → key (f d) ≡ key d) (ds : List D) (xs : List X) (k : K) (x : X) (found : D) (tie : AreTallied eq key g name ds xs) (named : name x ≡ k) (there : find (λ d. eq (key d) k) ds ≡ Some found) where
    own_one : eq (name x) k ≡ true
    own_one = ap (λ i. eq i k) named ∙ own k

    -- one comes under the key
    pub tally_comes : g (f found) ≡ g found + 1 → AreTallied eq key g name (map (λ d. cond (eq (key d) k) (f d) d) ds) (xs ++ x ∷ [])
    tally_comes more =
        let before = tally_here g name ds xs k found tie there in
        let sum = count_more (λ x. eq (name x) k) xs (x ∷ []) in
        let one = counted_step (λ x. eq (name x) k) x [] ∙ ap (λ b. cond b 1 0 + 0) own_one in
        tally_set g k f stays name ds xs (xs ++ x ∷ []) found tie there (omega (arith, more, before, sum, one))
        (λ y apart.
        let all = count_more (λ x. eq (name x) y) xs (x ∷ []) in
        let none = counted_step (λ x. eq (name x) y) x [] ∙ ap (λ i. cond (eq i y) 1 0 + 0) named ∙ ap (λ b. cond b 1 0 + 0) apart in
        omega (arith, all, none))

    -- one goes, and the others stay
    pub tally_fewer : (ys : List X) → ((p : X → Bool) → count_by p xs ≡ count_by p ys + cond (p x) 1 0) → g (f found) ≡ g found - 1 → AreTallied eq key g name (map (λ d. cond (eq (key d) k) (f d) d) ds) ys
    tally_fewer ys rest less =
        let before = tally_here g name ds xs k found tie there in
        let out = rest (λ x. eq (name x) k) ∙ ap (λ b. count_by (λ x. eq (name x) k) ys + cond b 1 0) own_one in
        tally_set g k f stays name ds xs ys found tie there (omega (arith, less, before, out))
        (λ y apart.
        let all = rest (λ x. eq (name x) y) ∙ ap (λ i. count_by (λ x. eq (name x) y) ys + cond (eq i y) 1 0) named ∙ ap (λ b. count_by (λ x. eq (name x) y) ys + cond b 1 0) apart in
        omega (arith, all))

  -- no two stand under one key
  abbrev pub AreKeyed : List D → Type 0
  AreKeyed [] = Unit {0}
  AreKeyed (d ∷ ds) = (find (λ e. eq (key e) (key d)) ds ≡ None) × AreKeyed ds

  none_under : (g : D → ℕ) (d : D) (y : K) (ds : List D) → eq (key d) y ≡ true → find (λ e. eq (key e) (key d)) ds ≡ None → tally_of eq key g ds y ≡ 0
  none_under g d y ds t none = ap (λ k. option_map_or g (find (λ e. eq (key e) k) ds) 0) (sym (same (key d) y t)) ∙ ap (λ o. option_map_or g o 0) none

  filtered_step : (g : D → ℕ) (keep : D → Bool) (y : K) (d : D) (ds : List D) → (keep d ≡ false → g d ≡ 0) → find (λ e. eq (key e) (key d)) ds ≡ None → tally_of eq key g (filter keep ds) y ≡ tally_of eq key g ds y → (a b : Bool) → eq (key d) y ≡ a → keep d ≡ b →
      option_map_or g (find (λ e. eq (key e) y) (cond b (d ∷ filter keep ds) (filter keep ds))) 0 ≡ option_map_or g (cond a (Some d) (find (λ e. eq (key e) y) ds)) 0
  filtered_step g keep y d ds zero none rest true true t k = ap (λ b. option_map_or g (cond b (Some d) (find (λ e. eq (key e) y) (filter keep ds))) 0) t
  filtered_step g keep y d ds zero none rest false true t k = ap (λ b. option_map_or g (cond b (Some d) (find (λ e. eq (key e) y) (filter keep ds))) 0) t ∙ rest
  filtered_step g keep y d ds zero none rest true false t k = rest ∙ none_under g d y ds t none ∙ sym (zero k)
  filtered_step g keep y d ds zero none rest false false t k = rest

  pub tally_filter : (g : D → ℕ) (keep : D → Bool) → ((d : D) → keep d ≡ false → g d ≡ 0) → (y : K) (ds : List D) → AreKeyed ds → tally_of eq key g (filter keep ds) y ≡ tally_of eq key g ds y
  tally_filter g keep zero y [] apart = refl
  tally_filter g keep zero y (d ∷ ds) apart = filtered_step g keep y d ds (zero d) apart.0 (tally_filter g keep zero y ds apart.1) (eq (key d) y) (keep d) refl refl

  -- some go of which nothing is counted
  pub tally_filtered : {X : Type 0} (g : D → ℕ) (keep : D → Bool) (name : X → K) (ds : List D) (xs : List X) → ((d : D) → keep d ≡ false → g d ≡ 0) → AreKeyed ds → AreTallied eq key g name ds xs → AreTallied eq key g name (filter keep ds) xs
  tally_filtered g keep name ds xs zero apart tie = λ y. tally_filter g keep zero y ds apart ∙ tie y

  dropped_step : (g : D → ℕ) (test : D → Bool) (y : K) (d : D) (ds : List D) → (test d ≡ true → g d ≡ 0) → find (λ e. eq (key e) (key d)) ds ≡ None → tally_of eq key g (drop_first test ds) y ≡ tally_of eq key g ds y → (a b : Bool) → eq (key d) y ≡ a → test d ≡ b →
      option_map_or g (find (λ e. eq (key e) y) (cond b ds (d ∷ drop_first test ds))) 0 ≡ option_map_or g (cond a (Some d) (find (λ e. eq (key e) y) ds)) 0
  dropped_step g test y d ds zero none rest true true t k = none_under g d y ds t none ∙ sym (zero k)
  dropped_step g test y d ds zero none rest false true t k = refl
  dropped_step g test y d ds zero none rest true false t k = ap (λ b. option_map_or g (cond b (Some d) (find (λ e. eq (key e) y) (drop_first test ds))) 0) t
  dropped_step g test y d ds zero none rest false false t k = ap (λ b. option_map_or g (cond b (Some d) (find (λ e. eq (key e) y) (drop_first test ds))) 0) t ∙ rest

  pub tally_drop : (g : D → ℕ) (test : D → Bool) → ((d : D) → test d ≡ true → g d ≡ 0) → (y : K) (ds : List D) → AreKeyed ds → tally_of eq key g (drop_first test ds) y ≡ tally_of eq key g ds y
  tally_drop g test zero y [] apart = refl
  tally_drop g test zero y (d ∷ ds) apart = dropped_step g test y d ds (zero d) apart.0 (tally_drop g test zero y ds apart.1) (eq (key d) y) (test d) refl refl

  pub tally_dropped : {X : Type 0} (g : D → ℕ) (test : D → Bool) (name : X → K) (ds : List D) (xs : List X) → ((d : D) → test d ≡ true → g d ≡ 0) → AreKeyed ds → AreTallied eq key g name ds xs → AreTallied eq key g name (drop_first test ds) xs
  tally_dropped g test name ds xs zero apart tie = λ y. tally_drop g test zero y ds apart ∙ tie y

  last_other : (g : D → ℕ) (y : K) (ds : List D) (x : D) → eq (key x) y ≡ false → tally_of eq key g (ds ++ x ∷ []) y ≡ tally_of eq key g ds y
  last_other g y [] x h = ap (λ b. option_map_or g (cond b (Some x) None) 0) h
  last_other g y (d ∷ ds) x h = last_step g y d (find (λ e. eq (key e) y) ds) (find (λ e. eq (key e) y) (ds ++ x ∷ [])) (last_other g y ds x h) (eq (key d) y)

  own_last_step : (g : D → ℕ) (y : K) (x d : D) (o o' : Option D) → (o ≡ None → option_map_or g o' 0 ≡ g x) → (b : Bool) → cond b (Some d) o ≡ None → option_map_or g (cond b (Some d) o') 0 ≡ g x
  own_last_step g y x d o o' more true h = cc
  own_last_step g y x d o o' more false h = more h

  last_own : (g : D → ℕ) (y : K) (ds : List D) (x : D) → eq (key x) y ≡ true → find (λ e. eq (key e) y) ds ≡ None → tally_of eq key g (ds ++ x ∷ []) y ≡ g x
  last_own g y [] x h none = ap (λ b. option_map_or g (cond b (Some x) None) 0) h
  last_own g y (d ∷ ds) x h none = own_last_step g y x d (find (λ e. eq (key e) y) ds) (find (λ e. eq (key e) y) (ds ++ x ∷ [])) (last_own g y ds x h) (eq (key d) y) none

  -- the first of its key comes, of which one is counted
  first_step : {X : Type 0} (g : D → ℕ) (name : X → K) (ds : List D) (xs : List X) (new : D) (x : X) → AreTallied eq key g name ds xs → find (λ e. eq (key e) (key new)) ds ≡ None → g new ≡ 1 → name x ≡ key new →
      (y : K) (b : Bool) → eq (key new) y ≡ b → tally_of eq key g (ds ++ new ∷ []) y ≡ count_by (λ x. eq (name x) y) (xs ++ x ∷ [])
  first_step g name ds xs new x tie none one named y true t =
      let is : key new ≡ y = same (key new) y t in
      let absent : find (λ e. eq (key e) y) ds ≡ None = ap (λ k. find (λ e. eq (key e) k) ds) (sym is) ∙ none in
      let before = sym (tie y) ∙ ap (λ o. option_map_or g o 0) absent in
      let sum = count_more (λ x. eq (name x) y) xs (x ∷ []) in
      let last = counted_step (λ x. eq (name x) y) x [] ∙ ap (λ b. cond b 1 0 + 0) (ap (λ i. eq i y) named ∙ t) in
      last_own g y ds new t absent ∙ one ∙ omega (arith, before, sum, last)
  first_step g name ds xs new x tie none one named y false t =
      let sum = count_more (λ x. eq (name x) y) xs (x ∷ []) in
      let last = counted_step (λ x. eq (name x) y) x [] ∙ ap (λ b. cond b 1 0 + 0) (ap (λ i. eq i y) named ∙ t) in
      last_other g y ds new t ∙ tie y ∙ omega (arith, sum, last)

  pub tally_first : {X : Type 0} (g : D → ℕ) (name : X → K) (ds : List D) (xs : List X) (new : D) (x : X) → AreTallied eq key g name ds xs → find (λ e. eq (key e) (key new)) ds ≡ None → g new ≡ 1 → name x ≡ key new → AreTallied eq key g name (ds ++ new ∷ []) (xs ++ x ∷ [])
  tally_first g name ds xs new x tie none one named = λ y. first_step g name ds xs new x tie none one named y (eq (key new) y) refl

  moved_own_step : (g : D → ℕ) (y : K) (d : D) (ds : List D) → find (λ e. eq (key e) (key d)) ds ≡ None → (a : Bool) → eq (key d) y ≡ a → tally_of eq key g (ds ++ d ∷ []) y ≡ option_map_or g (cond a (Some d) (find (λ e. eq (key e) y) ds)) 0
  moved_own_step g y d ds none true t = last_own g y ds d t (ap (λ k. find (λ e. eq (key e) k) ds) (sym (same (key d) y t)) ∙ none)
  moved_own_step g y d ds none false t = last_other g y ds d t

  moved_step : (g : D → ℕ) (test : D → Bool) (y : K) (d x : D) (ds : List D) → find (λ e. eq (key e) (key d)) ds ≡ None → (find test ds ≡ Some x → tally_of eq key g (drop_first test ds ++ x ∷ []) y ≡ tally_of eq key g ds y) → (b : Bool) → test d ≡ b → cond b (Some d) (find test ds) ≡ Some x →
      tally_of eq key g (cond b ds (d ∷ drop_first test ds) ++ x ∷ []) y ≡ option_map_or g (cond (eq (key d) y) (Some d) (find (λ e. eq (key e) y) ds)) 0
  moved_step g test y d x ds none rest true t h =
      let is : d ≡ x = cc in
      ap (λ z. tally_of eq key g (ds ++ z ∷ []) y) (sym is) ∙ moved_own_step g y d ds none (eq (key d) y) refl
  moved_step g test y d x ds none rest false t h = last_step g y d (find (λ e. eq (key e) y) ds) (find (λ e. eq (key e) y) (drop_first test ds ++ x ∷ [])) (rest h) (eq (key d) y)

  moved_one : (g : D → ℕ) (test : D → Bool) (y : K) (x : D) (ds : List D) → AreKeyed ds → find test ds ≡ Some x → tally_of eq key g (drop_first test ds ++ x ∷ []) y ≡ tally_of eq key g ds y
  moved_one g test y x [] apart h = cc
  moved_one g test y x (d ∷ ds) apart h = moved_step g test y d x ds apart.0 (moved_one g test y x ds apart.1) (test d) refl h

  pub moved_by : (g : D → ℕ) (test : D → Bool) (y : K) (ds : List D) (o : Option D) → AreKeyed ds → find test ds ≡ o → tally_of eq key g (option_map_or (λ x. drop_first test ds ++ x ∷ []) o ds) y ≡ tally_of eq key g ds y
  moved_by g test y ds None apart h = refl
  moved_by g test y ds (Some x) apart h = moved_one g test y x ds apart h

  -- one goes behind all others
  pub tally_moved : {X : Type 0} (g : D → ℕ) (test : D → Bool) (name : X → K) (ds : List D) (xs : List X) → AreKeyed ds → AreTallied eq key g name ds xs → AreTallied eq key g name (moved_back test ds) xs
  tally_moved g test name ds xs apart tie = λ y. moved_by g test y ds (find test ds) apart refl ∙ tie y

  pub flipped : (a b : K) (t : Bool) → eq b a ≡ t → eq a b ≡ false → t ≡ false
  flipped a b false h k = refl
  flipped a b true h k =
      let is : b ≡ a = same b a h in
      let bad : true ≡ false = sym (own a) ∙ ap (eq a) (sym is) ∙ k in cc

  mapped_step : (f : D → D) (k : K) (d : D) (o o' : Option D) → (o ≡ None → o' ≡ None) → (b : Bool) → cond b (Some d) o ≡ None → cond b (Some (f d)) o' ≡ None
  mapped_step f k d o o' rest true h = cc
  mapped_step f k d o o' rest false h = rest h

  mapped_none : (f : D → D) → ((d : D) → key (f d) ≡ key d) → (k : K) (ds : List D) → find (λ e. eq (key e) k) ds ≡ None → find (λ e. eq (key e) k) (map f ds) ≡ None
  mapped_none f stays k [] h = refl
  mapped_none f stays k (d ∷ ds) h =
      ap (λ i. cond (eq i k) (Some (f d)) (find (λ e. eq (key e) k) (map f ds))) (stays d)
      ∙ mapped_step f k d (find (λ e. eq (key e) k) ds) (find (λ e. eq (key e) k) (map f ds)) (mapped_none f stays k ds) (eq (key d) k) h

  pub keyed_mapped : (f : D → D) → ((d : D) → key (f d) ≡ key d) → (ds : List D) → AreKeyed ds → AreKeyed (map f ds)
  keyed_mapped f stays [] h = tt
  keyed_mapped f stays (d ∷ ds) h = (ap (λ k. find (λ e. eq (key e) k) (map f ds)) (stays d) ∙ mapped_none f stays (key d) ds h.0, keyed_mapped f stays ds h.1)

  none_parts : (k : K) (d : D) (ds : List D) (b : Bool) → eq (key d) k ≡ b → cond b (Some d) (find (λ e. eq (key e) k) ds) ≡ None → (eq (key d) k ≡ false) × (find (λ e. eq (key e) k) ds ≡ None)
  none_parts k d ds true t h = cc
  none_parts k d ds false t h = (t, h)

  none_last : (k : K) (ds : List D) (x : D) → find (λ e. eq (key e) k) ds ≡ None → eq (key x) k ≡ false → find (λ e. eq (key e) k) (ds ++ x ∷ []) ≡ None
  none_last k [] x h t = ap (λ b. cond b (Some x) None) t
  none_last k (d ∷ ds) x h t =
      let parts = none_parts k d ds (eq (key d) k) refl h in
      ap (λ b. cond b (Some d) (find (λ e. eq (key e) k) (ds ++ x ∷ []))) parts.0 ∙ none_last k ds x parts.1 t

  pub keyed_last : (ds : List D) (x : D) → find (λ e. eq (key e) (key x)) ds ≡ None → AreKeyed ds → AreKeyed (ds ++ x ∷ [])
  keyed_last [] x none h = (refl, tt)
  keyed_last (d ∷ ds) x none h =
      let parts = none_parts (key x) d ds (eq (key d) (key x)) refl none in
      (none_last (key d) ds x h.0 (flipped (key d) (key x) (eq (key x) (key d)) refl parts.0), keyed_last ds x parts.1 h.1)

  none_dropped_step : (test : D → Bool) (k : K) (d : D) (ds : List D) → eq (key d) k ≡ false → find (λ e. eq (key e) k) ds ≡ None → find (λ e. eq (key e) k) (drop_first test ds) ≡ None → (b : Bool) → find (λ e. eq (key e) k) (cond b ds (d ∷ drop_first test ds)) ≡ None
  none_dropped_step test k d ds other none rest true = none
  none_dropped_step test k d ds other none rest false = ap (λ b. cond b (Some d) (find (λ e. eq (key e) k) (drop_first test ds))) other ∙ rest

  none_dropped : (test : D → Bool) (k : K) (ds : List D) → find (λ e. eq (key e) k) ds ≡ None → find (λ e. eq (key e) k) (drop_first test ds) ≡ None
  none_dropped test k [] h = refl
  none_dropped test k (d ∷ ds) h =
      let parts = none_parts k d ds (eq (key d) k) refl h in
      none_dropped_step test k d ds parts.0 parts.1 (none_dropped test k ds parts.1) (test d)

  found_other_step : (test : D → Bool) (k : K) (d x : D) (ds : List D) → eq (key d) k ≡ false → (find test ds ≡ Some x → eq (key x) k ≡ false) → (b : Bool) → cond b (Some d) (find test ds) ≡ Some x → eq (key x) k ≡ false
  found_other_step test k d x ds other rest true h = let is : d ≡ x = cc in ap (λ (z : D). eq (key z) k) (sym is) ∙ other
  found_other_step test k d x ds other rest false h = rest h

  found_other : (test : D → Bool) (k : K) (x : D) (ds : List D) → find (λ e. eq (key e) k) ds ≡ None → find test ds ≡ Some x → eq (key x) k ≡ false
  found_other test k x [] none h = cc
  found_other test k x (d ∷ ds) none h =
      let parts = none_parts k d ds (eq (key d) k) refl none in
      found_other_step test k d x ds parts.0 (found_other test k x ds parts.1) (test d) h

  keyed_moved_step : (test : D → Bool) (d x : D) (ds : List D) → find (λ e. eq (key e) (key d)) ds ≡ None → AreKeyed ds → (find test ds ≡ Some x → AreKeyed (drop_first test ds ++ x ∷ [])) → (b : Bool) → cond b (Some d) (find test ds) ≡ Some x →
      AreKeyed (cond b ds (d ∷ drop_first test ds) ++ x ∷ [])
  keyed_moved_step test d x ds none apart rest true h = let is : d ≡ x = cc in subst (λ z. AreKeyed (ds ++ z ∷ [])) is (keyed_last ds d none apart)
  keyed_moved_step test d x ds none apart rest false h =
      (none_last (key d) (drop_first test ds) x (none_dropped test (key d) ds none) (found_other test (key d) x ds none h), rest h)

  keyed_moved_one : (test : D → Bool) (x : D) (ds : List D) → AreKeyed ds → find test ds ≡ Some x → AreKeyed (drop_first test ds ++ x ∷ [])
  keyed_moved_one test x [] apart h = cc
  keyed_moved_one test x (d ∷ ds) apart h = keyed_moved_step test d x ds apart.0 apart.1 (keyed_moved_one test x ds apart.1) (test d) h

  keyed_moved_by : (test : D → Bool) (ds : List D) (o : Option D) → AreKeyed ds → find test ds ≡ o → AreKeyed (option_map_or (λ x. drop_first test ds ++ x ∷ []) o ds)
  keyed_moved_by test ds None apart h = apart
  keyed_moved_by test ds (Some x) apart h = keyed_moved_one test x ds apart h

  pub keyed_moved : (test : D → Bool) (ds : List D) → AreKeyed ds → AreKeyed (moved_back test ds)
  keyed_moved test ds apart = keyed_moved_by test ds (find test ds) apart refl
