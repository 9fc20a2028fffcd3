-- What is kept under the keys that pass a test is, all together, what of a list is under such a key.
use Rattle.std.proofs.Common.{◌≡◌, ◌∙◌, ◌+◌, ap, arith, Bool, cond, false, List, [], ◌∷◌, None, refl, Some, sym, true, ℕ}
use Rattle.std.specs.Option.{option_map_or}
use Rattle.std.specs.Prelude.{count_by, filter, find, not}
use Rattle.q_core.proofs.CountLaws.{counted_step}
use Rattle.q_core.proofs.Tallies.{AreKeyed, tally_here}
use Rattle.q_core.specs.Ties.{AreTallied, tally_of}

module _ {K D X : Type 0} (eq : K → K → Bool) (key : D → K) (same : (a b : K) → eq a b ≡ true → a ≡ b) (own : (a : K) → eq a a ≡ true) (g : D → ℕ) (name : X → K) (T : K → Bool) where
  abbrev pub kept_sum : List D → ℕ
  kept_sum [] = 0
  kept_sum (d ∷ ds) = cond (T (key d)) (g d) 0 + kept_sum ds

  abbrev is : K → X → Bool
  is k x = eq (name x) k

  abbrev others : K → List X → List X
  others k xs = filter (λ x. not (eq (name x) k)) xs

  none_counted : (xs : List X) → ((k : K) → 0 ≡ count_by (is k) xs) → count_by (λ x. T (name x)) xs ≡ 0
  none_counted [] h = refl
  none_counted (x ∷ xs) h =
      let a = h (name x) in
      let b = counted_step (is (name x)) x xs ∙ ap (λ t. cond t 1 0 + count_by (is (name x)) xs) (own (name x)) in
      absurd (omega (arith, a, b))

  others_step : (k y : K) (x : X) (xs : List X) → eq k y ≡ false → count_by (is y) (others k xs) ≡ count_by (is y) xs → (b : Bool) → eq (name x) k ≡ b →
      count_by (is y) (cond (not b) (x ∷ others k xs) (others k xs)) ≡ count_by (is y) (x ∷ xs)
  others_step k y x xs apart rest true t =
      let at : eq (name x) y ≡ false = ap (λ i. eq i y) (same (name x) k t) ∙ apart in
      let all = counted_step (is y) x xs ∙ ap (λ b. cond b 1 0 + count_by (is y) xs) at in
      omega (arith, rest, all)
  others_step k y x xs apart rest false t =
      counted_step (is y) x (others k xs) ∙ ap (λ n. cond (eq (name x) y) 1 0 + n) rest ∙ sym (counted_step (is y) x xs)

  others_counted : (k y : K) (xs : List X) → eq k y ≡ false → count_by (is y) (others k xs) ≡ count_by (is y) xs
  others_counted k y [] apart = refl
  others_counted k y (x ∷ xs) apart = others_step k y x xs apart (others_counted k y xs apart) (eq (name x) k) refl

  gone_step : (k : K) (x : X) (xs : List X) → count_by (is k) (others k xs) ≡ 0 → (b : Bool) → eq (name x) k ≡ b → count_by (is k) (cond (not b) (x ∷ others k xs) (others k xs)) ≡ 0
  gone_step k x xs rest true t = rest
  gone_step k x xs rest false t =
      let all = counted_step (is k) x (others k xs) ∙ ap (λ b. cond b 1 0 + count_by (is k) (others k xs)) t in
      omega (arith, all, rest)

  gone_counted : (k : K) (xs : List X) → count_by (is k) (others k xs) ≡ 0
  gone_counted k [] = refl
  gone_counted k (x ∷ xs) = gone_step k x xs (gone_counted k xs) (eq (name x) k) refl

  abbrev parted : K → List X → ℕ
  parted k xs = count_by (λ x. T (name x)) (others k xs) + cond (T k) (count_by (is k) xs) 0

  here_step : (n o c : ℕ) (t : Bool) → n ≡ o + cond t c 0 → cond t 1 0 + n ≡ o + cond t (1 + c) 0
  here_step n o c true h = omega (arith, h)
  here_step n o c false h = omega (arith, h)

  nothing_more : (t : Bool) (c : ℕ) → cond t (cond false 1 0 + c) 0 ≡ cond t c 0
  nothing_more true c = omega arith
  nothing_more false c = refl

  parted_step : (k : K) (x : X) (xs : List X) → count_by (λ x. T (name x)) xs ≡ parted k xs → (b : Bool) → eq (name x) k ≡ b →
      count_by (λ x. T (name x)) (x ∷ xs) ≡ count_by (λ x. T (name x)) (cond (not b) (x ∷ others k xs) (others k xs)) + cond (T k) (cond b 1 0 + count_by (is k) xs) 0
  parted_step k x xs rest true t =
      counted_step (λ x. T (name x)) x xs ∙ ap (λ i. cond (T i) 1 0 + count_by (λ x. T (name x)) xs) (same (name x) k t)
      ∙ here_step (count_by (λ x. T (name x)) xs) (count_by (λ x. T (name x)) (others k xs)) (count_by (is k) xs) (T k) rest
  parted_step k x xs rest false t =
      let all = counted_step (λ x. T (name x)) x xs in
      let some = counted_step (λ x. T (name x)) x (others k xs) in
      let same_count = nothing_more (T k) (count_by (is k) xs) in
      omega (arith, all, some, rest, same_count)

  -- those of a key, and the others
  parted_counted : (k : K) (xs : List X) → count_by (λ x. T (name x)) xs ≡ parted k xs
  parted_counted k [] = nothing (T k)
    where
      nothing : (t : Bool) → 0 ≡ 0 + cond t 0 0
      nothing true = refl
      nothing false = refl
  parted_counted k (x ∷ xs) =
      parted_step k x xs (parted_counted k xs) (eq (name x) k) refl
      ∙ ap (λ n. count_by (λ x. T (name x)) (others k (x ∷ xs)) + cond (T k) n 0) (sym (counted_step (is k) x xs))

  none_at : (d : D) (y : K) (ds : List D) → eq (key d) y ≡ true → find (λ e. eq (key e) (key d)) ds ≡ None → tally_of eq key g ds y ≡ 0
  none_at d y ds t none = ap (λ k. option_map_or g (find (λ e. eq (key e) k) ds) 0) (sym (same (key d) y t)) ∙ ap (λ o. option_map_or g o 0) none

  tied_step : (d : D) (ds : List D) (xs : List X) → find (λ e. eq (key e) (key d)) ds ≡ None → AreTallied eq key g name (d ∷ ds) xs → (y : K) (b : Bool) → eq (key d) y ≡ b →
      tally_of eq key g ds y ≡ count_by (is y) (others (key d) xs)
  tied_step d ds xs none tie y true t =
      none_at d y ds t none ∙ sym (gone_counted (key d) xs) ∙ ap (λ z. count_by (is z) (others (key d) xs)) (same (key d) y t)
  tied_step d ds xs none tie y false t =
      ap (λ b. option_map_or g (cond b (Some d) (find (λ e. eq (key e) y) ds)) 0) (sym t) ∙ tie y ∙ sym (others_counted (key d) y xs t)

  pub sum_counted : (ds : List D) (xs : List X) → AreKeyed eq key same own ds → AreTallied eq key g name ds xs → kept_sum ds ≡ count_by (λ x. T (name x)) xs
  sum_counted [] xs apart tie = sym (none_counted xs tie)
  sum_counted (d ∷ ds) xs apart tie =
      let here : g d ≡ count_by (is (key d)) xs =
      tally_here eq key same own g name (d ∷ ds) xs (key d) d tie (ap (λ b. cond b (Some d) (find (λ e. eq (key e) (key d)) ds)) (own (key d))) in
      let rest = sum_counted ds (others (key d) xs) apart.1 (λ y. tied_step d ds xs apart.0 tie y (eq (key d) y) refl) in
      let all = parted_counted (key d) xs in
      last (T (key d)) (g d) (kept_sum ds) (count_by (is (key d)) xs) (count_by (λ x. T (name x)) (others (key d) xs)) (count_by (λ x. T (name x)) xs) here rest all
    where
      last : (t : Bool) (a b c o n : ℕ) → a ≡ c → b ≡ o → n ≡ o + cond t c 0 → cond t a 0 + b ≡ n
      last true a b c o n h k l = omega (arith, h, k, l)
      last false a b c o n h k l = omega (arith, h, k, l)
