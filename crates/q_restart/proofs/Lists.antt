-- Elements of lists, and lists in order.
use Rattle.std.proofs.Common.{◌≡◌, ◌≢◌, ◌⊎◌, ◌<◌, ℕ, zero, suc, List, [], ◌∷◌, ◌++◌, length, Some, inl, inr, ⊎_elim, refl, sym, ap, subst, ◌∙◌, arith}
use Rattle.std.specs.Cmp.{IsTotalOrder}
use Rattle.std.specs.List.{AllByRecursion, Contains}
use Rattle.std.specs.List.Sorted.{IsStrictlySortedBy}
use Rattle.std.specs.Ordering.{ordering_reverse}
use Rattle.std.specs.Prelude.{slice_get, slice_index_or}
use Rattle.std.specs.declared.cmp.Ordering.{Ordering}
use Rattle.std.specs.declared.cmp.Ordering.TheVariants.{Equal, Greater, Less}
use Rattle.std.proofs.lemmas.List.Elements.{Contains-append_cases, Contains-append_right}

module _ {A : Type 0} where
  pub has_head : (x : A) (xs : List A) → Contains (x ∷ xs) x
  has_head x xs = (0, omega arith, refl)

  pub has_tail : (y : A) (xs : List A) (x : A) → Contains xs x → Contains (y ∷ xs) x
  has_tail y xs x h = (suc h.0, omega (arith, h.1), h.2)

  pub has_cases : (y : A) (xs : List A) (x : A) → Contains (y ∷ xs) x → (y ≡ x) ⊎ Contains xs x
  has_cases y xs x h = by h.0 h.1 h.2
    where
      by : (k : ℕ) → k < length (y ∷ xs) → slice_index_or (y ∷ xs) k x ≡ x → (y ≡ x) ⊎ Contains xs x
      by zero within e = inl e
      by (suc k) within e = inr (k, omega (arith, within), e)

  pub has_none : (x : A) → Contains [] x → ⊥
  has_none x h = absurd (omega (arith, h.1))

  -- what holds of each element
  pub each_has : (P : A → Type 0) (xs : List A) → ((x : A) → Contains xs x → P x) → AllByRecursion P xs
  each_has P [] h = tt
  each_has P (x ∷ xs) h = (h x (has_head x xs), each_has P xs (λ y k. h y (has_tail x xs y k)))

  pub has_each : (P : A → Type 0) (xs : List A) (x : A) → AllByRecursion P xs → Contains xs x → P x
  has_each P [] x h k = absurd (has_none x k)
  has_each P (y ∷ xs) x h k = ⊎_elim (λ (e : y ≡ x). subst P e h.0) (λ behind. has_each P xs x h.1 behind) (has_cases y xs x k)

  pub has_at : (xs : List A) (i : ℕ) (x : A) → slice_get xs i ≡ Some x → Contains xs x
  has_at [] i x e = absurd cc
  has_at (y ∷ xs) zero x e =
      let same : y ≡ x = cc in
      subst (Contains (y ∷ xs)) same (has_head y xs)
  has_at (y ∷ xs) (suc i) x e = has_tail y xs x (has_at xs i x e)

  pub item_at : (xs : List A) (i : ℕ) (x : A) → i < length xs → x ≡ slice_index_or xs i x → slice_get xs i ≡ Some x
  item_at [] i x h e = absurd (omega (arith, h))
  item_at (y ∷ ys) zero x h e = ap (λ (z : A). Some z) (sym e)
  item_at (y ∷ ys) (suc i) x h e = item_at ys i x (omega (arith, h)) e

-- ---- order

module _ {A : Type 0} (c : A → A → Ordering) (o : IsTotalOrder c) where
  pub not_itself : (x : A) → c x x ≢ Less
  not_itself x e = by (c x x) e (o.antisymm x x)
    where
      by : (r : Ordering) → r ≡ Less → r ≡ ordering_reverse r → ⊥
      by Less e h = cc
      by Equal e h = cc
      by Greater e h = cc

  pub sorted_append : (xs ys : List A) → IsStrictlySortedBy c xs → IsStrictlySortedBy c ys → ((x y : A) → Contains xs x → Contains ys y → c x y ≡ Less) → IsStrictlySortedBy c (xs ++ ys)
  unfolding IsStrictlySortedBy
  sorted_append [] ys hx hy cross = hy
  sorted_append (x ∷ xs) ys hx hy cross = (
    each_has (λ y. c x y ≡ Less) (xs ++ ys) (λ y k. ahead y k),
    sorted_append xs ys hx.1 hy (λ u v hu hv. cross u v (has_tail x xs u hu) hv),
  )
    where
      ahead : (y : A) → Contains (xs ++ ys) y → c x y ≡ Less
      ahead y k = ⊎_elim (λ first. has_each (λ z. c x z ≡ Less) xs y hx.0 first) (λ behind. cross x y (has_head x xs) behind) (Contains-append_cases xs ys y k)

  pub sorted_rest : (x : A) (xs : List A) → IsStrictlySortedBy c (x ∷ xs) → IsStrictlySortedBy c xs
  unfolding IsStrictlySortedBy
  sorted_rest x xs h = h.1

  pub sorted_first : (x : A) (xs : List A) (y : A) → IsStrictlySortedBy c (x ∷ xs) → Contains xs y → c x y ≡ Less
  unfolding IsStrictlySortedBy
  sorted_first x xs y h k = has_each (λ z. c x z ≡ Less) xs y h.0 k

  -- what stands in front is less
  pub sorted_cross : (xs ys : List A) (x y : A) → IsStrictlySortedBy c (xs ++ ys) → Contains xs x → Contains ys y → c x y ≡ Less
  sorted_cross [] ys x y h hx hy = absurd (has_none x hx)
  sorted_cross (z ∷ xs) ys x y h hx hy = ⊎_elim (λ (e : z ≡ x). subst (λ (w : A). c w y ≡ Less) e (sorted_first z (xs ++ ys) y h (Contains-append_right xs ys y hy)))
      (λ behind. sorted_cross xs ys x y (sorted_rest z (xs ++ ys) h) behind hy) (has_cases z xs x hx)

  -- lists in order that have the same elements are one
  pub sorted_same : (xs ys : List A) → IsStrictlySortedBy c xs → IsStrictlySortedBy c ys → ((z : A) → Contains xs z → Contains ys z) → ((z : A) → Contains ys z → Contains xs z) → xs ≡ ys
  sorted_same [] [] hx hy to back = refl
  sorted_same [] (y ∷ ys) hx hy to back = absurd (has_none y (back y (has_head y ys)))
  sorted_same (x ∷ xs) [] hx hy to back = absurd (has_none x (to x (has_head x xs)))
  sorted_same (x ∷ xs) (y ∷ ys) hx hy to back =
      ap (λ (z : A). z ∷ xs) heads
      ∙ ap (λ (zs : List A). y ∷ zs) (sorted_same xs ys (sorted_rest x xs hx) (sorted_rest y ys hy)
      (λ z k. ⊎_elim (λ (e : y ≡ z). absurd (not_itself x (sorted_first x xs x hx (subst (Contains xs) (sym (heads ∙ e)) k)))) (λ h. h) (has_cases y ys z (to z (has_tail x xs z k))))
      (λ z k. ⊎_elim (λ (e : x ≡ z). absurd (not_itself y (sorted_first y ys y hy (subst (Contains ys) (sym (sym heads ∙ e)) k)))) (λ h. h) (has_cases x xs z (back z (has_tail y ys z k)))))
    where
      heads : x ≡ y
      heads = ⊎_elim (λ (e : y ≡ x). sym e) (λ later. ⊎_elim (λ (e : x ≡ y). e)
          (λ sooner. absurd (not_itself x (o.trans x y x (sorted_first x xs y hx sooner) (sorted_first y ys x hy later))))
          (has_cases x xs y (back y (has_head y ys)))) (has_cases y ys x (to x (has_head x xs)))
