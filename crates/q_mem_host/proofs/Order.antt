-- The order of places, and files in it.
use Rattle.std.proofs.Common.{◌≡◌, ◌<◌, ℕ, zero, suc, true, false, nat_eq, List, [], ◌∷◌, ◌++◌, length, get_or, sym, ◌∙◌, ap, subst, arith}
use Rattle.std.specs.List.{AllByRecursion}
use Rattle.std.specs.List.Sorted.{IsStrictlySortedBy}
use Rattle.std.specs.Ordering.{is_eq, nat_cmp, ordering_reverse, ordering_then}
use Rattle.std.specs.Cmp.{both_tied, IsTotalOrder, nat_cmp_total, on_total, then_total, tied_itself, alike_right, unsigned_ties}
use Rattle.std.specs.declared.cmp.Ordering.TheVariants.{Equal, Greater, Less}
use Rattle.std.specs.Cmp.Lexicographic.{nat_list_cmp_total, pointwise, slice_cmp, texts_ties}
use Rattle.q_model.specs.declared.spot.Area.{Area}
use Rattle.q_model.proofs.EachLaws.{each-append, each-same}
use Rattle.q_host.specs.Files.{area_number, same_place}
use Rattle.q_host.proofs.Puts.{same_place-true}
use Rattle.q_mem_host.specs.Order.{InOrder, place_cmp, placed_cmp}
use Rattle.q_mem_host.specs.declared.placed_files.PlacedFile.{PlacedFile}

-- ---- places

abbrev pub Place : Type 0
Place = Area × List ℕ

pub places_total : IsTotalOrder (λ (p q : Place). place_cmp p.0 p.1 q.0 q.1)
places_total = then_total (on_total (λ (p : Place). area_number p.0) nat_cmp_total) (on_total (λ (p : Place). p.1) nat_list_cmp_total)

pub same_is : (a : Area) (n : List ℕ) (b : Area) (m : List ℕ) → same_place a n b m ≡ is_eq (place_cmp a n b m)
unfolding same_place
same_is a n b m = both_tied (nat_eq (area_number a) (area_number b)) (pointwise nat_eq n m) (nat_cmp (area_number a) (area_number b)) (slice_cmp nat_cmp n m) (unsigned_ties (area_number a) (area_number b)) (texts_ties n m)

-- names of one area
pub in_area : (a : Area) (n m : List ℕ) → place_cmp a n a m ≡ slice_cmp nat_cmp n m
in_area a n m = ap (λ o. ordering_then o (slice_cmp nat_cmp n m)) (tied_itself nat_cmp_total (area_number a))

module _ (a : Area) (n : List ℕ) (b : Area) (m : List ℕ) where
  pub before_differs : place_cmp a n b m ≡ Less → same_place a n b m ≡ false
  before_differs h = same_is a n b m ∙ ap is_eq h

  pub behind_differs : place_cmp a n b m ≡ Greater → same_place a n b m ≡ false
  behind_differs h = same_is a n b m ∙ ap is_eq h

  pub equal_same : place_cmp a n b m ≡ Equal → same_place a n b m ≡ true
  equal_same h = same_is a n b m ∙ ap is_eq h

  pub turned_round : place_cmp b m a n ≡ ordering_reverse (place_cmp a n b m)
  turned_round = places_total.antisymm (b, m) (a, n)

  pub behind_turned : place_cmp a n b m ≡ Greater → place_cmp b m a n ≡ Less
  behind_turned h = turned_round ∙ ap ordering_reverse h

  pub before_turned : place_cmp a n b m ≡ Less → place_cmp b m a n ≡ Greater
  before_turned h = turned_round ∙ ap ordering_reverse h

-- ---- two files

-- the first goes before the second
abbrev pub GoesBefore : PlacedFile → PlacedFile → Type 0
GoesBefore x y = placed_cmp y.area y.name x ≡ Less

module _ (x y : PlacedFile) (before : GoesBefore x y) (a : Area) (n : List ℕ) where
  -- before a place, at it and behind it
  pub before_along : placed_cmp a n y ≡ Less → placed_cmp a n x ≡ Less
  before_along h = places_total.trans (x.area, x.name) (y.area, y.name) (a, n) before h

  pub before_at : placed_cmp a n y ≡ Equal → placed_cmp a n x ≡ Less
  before_at h = sym (alike_right places_total (y.area, y.name) (a, n) (x.area, x.name) h) ∙ before

  pub behind_along : placed_cmp a n x ≡ Greater → placed_cmp a n y ≡ Greater
  behind_along h = before_turned a n y.area y.name (places_total.trans (a, n) (x.area, x.name) (y.area, y.name) (behind_turned x.area x.name a n h) before)

  pub behind_at : same_place x.area x.name a n ≡ true → placed_cmp a n y ≡ Greater
  behind_at here =
      let both = same_place-true x.area x.name a n here in
      let P : Area → List ℕ → Type 0 = λ b m. place_cmp y.area y.name b m ≡ Greater in
      let first : P x.area x.name = before_turned x.area x.name y.area y.name before in
      subst (λ m. P a m) both.1 (subst (λ b. P b x.name) both.0 first)

-- ---- files in order

abbrev pub AreBefore : PlacedFile → List PlacedFile → Type 0
AreBefore e xs = AllByRecursion (λ x. GoesBefore x e) xs

abbrev pub AreBehind : PlacedFile → List PlacedFile → Type 0
AreBehind e ys = AllByRecursion (λ y. GoesBefore e y) ys

each-left : {A : Type 0} (P : A → Type 0) (xs ys : List A) → AllByRecursion P (xs ++ ys) → AllByRecursion P xs
each-left P [] ys h = tt
each-left P (x ∷ xs) ys h = (h.0, each-left P xs ys h.1)

each-right : {A : Type 0} (P : A → Type 0) (xs ys : List A) → AllByRecursion P (xs ++ ys) → AllByRecursion P ys
each-right P [] ys h = h
each-right P (x ∷ xs) ys h = each-right P xs ys h.1

pub none_in_order : InOrder []
unfolding IsStrictlySortedBy
none_in_order = tt

-- a file between
pub joined : (xs : List PlacedFile) (e : PlacedFile) (ys : List PlacedFile) → InOrder (xs ++ ys) → AreBefore e xs → AreBehind e ys → InOrder (xs ++ e ∷ ys)
unfolding IsStrictlySortedBy
joined [] e ys r b c = (c, r)
joined (x ∷ xs) e ys r b c = (each-append (λ y. GoesBefore x y) xs (e ∷ ys) (each-left (λ y. GoesBefore x y) xs ys r.0) (b.0, each-right (λ y. GoesBefore x y) xs ys r.0), joined xs e ys r.1 b.1 c)

-- the others
pub without : (xs : List PlacedFile) (e : PlacedFile) (ys : List PlacedFile) → InOrder (xs ++ e ∷ ys) → InOrder (xs ++ ys)
unfolding IsStrictlySortedBy
without [] e ys r = r.1
without (x ∷ xs) e ys r =
    let behind = each-right (λ y. GoesBefore x y) xs (e ∷ ys) r.0 in
    (each-append (λ y. GoesBefore x y) xs ys (each-left (λ y. GoesBefore x y) xs (e ∷ ys) r.0) behind.1, without xs e ys r.1)

pub before_it : (xs : List PlacedFile) (e : PlacedFile) (ys : List PlacedFile) → InOrder (xs ++ e ∷ ys) → AreBefore e xs
unfolding IsStrictlySortedBy
before_it [] e ys r = tt
before_it (x ∷ xs) e ys r =
    let behind = each-right (λ y. GoesBefore x y) xs (e ∷ ys) r.0 in
    (behind.0, before_it xs e ys r.1)

pub behind_it : (xs : List PlacedFile) (e : PlacedFile) (ys : List PlacedFile) → InOrder (xs ++ e ∷ ys) → AreBehind e ys
unfolding IsStrictlySortedBy
behind_it [] e ys r = r.0
behind_it (x ∷ xs) e ys r = behind_it xs e ys r.1

-- another file of the same place
pub renewed : (xs : List PlacedFile) (e new : PlacedFile) (ys : List PlacedFile) → new.area ≡ e.area → new.name ≡ e.name → InOrder (xs ++ e ∷ ys) → InOrder (xs ++ new ∷ ys)
renewed xs e new ys area name r = joined xs new ys (without xs e ys r)
    (each-same (λ x. GoesBefore x e) (λ x. GoesBefore x new) xs (λ x h. ap (λ b. place_cmp x.area x.name b new.name) area ∙ ap (place_cmp x.area x.name e.area) name ∙ h) (before_it xs e ys r))
    (each-same (λ y. GoesBefore e y) (λ y. GoesBefore new y) ys (λ y h. ap (λ b. place_cmp b new.name y.area y.name) area ∙ ap (λ m. place_cmp e.area m y.area y.name) name ∙ h) (behind_it xs e ys r))

behind_place : (x : PlacedFile) (ys : List PlacedFile) (j : ℕ) (d : PlacedFile) → AreBehind x ys → j < length ys → GoesBefore x (get_or ys j d)
behind_place x [] j d b h = absurd (omega (arith, h))
behind_place x (y ∷ ys) zero d b h = b.0
behind_place x (y ∷ ys) (suc j) d b h = behind_place x ys j d b.1 (omega (arith, h))

-- by their places in the list
pub rises_at : (xs : List PlacedFile) (i j : ℕ) (d : PlacedFile) → InOrder xs → i < j → j < length xs → GoesBefore (get_or xs i d) (get_or xs j d)
unfolding IsStrictlySortedBy
rises_at [] i j d r h k = absurd (omega (arith, k))
rises_at (x ∷ xs) i zero d r h k = absurd (omega (arith, h))
rises_at (x ∷ xs) zero (suc j) d r h k = behind_place x xs j d r.0 (omega (arith, k))
rises_at (x ∷ xs) (suc i) (suc j) d r h k = rises_at xs i j d r.1 (omega (arith, h)) (omega (arith, k))
