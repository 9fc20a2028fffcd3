-- Files put in the order of areas and names.
use Rattle.std.proofs.Common.{◌≡◌, ◌≢◌, ◌⊎◌, ◌∷◌, [], Bool, true, false, cond, List, map, ⊎_elim, inl, inr, refl, sym, subst}
use Rattle.std.specs.Cmp.{IsTotalOrder}
use Rattle.std.specs.Cmp.Lexicographic.{nat_list_cmp_total}
use Rattle.std.specs.List.{AllByRecursion, Contains}
use Rattle.std.specs.List.Sorted.{IsStrictlySortedBy}
use Rattle.std.specs.Ordering.{is_lt, ordering_reverse}
use Rattle.std.specs.declared.cmp.Ordering.{Ordering}
use Rattle.std.specs.declared.cmp.Ordering.TheVariants.{Equal, Greater, Less}
use Rattle.std.proofs.lemmas.Cmp.{nat_cmp_total, on_total, then_total}
use Rattle.q_host.specs.Files.{area_number}
use Rattle.q_laws.proofs.Distinct.{distinct_cons, distinct_tail}
use Rattle.q_laws.proofs.Members.{IsIn}
use Rattle.q_model.proofs.EachLaws.{each-same}
use Rattle.q_model.specs.declared.id.Id.{Id}
use Rattle.q_model.specs.Ids.{are_distinct}
use Rattle.q_model.specs.SpoolFiles.{area_of}
use Rattle.q_restart.proofs.Lists.{has_cases, has_head, has_none, has_tail}
use Rattle.q_super.specs.declared.standing.Standing.{Standing}
use Rattle.q_super.specs.Standings.{comes_before, file_name, standing_cmp}
use Rattle.q_walk.specs.Orders.{in_order, put_in_order}

pub standings_total : IsTotalOrder standing_cmp
standings_total = then_total (on_total (λ (s : Standing). area_number (area_of s.place)) nat_cmp_total) (on_total file_name nat_list_cmp_total)

-- ---- members

pub has_in : {A : Type 0} (x : A) (xs : List A) → IsIn x xs → Contains xs x
has_in x [] h = absurd h
has_in x (y ∷ ys) (inl e) = subst (λ z. Contains (z ∷ ys) x) (sym e) (has_head x ys)
has_in x (y ∷ ys) (inr h) = has_tail y ys x (has_in x ys h)

pub in_has : {A : Type 0} (x : A) (xs : List A) → Contains xs x → IsIn x xs
in_has x [] h = absurd (has_none x h)
in_has x (y ∷ ys) h = ⊎_elim (λ e. inl e) (λ k. inr (in_has x ys k)) (has_cases y ys x h)

-- ---- the order as a test

is_less : (o : Ordering) → is_lt o ≡ true → o ≡ Less
is_less Less h = refl
is_less Equal h = absurd cc
is_less Greater h = absurd cc

-- one stands before the other, unless they tie
other_way : (o p : Ordering) → o ≡ ordering_reverse p → is_lt o ≡ false → o ≢ Equal → p ≡ Less
other_way Less p e h apart = absurd cc
other_way Equal p e h apart = absurd (apart refl)
other_way Greater Less e h apart = refl
other_way Greater Equal e h apart = absurd cc
other_way Greater Greater e h apart = absurd cc

-- no other file ties with this one
abbrev pub IsApart : Standing → List Standing → Type 0
IsApart x ys = AllByRecursion (λ y. standing_cmp y x ≢ Equal) ys

abbrev pub AreApart : List Standing → Type 0
AreApart [] = Unit {0}
AreApart (x ∷ xs) = IsApart x xs × AreApart xs

-- ---- putting in order

all_put : (P : Standing → Type 0) (x : Standing) (ys : List Standing) → P x → AllByRecursion P ys → AllByRecursion P (put_in_order comes_before x ys)
all_put P x [] h k = (h, tt)
all_put P x (y ∷ ys) h k = by (comes_before y x) (all_put P x ys h k.1)
  where
    by : (b : Bool) → AllByRecursion P (put_in_order comes_before x ys) → AllByRecursion P (cond b (y ∷ put_in_order comes_before x ys) (x ∷ y ∷ ys))
    by true more = (k.0, more)
    by false more = (h, k)

-- what each has, each has in order
pub all_in_order : (P : Standing → Type 0) (xs : List Standing) → AllByRecursion P xs → AllByRecursion P (in_order comes_before xs)
all_in_order P [] h = tt
all_in_order P (x ∷ xs) h = all_put P x (in_order comes_before xs) h.0 (all_in_order P xs h.1)

one_put_first : (x : Standing) (ys : List Standing) → IsIn x (put_in_order comes_before x ys)
one_put_first x [] = inl refl
one_put_first x (y ∷ ys) = by (comes_before y x) (one_put_first x ys)
  where
    by : (b : Bool) → IsIn x (put_in_order comes_before x ys) → IsIn x (cond b (y ∷ put_in_order comes_before x ys) (x ∷ y ∷ ys))
    by true more = inr more
    by false more = inl refl

one_put_rest : (z x : Standing) (ys : List Standing) → IsIn z ys → IsIn z (put_in_order comes_before x ys)
one_put_rest z x [] there = absurd there
one_put_rest z x (y ∷ ys) there = by (comes_before y x) there (λ behind. one_put_rest z x ys behind)
  where
    by : (b : Bool) → (y ≡ z) ⊎ IsIn z ys → (IsIn z ys → IsIn z (put_in_order comes_before x ys)) → IsIn z (cond b (y ∷ put_in_order comes_before x ys) (x ∷ y ∷ ys))
    by true (inl e) more = inl e
    by true (inr e) more = inr (more e)
    by false e more = inr e

-- none is lost
pub one_in_order : (z : Standing) (xs : List Standing) → IsIn z xs → IsIn z (in_order comes_before xs)
one_in_order z [] there = absurd there
one_in_order z (x ∷ xs) (inl e) = subst (λ (y : Standing). IsIn z (put_in_order comes_before y (in_order comes_before xs))) (sym e) (one_put_first z (in_order comes_before xs))
one_in_order z (x ∷ xs) (inr there) = one_put_rest z x (in_order comes_before xs) (one_in_order z xs there)

order_put : (x : Standing) (ys : List Standing) → IsStrictlySortedBy standing_cmp ys → IsApart x ys → IsStrictlySortedBy standing_cmp (put_in_order comes_before x ys)
unfolding IsStrictlySortedBy
order_put x [] h apart = (tt, tt)
order_put x (y ∷ ys) h apart = by (comes_before y x) refl (order_put x ys h.1 apart.1)
  where
    by : (b : Bool) → comes_before y x ≡ b → IsStrictlySortedBy standing_cmp (put_in_order comes_before x ys) → IsStrictlySortedBy standing_cmp (cond b (y ∷ put_in_order comes_before x ys) (x ∷ y ∷ ys))
    by true e more = (all_put (λ z. standing_cmp y z ≡ Less) x ys (is_less (standing_cmp y x) e) h.0, more)
    by false e more =
        let less = other_way (standing_cmp y x) (standing_cmp x y) (standings_total.antisymm y x) e apart.0 in
        ((less, each-same (λ z. standing_cmp y z ≡ Less) (λ z. standing_cmp x z ≡ Less) ys (λ z k. standings_total.trans x y z less k) h.0), h)

-- files that don't tie come in order
pub order_in_order : (xs : List Standing) → AreApart xs → IsStrictlySortedBy standing_cmp (in_order comes_before xs)
unfolding IsStrictlySortedBy
order_in_order [] h = tt
order_in_order (x ∷ xs) h = order_put x (in_order comes_before xs) (order_in_order xs h.1) (all_in_order (λ y. standing_cmp y x ≢ Equal) xs h.0)

-- ---- the ids of files in order

abbrev ids : List Standing → List Id
ids ss = map (λ (s : Standing). s.id) ss

ids_put : (i : Id) (x : Standing) (ys : List Standing) → IsIn i (ids (put_in_order comes_before x ys)) → (x.id ≡ i) ⊎ IsIn i (ids ys)
ids_put i x [] (inl e) = inl e
ids_put i x [] (inr h) = absurd h
ids_put i x (y ∷ ys) h = by (comes_before y x) (λ k. ids_put i x ys k) h
  where
    by : (b : Bool) → (IsIn i (ids (put_in_order comes_before x ys)) → (x.id ≡ i) ⊎ IsIn i (ids ys)) → IsIn i (ids (cond b (y ∷ put_in_order comes_before x ys) (x ∷ y ∷ ys))) → (x.id ≡ i) ⊎ IsIn i (ids (y ∷ ys))
    by true more (inl e) = inr (inl e)
    by true more (inr k) = ⊎_elim (λ e. inl e) (λ there. inr (inr there)) (more k)
    by false more (inl e) = inl e
    by false more (inr k) = inr k

distinct_put : (x : Standing) (ys : List Standing) → (IsIn x.id (ids ys) → ⊥) → are_distinct (ids ys) ≡ true → are_distinct (ids (put_in_order comes_before x ys)) ≡ true
distinct_put x [] none h = refl
distinct_put x (y ∷ ys) none h = by (comes_before y x) (distinct_put x ys (λ k. none (inr k)) (distinct_tail y.id (ids ys) h).1)
  where
    by : (b : Bool) → are_distinct (ids (put_in_order comes_before x ys)) ≡ true → are_distinct (ids (cond b (y ∷ put_in_order comes_before x ys) (x ∷ y ∷ ys))) ≡ true
    by true more = distinct_cons y.id (ids (put_in_order comes_before x ys)) (λ k. ⊎_elim (λ (e : x.id ≡ y.id). none (inl (sym e))) (λ there. (distinct_tail y.id (ids ys) h).0 there) (ids_put y.id x ys k)) more
    by false more = distinct_cons x.id (ids (y ∷ ys)) none h

ids_in_order : (i : Id) (xs : List Standing) → IsIn i (ids (in_order comes_before xs)) → IsIn i (ids xs)
ids_in_order i [] h = absurd h
ids_in_order i (x ∷ xs) h = ⊎_elim (λ e. inl e) (λ k. inr (ids_in_order i xs k)) (ids_put i x (in_order comes_before xs) h)

-- where no id was there twice, none is
pub distinct_in_order : (xs : List Standing) → are_distinct (ids xs) ≡ true → are_distinct (ids (in_order comes_before xs)) ≡ true
distinct_in_order [] h = refl
distinct_in_order (x ∷ xs) h =
    let tail = distinct_tail x.id (ids xs) h in
    distinct_put x (in_order comes_before xs) (λ k. tail.0 (ids_in_order x.id xs k)) (distinct_in_order xs tail.1)
