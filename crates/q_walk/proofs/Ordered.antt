-- Messages in the order of their files' names, and what a walk has left of them.
use Rattle.std.proofs.Common.{◌≡◌, ◌∙◌, ◌⊎◌, List, [], ◌∷◌, Bool, true, false, cond, filter, Option, Some, None, ap, sym, subst, refl, inl, inr, ℕ}
use Rattle.std.specs.List.{AllByRecursion}
use Rattle.std.specs.Ordering.{is_lt, nat_cmp}
use Rattle.std.specs.declared.cmp.Ordering.{Ordering}
use Rattle.std.specs.declared.cmp.Ordering.TheVariants.{Equal, Greater, Less}
use Rattle.std.specs.Cmp.Lexicographic.{slice_cmp}
use Rattle.std.proofs.lemmas.Cmp.{nat_list_cmp_total}
use Rattle.q_model.proofs.EachLaws.{each-same}
use Rattle.q_model.specs.Message.{Message}
use Rattle.q_model.specs.SpoolFiles.{name_at}
use Rattle.q_host.proofs.NamesInOrder.{either_order, not_both, not_itself}
use Rattle.q_walk.specs.Listed.{comes_before}
use Rattle.q_walk.specs.Orders.{in_order, put_in_order}
use Rattle.q_walk.specs.Walks.{is_behind, left}

-- the name of a message's file
abbrev pub file_name : Message → List ℕ
file_name m = name_at m.place m.id

-- ---- the order of names as a test

pub is_less : (o : Ordering) → is_lt o ≡ true → o ≡ Less
is_less Less h = refl
is_less Equal h = absurd cc
is_less Greater h = absurd cc

pub not_less : (o : Ordering) → (o ≡ Less → ⊥) → is_lt o ≡ false
not_less Less h = absurd (h refl)
not_less Equal h = refl
not_less Greater h = refl

pub true_not_false : (b : Bool) → b ≡ true → b ≡ false → ⊥
true_not_false b h k = cc

pub before_less : (x y : Message) → comes_before x y ≡ true → slice_cmp nat_cmp (file_name x) (file_name y) ≡ Less
before_less x y h = is_less (slice_cmp nat_cmp (file_name x) (file_name y)) h

less_before : (x y : Message) → slice_cmp nat_cmp (file_name x) (file_name y) ≡ Less → comes_before x y ≡ true
less_before x y h = ap is_lt h

-- no other message has the name
abbrev pub IsApart : Message → List Message → Type 0
IsApart x ys = AllByRecursion (λ y. file_name y ≡ file_name x → ⊥) ys

-- all names differ
abbrev pub AreApart : List Message → Type 0
AreApart [] = Unit {0}
AreApart (x ∷ xs) = IsApart x xs × AreApart xs

-- each message stands before all behind it
abbrev pub AreInOrder : List Message → Type 0
AreInOrder [] = Unit {0}
AreInOrder (x ∷ xs) = AllByRecursion (λ y. comes_before x y ≡ true) xs × AreInOrder xs

-- the message is one of these
abbrev pub IsOneOf : Message → List Message → Type 0
IsOneOf x [] = ⊥
IsOneOf x (y ∷ ys) = (x ≡ y) ⊎ IsOneOf x ys

pub all_at : (P : Message → Type 0) (xs : List Message) (x : Message) → AllByRecursion P xs → IsOneOf x xs → P x
all_at P [] x h e = absurd e
all_at P (y ∷ ys) x h (inl e) = subst P (sym e) h.0
all_at P (y ∷ ys) x h (inr e) = all_at P ys x h.1 e

-- ---- putting in order

all_put : (P : Message → Type 0) (x : Message) (ys : List Message) → P x → AllByRecursion P ys → AllByRecursion P (put_in_order comes_before x ys)
all_put P x [] h k = (h, tt)
all_put P x (y ∷ ys) h k = by (comes_before y x) (all_put P x ys h k.1)
  where
    by : (b : Bool) → AllByRecursion P (put_in_order comes_before x ys) → AllByRecursion P (cond b (y ∷ put_in_order comes_before x ys) (x ∷ y ∷ ys))
    by true more = (k.0, more)
    by false more = (h, k)

-- what each has, each has in order
pub all_in_order : (P : Message → Type 0) (xs : List Message) → AllByRecursion P xs → AllByRecursion P (in_order comes_before xs)
all_in_order P [] h = tt
all_in_order P (x ∷ xs) h = all_put P x (in_order comes_before xs) h.0 (all_in_order P xs h.1)

one_put_first : (x : Message) (ys : List Message) → IsOneOf x (put_in_order comes_before x ys)
one_put_first x [] = inl refl
one_put_first x (y ∷ ys) = by (comes_before y x) (one_put_first x ys)
  where
    by : (b : Bool) → IsOneOf x (put_in_order comes_before x ys) → IsOneOf x (cond b (y ∷ put_in_order comes_before x ys) (x ∷ y ∷ ys))
    by true more = inr more
    by false more = inl refl

one_put_rest : (z x : Message) (ys : List Message) → IsOneOf z ys → IsOneOf z (put_in_order comes_before x ys)
one_put_rest z x [] there = absurd there
one_put_rest z x (y ∷ ys) there = by (comes_before y x) there (λ behind. one_put_rest z x ys behind)
  where
    by : (b : Bool) → (z ≡ y) ⊎ IsOneOf z ys → (IsOneOf z ys → IsOneOf z (put_in_order comes_before x ys)) → IsOneOf z (cond b (y ∷ put_in_order comes_before x ys) (x ∷ y ∷ ys))
    by true (inl e) more = inl e
    by true (inr e) more = inr (more e)
    by false e more = inr e

-- none is lost
pub one_in_order : (z : Message) (xs : List Message) → IsOneOf z xs → IsOneOf z (in_order comes_before xs)
one_in_order z [] there = absurd there
one_in_order z (x ∷ xs) (inl e) = subst (λ (y : Message). IsOneOf z (put_in_order comes_before y (in_order comes_before xs))) e (one_put_first z (in_order comes_before xs))
one_in_order z (x ∷ xs) (inr there) = one_put_rest z x (in_order comes_before xs) (one_in_order z xs there)

other_way : (x y : Message) → comes_before y x ≡ false → (file_name y ≡ file_name x → ⊥) → comes_before x y ≡ true
other_way x y h apart = by (either_order (file_name x) (file_name y))
  where
    by : (slice_cmp nat_cmp (file_name x) (file_name y) ≡ Less) ⊎ ((file_name x ≡ file_name y) ⊎ (slice_cmp nat_cmp (file_name y) (file_name x) ≡ Less)) → comes_before x y ≡ true
    by (inl less) = less_before x y less
    by (inr (inl same)) = absurd (apart (sym same))
    by (inr (inr more)) = absurd (true_not_false (comes_before y x) (less_before y x more) h)

before_on : (x y z : Message) → comes_before x y ≡ true → comes_before y z ≡ true → comes_before x z ≡ true
before_on x y z h k = less_before x z (nat_list_cmp_total.trans (file_name x) (file_name y) (file_name z) (before_less x y h) (before_less y z k))

order_put : (x : Message) (ys : List Message) → AreInOrder ys → IsApart x ys → AreInOrder (put_in_order comes_before x ys)
order_put x [] h apart = (tt, tt)
order_put x (y ∷ ys) h apart = by (comes_before y x) refl (order_put x ys h.1 apart.1)
  where
    by : (b : Bool) → comes_before y x ≡ b → AreInOrder (put_in_order comes_before x ys) → AreInOrder (cond b (y ∷ put_in_order comes_before x ys) (x ∷ y ∷ ys))
    by true e more = (all_put (λ z. comes_before y z ≡ true) x ys e h.0, more)
    by false e more =
        let less = other_way x y e apart.0 in
        ((less, each-same (λ z. comes_before y z ≡ true) (λ z. comes_before x z ≡ true) ys (λ z k. before_on x y z less k) h.0), h)

-- messages of different names come in order
pub order_in_order : (xs : List Message) → AreApart xs → AreInOrder (in_order comes_before xs)
order_in_order [] h = tt
order_in_order (x ∷ xs) h = order_put x (in_order comes_before xs) (order_in_order xs h.1) (all_in_order (λ y. file_name y ≡ file_name x → ⊥) xs h.0)

-- ---- what is left

filter_all : (p : Message → Bool) (xs : List Message) → AllByRecursion (λ x. p x ≡ true) xs → filter p xs ≡ xs
filter_all p [] h = refl
filter_all p (x ∷ xs) h = ap (λ b. cond b (x ∷ filter p xs) (filter p xs)) h.0 ∙ ap (λ ys. x ∷ ys) (filter_all p xs h.1)

filter_none : (p : Message → Bool) (xs : List Message) → AllByRecursion (λ x. p x ≡ false) xs → filter p xs ≡ []
filter_none p [] h = refl
filter_none p (x ∷ xs) h = ap (λ b. cond b (x ∷ filter p xs) (filter p xs)) h.0 ∙ filter_none p xs h.1

filter_like : (p q : Message → Bool) (xs : List Message) → AllByRecursion (λ x. p x ≡ q x) xs → filter p xs ≡ filter q xs
filter_like p q [] h = refl
filter_like p q (x ∷ xs) h = ap (λ b. cond b (x ∷ filter p xs) (filter p xs)) h.0 ∙ ap (λ ys. cond (q x) (x ∷ ys) ys) (filter_like p q xs h.1)

-- of a walk that begins all is left
pub left_all : (xs : List Message) → left None xs ≡ xs
left_all xs = filter_all (is_behind None) xs (all xs)
  where
    all : (ys : List Message) → AllByRecursion (λ y. is_behind None y ≡ true) ys
    all [] = tt
    all (y ∷ ys) = (refl, all ys)

-- nothing is left where no message is behind
pub left_none : (p : Option (List ℕ)) (xs : List Message) → AllByRecursion (λ y. is_behind p y ≡ false) xs → left p xs ≡ []
left_none p xs h = filter_none (is_behind p) xs h

-- a name that no message has, and none behind the place stands before it, is passed
pub left_skip : (p : Option (List ℕ)) (name : List ℕ) (xs : List Message) → AllByRecursion (λ y. is_behind p y ≡ is_behind (Some name) y) xs → left p xs ≡ left (Some name) xs
left_skip p name xs h = filter_like (is_behind p) (is_behind (Some name)) xs h

behind_on : (p : Option (List ℕ)) (x y : Message) → is_behind p x ≡ true → comes_before x y ≡ true → is_behind p y ≡ true
behind_on None x y h k = refl
behind_on (Some name) x y h k = ap is_lt (nat_list_cmp_total.trans name (file_name x) (file_name y) (is_less (slice_cmp nat_cmp name (file_name x)) h) (before_less x y k))

not_before_itself : (x : Message) → comes_before x x ≡ false
not_before_itself x = not_less (slice_cmp nat_cmp (file_name x) (file_name x)) (not_itself (file_name x))

not_back : (x y : Message) → comes_before x y ≡ true → comes_before y x ≡ false
not_back x y h = not_less (slice_cmp nat_cmp (file_name y) (file_name x)) (not_both (file_name x) (file_name y) (before_less x y h))

first_left : (p : Option (List ℕ)) (y : Message) (ys : List Message) → AreInOrder (y ∷ ys) → is_behind p y ≡ true → left p (y ∷ ys) ≡ y ∷ left (Some (file_name y)) (y ∷ ys)
first_left p y ys h past =
    ap (λ b. cond b (y ∷ left p ys) (left p ys)) past
    ∙ ap (λ zs. y ∷ zs) (filter_all (is_behind p) ys (each-same (λ z. comes_before y z ≡ true) (λ z. is_behind p z ≡ true) ys (λ z k. behind_on p y z past k) h.0)
    ∙ sym (filter_all (comes_before y) ys h.0) ∙ sym (ap (λ b. cond b (y ∷ left (Some (file_name y)) ys) (left (Some (file_name y)) ys)) (not_before_itself y)))

-- the first message behind the place comes next
pub left_step : (p : Option (List ℕ)) (xs : List Message) (x : Message) → AreInOrder xs → IsOneOf x xs → is_behind p x ≡ true
    → AllByRecursion (λ y. comes_before y x ≡ true → is_behind p y ≡ false) xs → left p xs ≡ x ∷ left (Some (file_name x)) xs
left_step p [] x h there past first = absurd there
left_step p (y ∷ ys) x h (inl e) past first = subst (λ (z : Message). left p (y ∷ ys) ≡ z ∷ left (Some (file_name z)) (y ∷ ys)) (sym e) (first_left p y ys h (subst (λ (z : Message). is_behind p z ≡ true) e past))
left_step p (y ∷ ys) x h (inr there) past first =
    let less = all_at (λ z. comes_before y z ≡ true) ys x h.0 there in
    ap (λ b. cond b (y ∷ left p ys) (left p ys)) (first.0 less) ∙ left_step p ys x h.1 there past first.1
    ∙ ap (λ zs. x ∷ zs) (sym (ap (λ b. cond b (y ∷ left (Some (file_name x)) ys) (left (Some (file_name x)) ys)) (not_back y x less)))
