-- Deliveries whose numbers rise, as one comes and one goes.
use Rattle.std.proofs.Common.{◌≡◌, ◌∙◌, ◌+◌, ◌<◌, ◌≤◌, ◌++◌, ◌∷◌, [], ap, arith, Bool, cond, false, List, nat_lt, None, refl, Some, sym, true, ℕ}
use Rattle.std.proofs.lemmas.Bool.{eqb-true, le-ltb}
use Rattle.std.proofs.lemmas.Grind.{common_steps}
use Rattle.std.specs.List.{AllByRecursion}
use Rattle.std.specs.Option.{option_map_or}
use Rattle.std.specs.Prelude.{◌==◌, count_by, filter, find, not, slice_get}
use Rattle.q_flights.specs.Flying.{AreRising, has_number, IsAbove, is_other, started_earlier}
use Rattle.q_model.specs.Lists.{least}
use Rattle.q_model.specs.declared.rows.Delivery.{Delivery}

-- a number that none has

none_step : (n : ℕ) (f : Delivery) (fs : List Delivery) (t : Bool) → (f.number == n) ≡ t → n < f.number → find (has_number n) fs ≡ None → cond t (Some f) (find (has_number n) fs) ≡ None
none_step n f fs true e low rest = let same = eqb-true f.number n e in absurd (omega (arith, same, low))
none_step n f fs false e low rest = rest

pub none_below : (n : ℕ) (fs : List Delivery) → AllByRecursion (λ f. n < f.number) fs → find (has_number n) fs ≡ None
none_below n [] h = refl
none_below n (f ∷ fs) h = none_step n f fs (f.number == n) refl h.0 (none_below n fs h.1)

above_step : (n : ℕ) (f : Delivery) (fs : List Delivery) (t : Bool) → (f.number == n) ≡ t → f.number < n → find (has_number n) fs ≡ None → cond t (Some f) (find (has_number n) fs) ≡ None
above_step n f fs true e low rest = let same = eqb-true f.number n e in absurd (omega (arith, same, low))
above_step n f fs false e low rest = rest

pub none_above : (n : ℕ) (fs : List Delivery) → IsAbove n fs → find (has_number n) fs ≡ None
none_above n [] h = refl
none_above n (f ∷ fs) h = above_step n f fs (f.number == n) refl h.0 (none_above n fs h.1)

whole_step : (n : ℕ) (f : Delivery) (fs : List Delivery) → (find (has_number n) fs ≡ None → filter (is_other n) fs ≡ fs) → (t : Bool) →
    cond t (Some f) (find (has_number n) fs) ≡ None → cond (not t) (f ∷ filter (is_other n) fs) (filter (is_other n) fs) ≡ f ∷ fs
whole_step n f fs more true e = cc
whole_step n f fs more false e = ap (λ (gs : List Delivery). f ∷ gs) (more e)

-- nothing goes
pub whole : (n : ℕ) (fs : List Delivery) → find (has_number n) fs ≡ None → filter (is_other n) fs ≡ fs
whole n [] h = refl
whole n (f ∷ fs) h = whole_step n f fs (whole n fs) (f.number == n) h

-- one comes

all_last : (P : Delivery → Type 0) (fs : List Delivery) (f : Delivery) → AllByRecursion P fs → P f → AllByRecursion P (fs ++ f ∷ [])
all_last P [] f h p = (p, tt)
all_last P (g ∷ gs) f h p = (h.0, all_last P gs f h.1 p)

weaker : (n m : ℕ) (fs : List Delivery) → n ≤ m → IsAbove n fs → IsAbove m fs
weaker n m [] less h = tt
weaker n m (f ∷ fs) less h = (omega (arith, less, h.0), weaker n m fs less h.1)

pub above_more : (n : ℕ) (fs : List Delivery) (f : Delivery) → n < f.number → IsAbove (n + 1) fs → IsAbove (f.number + 1) (fs ++ f ∷ [])
above_more n fs f less h =
    all_last (λ x. x.number < f.number + 1) fs f (weaker (n + 1) (f.number + 1) fs (omega (arith, less)) h) (omega arith)

pub rising_more : (fs : List Delivery) (f : Delivery) → AreRising fs → IsAbove f.number fs → AreRising (fs ++ f ∷ [])
rising_more [] f h above = (tt, tt)
rising_more (g ∷ gs) f h above = (all_last (λ x. g.number < x.number) gs f h.0 above.0, rising_more gs f h.1 above.1)

-- some go

left_step : (P : Delivery → Type 0) (f : Delivery) (fs : List Delivery) (t : Bool) → P f → AllByRecursion P fs → AllByRecursion P (cond t (f ∷ fs) fs)
left_step P f fs true p h = (p, h)
left_step P f fs false p h = h

all_left : (P : Delivery → Type 0) (q : Delivery → Bool) (fs : List Delivery) → AllByRecursion P fs → AllByRecursion P (filter q fs)
all_left P q [] h = tt
all_left P q (f ∷ fs) h = left_step P f (filter q fs) (q f) h.0 (all_left P q fs h.1)

pub above_left : (n : ℕ) (q : Delivery → Bool) (fs : List Delivery) → IsAbove n fs → IsAbove n (filter q fs)
above_left n q fs h = all_left (λ f. f.number < n) q fs h

rising_step : (f : Delivery) (fs : List Delivery) (t : Bool) → AllByRecursion (λ g. f.number < g.number) fs → AreRising fs → AreRising (cond t (f ∷ fs) fs)
rising_step f fs true low h = (low, h)
rising_step f fs false low h = h

pub rising_left : (q : Delivery → Bool) (fs : List Delivery) → AreRising fs → AreRising (filter q fs)
rising_left q [] h = tt
rising_left q (f ∷ fs) h = rising_step f (filter q fs) (q f) (all_left (λ g. f.number < g.number) q fs h.0) (rising_left q fs h.1)

-- the delivery of a number is the only one that goes

first_counted : (p : Delivery → Bool) (x : Delivery) (xs : List Delivery) → count_by p (x ∷ xs) ≡ cond (p x) 1 0 + count_by p xs
first_counted p x xs = grind (arith, common_steps)

count_step : (p : Delivery → Bool) (n : ℕ) (f found : Delivery) (fs : List Delivery) → find (has_number f.number) fs ≡ None →
    (find (has_number n) fs ≡ Some found → count_by p fs ≡ count_by p (filter (is_other n) fs) + cond (p found) 1 0) → (t : Bool) → (f.number == n) ≡ t → cond t (Some f) (find (has_number n) fs) ≡ Some found →
    count_by p (f ∷ fs) ≡ count_by p (cond (not t) (f ∷ filter (is_other n) fs) (filter (is_other n) fs)) + cond (p found) 1 0
count_step p n f found fs none more true t e =
    let same : f ≡ found = cc in
    let number : f.number ≡ n = eqb-true f.number n t in
    let rest = whole n fs (ap (λ m. find (has_number m) fs) (sym number) ∙ none) in
    let a = first_counted p f fs in
    let b = ap (count_by p) rest in
    let c = ap {B = ℕ} (λ (x : Delivery). cond (p x) 1 0) same in
    omega (arith, a, b, c)
count_step p n f found fs none more false t e =
    let a = first_counted p f fs in
    let b = first_counted p f (filter (is_other n) fs) in
    let c = more e in
    omega (arith, a, b, c)

pub count_left : (p : Delivery → Bool) (n : ℕ) (fs : List Delivery) (found : Delivery) → AreRising fs → find (has_number n) fs ≡ Some found →
    count_by p fs ≡ count_by p (filter (is_other n) fs) + cond (p found) 1 0
count_left p n [] found h there = cc
count_left p n (f ∷ fs) found h there = count_step p n f found fs (none_below f.number fs h.0) (count_left p n fs found h.1) (f.number == n) refl there

-- the first has the least number

least_step : (f g : Delivery) → f.number < g.number → Some f ≡ Some (cond (nat_lt g.number f.number) g f)
least_step f g low = ap (λ b. Some (cond b g f)) (sym (le-ltb g.number f.number (omega (arith, low))))

pub first_least : (fs : List Delivery) → AreRising fs → slice_get fs 0 ≡ least started_earlier fs
first_least [] h = refl
first_least (f ∷ []) h = refl
first_least (f ∷ g ∷ gs) h = least_step f g h.0.0 ∙ ap (λ o. Some (option_map_or (λ (y : Delivery). cond (nat_lt y.number f.number) y f) o f)) (first_least (g ∷ gs) h.1)
