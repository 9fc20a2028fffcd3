-- Where a transport has a process left, fewer deliveries are in flight than all transports have.
use Rattle.std.proofs.Common.{◌≡◌, ◌⊎◌, ◌+◌, ◌*◌, ◌<◌, ◌≤◌, ◌==◌, ◌++◌, ap, arith, Bool, cond, false, filter, inl, inr, length, List, [], ◌∷◌, refl, subst, suc, true, zero, ℕ}
use Rattle.std.proofs.lemmas.Bool.{cases_lt, cases_order, eq-eqb, eqb-true, le-ltb, lt-ltb, ne_eqb}
use Rattle.std.specs.List.{AllByRecursion}
use Rattle.std.specs.Prelude.{count_by, nat_lt}
use Rattle.q_core.proofs.CountLaws.{count_more, counted_step}
use Rattle.q_core.proofs.ServedLaws.{all_filtered, all_last}
use Rattle.q_core.specs.Rooms.{AreWithinProcesses, most_flights}
use Rattle.q_flights.specs.Flying.{Flying, is_at}
use Rattle.q_model.specs.Settings.{Settings}
use Rattle.q_model.specs.declared.rows.Delivery.{Delivery}

abbrev transport_of : Delivery → ℕ
transport_of f = f.row.site.transport

-- so many are at transports below this one
abbrev below : ℕ → List Delivery → ℕ
below n fs = count_by (λ f. nat_lt (transport_of f) n) fs

none_below : (fs : List Delivery) → below 0 fs ≡ 0
none_below [] = refl
none_below (f ∷ fs) =
    let step = counted_step (λ g. nat_lt (transport_of g) 0) f fs in
    let no : nat_lt (transport_of f) 0 ≡ false = le-ltb (transport_of f) 0 (omega arith) in
    let one : cond (nat_lt (transport_of f) 0) 1 0 ≡ 0 = ap {B = ℕ} (λ (b : Bool). cond b 1 0) no in
    omega (arith, step, one, none_below fs)

one_more : (x n : ℕ) → (x ≡ n) ⊎ ((x < n) ⊎ (n < x)) → cond (nat_lt x (suc n)) 1 0 ≡ cond (nat_lt x n) 1 0 + cond (x == n) 1 0
one_more x n (inl same) = rw (lt-ltb x (suc n) (omega (arith, same)), le-ltb x n (omega (arith, same)), eq-eqb x n same) refl
one_more x n (inr (inl less)) = rw (lt-ltb x (suc n) (omega (arith, less)), lt-ltb x n less, ne_eqb x n (λ e. omega (arith, less, e))) refl
one_more x n (inr (inr more)) = rw (le-ltb x (suc n) (omega (arith, more)), le-ltb x n (omega (arith, more)), ne_eqb x n (λ e. omega (arith, more, e))) refl

one_below : (n : ℕ) (fs : List Delivery) → below (suc n) fs ≡ below n fs + count_by (is_at n) fs
one_below n [] = refl
one_below n (f ∷ fs) =
    let more = counted_step (λ g. nat_lt (transport_of g) (suc n)) f fs in
    let less = counted_step (λ g. nat_lt (transport_of g) n) f fs in
    let same = counted_step (is_at n) f fs in
    let one = one_more (transport_of f) n (cases_order (transport_of f) n) in
    omega (arith, more, less, same, one, one_below n fs)

all_below : (n : ℕ) (fs : List Delivery) → AllByRecursion (λ f. transport_of f < n) fs → below n fs ≡ length fs
all_below n [] h = refl
all_below n (f ∷ fs) h =
    let step = counted_step (λ g. nat_lt (transport_of g) n) f fs in
    let one : cond (nat_lt (transport_of f) n) 1 0 ≡ 1 = ap {B = ℕ} (λ (b : Bool). cond b 1 0) (lt-ltb (transport_of f) n h.0) in
    omega (arith, step, one, all_below n fs h.1)

most_below : (n limit : ℕ) (fs : List Delivery) → ((t : ℕ) → count_by (is_at t) fs ≤ limit) → below n fs ≤ n * limit
most_below zero limit fs h = let none = none_below fs in omega (arith, none)
most_below (suc n) limit fs h =
    let one = one_below n fs in
    let at = h n in
    let rest = most_below n limit fs h in
    let more : suc n * limit ≡ n * limit + limit = omega arith in
    omega (arith, one, at, rest, more)

fewer_below : (n limit t : ℕ) (fs : List Delivery) → ((u : ℕ) → count_by (is_at u) fs ≤ limit) → t < n → count_by (is_at t) fs < limit → below n fs < n * limit
fewer_below zero limit t fs h less left = omega (arith, less)
fewer_below (suc n) limit t fs h less left = step (λ lower. fewer_below n limit t fs h lower left) (cases_lt t n)
  where
    step : (t < n → below n fs < n * limit) → (t < n) ⊎ (n ≤ t) → below (suc n) fs < suc n * limit
    step before (inl lower) =
        let rest = before lower in
        let one = one_below n fs in
        let at = h n in
        let more : suc n * limit ≡ n * limit + limit = omega arith in
        omega (arith, one, at, rest, more)
    step before (inr from) =
        let same : t ≡ n = omega (arith, from, less) in
        let here = subst (λ u. count_by (is_at u) fs < limit) same left in
        let rest = most_below n limit fs h in
        let one = one_below n fs in
        let more : suc n * limit ≡ n * limit + limit = omega arith in
        omega (arith, one, here, rest, more)

-- where a transport has a process left, there is room for a delivery more
pub has_flight_room : (p : Settings) (transports t : ℕ) (fs : Flying) → AreWithinProcesses p transports fs → t < transports → count_by (is_at t) fs.items < p.process_limit → length fs.items < fs.room
has_flight_room p transports t fs h known left =
    let all = all_below transports fs.items h.known in
    let fewer = fewer_below transports p.process_limit t fs.items h.within known left in
    omega (arith, all, fewer, h.room)

pub processes_few : (p : Settings) (transports : ℕ) (fs : Flying) → AreWithinProcesses p transports fs → length fs.items ≤ most_flights p transports
processes_few p transports fs h =
    let all = all_below transports fs.items h.known in
    let most = most_below transports p.process_limit fs.items h.within in
    omega (arith, all, most)

-- ---- it goes on to hold

pub processes_new : (p : Settings) (transports : ℕ) (fs : Flying) → fs.items ≡ [] → fs.room ≡ most_flights p transports → AreWithinProcesses p transports fs
processes_new p transports fs none room = record {
  known = rw none tt;
  within = λ t. rw none (omega arith);
  room = room;
}

within_begun : (t : ℕ) (f : Delivery) (fs : List Delivery) (limit : ℕ) → count_by (is_at t) fs ≤ limit → count_by (is_at (transport_of f)) fs < limit → (b : Bool) → (transport_of f == t) ≡ b → count_by (is_at t) fs + cond b 1 0 ≤ limit
within_begun t f fs limit all left true same =
    let left_here : count_by (is_at t) fs < limit = subst (λ u. count_by (is_at u) fs < limit) (eqb-true (transport_of f) t same) left in
    omega (arith, left_here)
within_begun t f fs limit all left false other = omega (arith, all)

-- a delivery begins where a process is left
pub processes_begun : (p : Settings) (transports : ℕ) (fs : Flying) (f : Delivery) → AreWithinProcesses p transports fs → transport_of f < transports → count_by (is_at (transport_of f)) fs.items < p.process_limit → AreWithinProcesses p transports (record fs { items = fs.items ++ f ∷ [] })
processes_begun p transports fs f h known left = record {
  known = all_last (λ g. transport_of g < transports) fs.items f h.known known;
  within = λ t.
      let more = count_more (is_at t) fs.items (f ∷ []) in
      let step = counted_step (is_at t) f [] in
      let one = within_begun t f fs.items p.process_limit (h.within t) left (transport_of f == t) refl in
      omega (arith, more, step, one);
  room = h.room;
}

fewer_step : (q r : Delivery → Bool) (f : Delivery) (fs : List Delivery) → count_by q (filter r fs) ≤ count_by q fs → (b : Bool) → count_by q (cond b (f ∷ filter r fs) (filter r fs)) ≤ count_by q (f ∷ fs)
fewer_step q r f fs h true = let a = counted_step q f (filter r fs) in let b = counted_step q f fs in omega (arith, a, b, h)
fewer_step q r f fs h false = let b = counted_step q f fs in omega (arith, b, h)

fewer_left : (q r : Delivery → Bool) (fs : List Delivery) → count_by q (filter r fs) ≤ count_by q fs
fewer_left q r [] = omega arith
fewer_left q r (f ∷ fs) = fewer_step q r f fs (fewer_left q r fs) (r f)

-- some end
pub processes_left : (p : Settings) (transports : ℕ) (fs : Flying) (q : Delivery → Bool) → AreWithinProcesses p transports fs → AreWithinProcesses p transports (record fs { items = filter q fs.items })
processes_left p transports fs q h = record {
  known = all_filtered (λ g. transport_of g < transports) q fs.items h.known;
  within = λ t. let fewer = fewer_left (is_at t) q fs.items in let all = h.within t in omega (arith, fewer, all);
  room = h.room;
}
