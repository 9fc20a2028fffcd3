-- Places at which a test passes, found one after another.
use Rattle.std.proofs.Common.{◌≡◌, ℕ, zero, suc, ◌+◌, ◌-◌, ◌<◌, ◌≤◌, Bool, true, false, List, [], ◌∷◌, ◌++◌, length, drop, refl, sym, ap, ◌∙◌, Option, Some, None, arith, add-one, not, max, inl, inr}
use Rattle.std.proofs.lemmas.Bool.{le-leb, ne_eqb}
use Rattle.std.proofs.lemmas.Bool.Decides.{leb_tells}
use Rattle.std.proofs.lemmas.List.{drop_all}
use Rattle.std.specs.Option.{option_map_or}
use Rattle.std.specs.Prelude.{◌&&◌, ◌==◌, filter, if◌then◌else◌, is_none, is_some, nat_le, nat_lt, slice_get}
use Rattle.q_model.specs.Lists.{has_none, places_from}

-- the element at this place passes
abbrev pub passes_at : {A : Type 0} → (ℕ → A → Bool) → ℕ → Option A → Bool
passes_at test i o = option_map_or (test i) o false

places_step : {A : Type 0} (test : ℕ → A → Bool) (k i : ℕ) (xs : List A) →
    places_from k test (drop i xs) ≡ (if passes_at test k (slice_get xs i) then k ∷ places_from (k + 1) test (drop (suc i) xs) else places_from (k + 1) test (drop (suc i) xs))
places_step test k zero [] = refl
places_step test k (suc i) [] = refl
places_step test k zero (x ∷ xs) = refl
places_step test k (suc i) (x ∷ xs) = places_step test k i xs

-- where a place doesn't pass, the first one stands behind it
pub none_here : {A : Type 0} (test : ℕ → A → Bool) (i : ℕ) (xs : List A) → passes_at test i (slice_get xs i) ≡ false →
    places_from i test (drop i xs) ≡ places_from (i + 1) test (drop (i + 1) xs)
none_here test i xs h =
    let next = places_from (i + 1) test (drop (suc i) xs) in
    places_step test i i xs ∙ ap (λ b. if b then i ∷ next else next) h
    ∙ ap (λ n. places_from (i + 1) test (drop n xs)) (sym (add-one i))

-- a place that passes is the first
pub one_here : {A : Type 0} (test : ℕ → A → Bool) (i : ℕ) (xs : List A) → passes_at test i (slice_get xs i) ≡ true →
    places_from i test (drop i xs) ≡ i ∷ places_from (i + 1) test (drop (i + 1) xs)
one_here test i xs h =
    let next = places_from (i + 1) test (drop (suc i) xs) in
    places_step test i i xs ∙ ap (λ b. if b then i ∷ next else next) h
    ∙ ap (λ n. i ∷ places_from (i + 1) test (drop n xs)) (sym (add-one i))

-- behind the end there is none
pub none_left : {A : Type 0} (test : ℕ → A → Bool) (i : ℕ) (xs : List A) → length xs ≤ i → places_from i test (drop i xs) ≡ []
none_left test i xs h = ap (places_from i test) (drop_all i xs h)

-- ---- none, by the first and by the count

pub none_first : (ns : List ℕ) → is_some (slice_get ns 0) ≡ not (has_none ns)
none_first [] = refl
none_first (n ∷ ns) = refl

pub no_first : (ns : List ℕ) → is_none (slice_get ns 0) ≡ has_none ns
no_first [] = refl
no_first (n ∷ ns) = refl

abbrev pub nowhere : List ℕ
nowhere = []

pub nothing_at : (n : ℕ) → slice_get nowhere n ≡ None
nothing_at zero = refl
nothing_at (suc n) = refl

pub none_counted : (ns : List ℕ) → (length ns == 0) ≡ has_none ns
none_counted [] = refl
none_counted (n ∷ ns) = ne_eqb (suc (length ns)) 0 (λ e. omega (arith, e))

-- ---- places from one on

kept_step : (from k : ℕ) (b : Bool) (ns : List ℕ) → nat_le from k ≡ true → filter (λ p. nat_le from p) ns ≡ ns →
    filter (λ p. nat_le from p) (if b then k ∷ ns else ns) ≡ (if b then k ∷ ns else ns)
kept_step from k true ns h rest = ap (λ c. if c then k ∷ filter (λ p. nat_le from p) ns else filter (λ p. nat_le from p) ns) h ∙ ap (λ ms. k ∷ ms) rest
kept_step from k false ns h rest = rest

all_behind : {A : Type 0} (test : ℕ → A → Bool) (from k : ℕ) (xs : List A) → from ≤ k → filter (λ p. nat_le from p) (places_from k test xs) ≡ places_from k test xs
all_behind test from k [] h = refl
all_behind test from k (x ∷ xs) h =
    kept_step from k (test k x) (places_from (k + 1) test xs) (le-leb from k h) (all_behind test from (k + 1) xs (omega (arith, h)))

passed_step : (from k : ℕ) (b : Bool) (ns : List ℕ) → nat_le from k ≡ false → filter (λ p. nat_le from p) (if b then k ∷ ns else ns) ≡ filter (λ p. nat_le from p) ns
passed_step from k true ns h = ap (λ c. if c then k ∷ filter (λ p. nat_le from p) ns else filter (λ p. nat_le from p) ns) h
passed_step from k false ns h = refl

later : (from k : ℕ) → k < from → nat_le from k ≡ false
later from k h = grind (arith, leb_tells, h)

behind_by : {A : Type 0} (test : ℕ → A → Bool) (from k j : ℕ) (xs : List A) → k + j ≡ from →
    filter (λ p. nat_le from p) (places_from k test xs) ≡ places_from from test (drop j xs)
behind_by test from k zero [] h = refl
behind_by test from k (suc j) [] h = refl
behind_by test from k zero (x ∷ xs) h =
    let same : k ≡ from = omega (arith, h) in
    all_behind test from k (x ∷ xs) (omega (arith, same)) ∙ ap (λ n. places_from n test (x ∷ xs)) same
behind_by test from k (suc j) (x ∷ xs) h =
    passed_step from k (test k x) (places_from (k + 1) test xs) (later from k (omega (arith, h)))
    ∙ behind_by test from (k + 1) j xs (omega (arith, h))

-- the places from one on are those of the elements from there on
pub places_behind : {A : Type 0} (test : ℕ → A → Bool) (from : ℕ) (xs : List A) →
    filter (λ p. nat_le from p) (places_from 0 test xs) ≡ places_from from test (drop from xs)
places_behind test from xs = behind_by test from 0 from xs (omega arith)

-- ---- the last of so many places

-- where so many are left, one less after a place that passes
abbrev pub less_by : Bool → ℕ → ℕ
less_by b left = left - (if b then 1 else 0)

last_by : {A : Type 0} (test : ℕ → A → Bool) (i left : ℕ) (xs : List A) (b : Bool) → passes_at test i (slice_get xs i) ≡ b → 1 ≤ left → less_by b left ≡ 0 →
    slice_get (places_from i test (drop i xs)) (left - 1) ≡ Some i
last_by test i left xs true e some h =
    let none : left - 1 ≡ 0 = omega (arith, h) in
    ap (slice_get (places_from i test (drop i xs))) none ∙ ap (λ ps. slice_get ps 0) (one_here test i xs e)
last_by test i left xs false e some h = absurd (omega (arith, some, h))

pub last_here : {A : Type 0} (test : ℕ → A → Bool) (i left : ℕ) (xs : List A) → 1 ≤ left → less_by (passes_at test i (slice_get xs i)) left ≡ 0 →
    slice_get (places_from i test (drop i xs)) (left - 1) ≡ Some i
last_here test i left xs some h = last_by test i left xs (passes_at test i (slice_get xs i)) refl some h

more_by : {A : Type 0} (test : ℕ → A → Bool) (i left : ℕ) (xs : List A) (b : Bool) → passes_at test i (slice_get xs i) ≡ b → 1 ≤ less_by b left →
    slice_get (places_from i test (drop i xs)) (left - 1) ≡ slice_get (places_from (i + 1) test (drop (i + 1) xs)) (less_by b left - 1)
more_by test i left xs true e h =
    let less : left - 1 ≡ suc (left - 1 - 1) = omega (arith, h) in
    ap (slice_get (places_from i test (drop i xs))) less ∙ ap (λ ps. slice_get ps (suc (left - 1 - 1))) (one_here test i xs e)
more_by test i left xs false e h =
    let same : left - 1 ≡ left - 0 - 1 = omega arith in
    ap (λ ps. slice_get ps (left - 1)) (none_here test i xs e)
    ∙ ap (slice_get (places_from (i + 1) test (drop (i + 1) xs))) same

pub more_left : {A : Type 0} (test : ℕ → A → Bool) (i left : ℕ) (xs : List A) → 1 ≤ less_by (passes_at test i (slice_get xs i)) left →
    slice_get (places_from i test (drop i xs)) (left - 1) ≡ slice_get (places_from (i + 1) test (drop (i + 1) xs)) (less_by (passes_at test i (slice_get xs i)) left - 1)
more_left test i left xs h = more_by test i left xs (passes_at test i (slice_get xs i)) refl h

-- ---- places between two

filter_step : (q : ℕ → Bool) (k : ℕ) (a c : Bool) (ns ms : List ℕ) → q k ≡ c → filter q ns ≡ ms → filter q (if a then k ∷ ns else ns) ≡ (if a && c then k ∷ ms else ms)
filter_step q k true c ns ms e h = ap (λ b. if b then k ∷ filter q ns else filter q ns) e ∙ ap (λ zs. if c then k ∷ zs else zs) h
filter_step q k false c ns ms e h = h

pub filter_places : {A : Type 0} (test : ℕ → A → Bool) (q : ℕ → Bool) (k : ℕ) (xs : List A) → filter q (places_from k test xs) ≡ places_from k (λ i x. test i x && q i) xs
filter_places test q k [] = refl
filter_places test q k (x ∷ xs) = filter_step q k (test k x) (q k) (places_from (k + 1) test xs) (places_from (k + 1) (λ i x. test i x && q i) xs) refl (filter_places test q (k + 1) xs)

no_place_step : (k : ℕ) (b : Bool) (ns : List ℕ) → b ≡ false → ns ≡ [] → (if b then k ∷ ns else ns) ≡ []
no_place_step k true ns e h = cc
no_place_step k false ns e h = h

-- where no element passes there is no place
pub no_places : {A : Type 0} (test : ℕ → A → Bool) (k : ℕ) (xs : List A) → ((i : ℕ) (x : A) → k ≤ i → test i x ≡ false) → places_from k test xs ≡ []
no_places test k [] h = refl
no_places test k (x ∷ xs) h = no_place_step k (test k x) (places_from (k + 1) test xs) (h k x (omega arith)) (no_places test (k + 1) xs (λ i y late. h i y (omega (arith, late))))

and_false : (a b : Bool) → b ≡ false → (a && b) ≡ false
and_false true b h = h
and_false false b h = refl

not_early : (k i : ℕ) → i ≤ k → nat_lt k i ≡ false
not_early k i h = grind (arith, leb_tells, h)

early : (k i : ℕ) → k < i → nat_lt k i ≡ true
early k i h = grind (arith, leb_tells, h)

-- the tests of places below a bound
abbrev below : {A : Type 0} → (ℕ → A → Bool) → ℕ → ℕ → A → Bool
below test to i x = test i x && nat_lt i to

none_below : {A : Type 0} (test : ℕ → A → Bool) (to k : ℕ) (xs : List A) → to ≤ k → places_from k (below test to) xs ≡ []
none_below test to k xs h = no_places (below test to) k xs (λ i x late. and_false (test i x) (nat_lt i to) (not_early i to (omega (arith, h, late))))

same_head : (k : ℕ) (a b c : Bool) (ns ms rest : List ℕ) → b ≡ true → c ≡ true → ns ≡ (ms ++ rest) → (if a && b then k ∷ ns else ns) ≡ ((if a && c then k ∷ ms else ms) ++ rest)
same_head k true b c ns ms rest eb ec h = ap (λ z. if z then k ∷ ns else ns) eb ∙ ap (λ zs. k ∷ zs) h ∙ sym (ap (λ z. (if z then k ∷ ms else ms) ++ rest) ec)
same_head k false b c ns ms rest eb ec h = h

last_head : (k : ℕ) (a b c : Bool) (ns ms : List ℕ) → b ≡ true → c ≡ false → ns ≡ [] → ms ≡ [] → (if a && b then k ∷ ns else ns) ≡ ((if a && c then k ∷ ms else ms) ++ (if a then k ∷ [] else []))
last_head k true b c ns ms eb ec hn hm = ap (λ z. if z then k ∷ ns else ns) eb ∙ ap (λ zs. k ∷ zs) hn ∙ sym (ap (λ z. (if z then k ∷ ms else ms) ++ k ∷ []) ec ∙ ap (λ zs. zs ++ k ∷ []) hm)
last_head k false b c ns ms eb ec hn hm = hn ∙ sym (ap (λ zs. zs ++ []) hm)

-- one place more
more_below : {A : Type 0} (test : ℕ → A → Bool) (i k j : ℕ) (xs : List A) → k + j ≡ i →
    places_from k (below test (i + 1)) xs ≡ (places_from k (below test i) xs ++ (if passes_at test i (slice_get xs j) then i ∷ [] else []))
more_below test i k zero [] h = refl
more_below test i k (suc j) [] h = refl
more_below test i k zero (x ∷ xs) h =
    let same : k ≡ i = omega (arith, h) in
    last_head k (test k x) (nat_lt k (i + 1)) (nat_lt k i) (places_from (k + 1) (below test (i + 1)) xs) (places_from (k + 1) (below test i) xs)
    (early k (i + 1) (omega (arith, same))) (not_early k i (omega (arith, same)))
    (none_below test (i + 1) (k + 1) xs (omega (arith, same))) (none_below test i (k + 1) xs (omega (arith, same)))
    ∙ ap (λ n. places_from k (below test i) (x ∷ xs) ++ (if test n x then n ∷ [] else [])) same
more_below test i k (suc j) (x ∷ xs) h =
    same_head k (test k x) (nat_lt k (i + 1)) (nat_lt k i) (places_from (k + 1) (below test (i + 1)) xs) (places_from (k + 1) (below test i) xs)
    (if passes_at test i (slice_get xs j) then i ∷ [] else [])
    (early k (i + 1) (omega (arith, h))) (early k i (omega (arith, h)))
    (more_below test i (k + 1) j xs (omega (arith, h)))

both_behind : {A : Type 0} (test : ℕ → A → Bool) (from i : ℕ) (o : Option A) → from ≤ i → passes_at (λ i x. test i x && nat_le from i) i o ≡ passes_at test i o
both_behind test from i None h = refl
both_behind test from i (Some x) h = ap (λ b. test i x && b) (le-leb from i h) ∙ with_true (test i x)
  where
    with_true : (b : Bool) → (b && true) ≡ b
    with_true true = refl
    with_true false = refl

-- the places from one on and below another
abbrev pub places_between : {A : Type 0} → (ℕ → A → Bool) → ℕ → ℕ → List A → List ℕ
places_between test from to xs = filter (λ p. nat_lt p to) (filter (λ p. nat_le from p) (places_from 0 test xs))

as_one : {A : Type 0} (test : ℕ → A → Bool) (from to : ℕ) (xs : List A) → places_between test from to xs ≡ places_from 0 (below (λ i x. test i x && nat_le from i) to) xs
as_one test from to xs = ap (filter (λ p. nat_lt p to)) (filter_places test (λ p. nat_le from p) 0 xs) ∙ filter_places (λ i x. test i x && nat_le from i) (λ p. nat_lt p to) 0 xs

pub one_more : {A : Type 0} (test : ℕ → A → Bool) (from i : ℕ) (xs : List A) → from ≤ i →
    places_between test from (i + 1) xs ≡ (places_between test from i xs ++ (if passes_at test i (slice_get xs i) then i ∷ [] else []))
one_more {A = A} test from i xs h =
    let both : ℕ → A → Bool = λ i x. test i x && nat_le from i in
    as_one test from (i + 1) xs
    ∙ more_below both i 0 i xs (omega arith)
    ∙ ap (λ ps. ps ++ (if passes_at both i (slice_get xs i) then i ∷ [] else [])) (sym (as_one test from i xs))
    ∙ ap (λ b. places_between test from i xs ++ (if b then i ∷ [] else [])) (both_behind test from i (slice_get xs i) h)

neither : (a : Bool) (from to i : ℕ) → to ≤ from → ((a && nat_le from i) && nat_lt i to) ≡ false
neither true from to i h = grind (arith, leb_tells, h)
neither false from to i h = refl

pub none_between : {A : Type 0} (test : ℕ → A → Bool) (from to : ℕ) (xs : List A) → to ≤ from → places_between test from to xs ≡ []
none_between test from to xs h = as_one test from to xs ∙ no_places (below (λ i x. test i x && nat_le from i) to) 0 xs (λ i x late. neither (test i x) from to i h)

pub between_same : {A : Type 0} (test : ℕ → A → Bool) (from to i : ℕ) (xs : List A) → i ≤ max from to → to ≤ i →
    places_between test from i xs ≡ places_between test from to xs
between_same test from to i xs near end = elim (leb_tells to from) [
  | inl h ↦ none_between test from i xs (omega (arith, h.1, near)) ∙ sym (none_between test from to xs h.1)
  | inr h ↦ ap (λ n. places_between test from n xs) (omega (arith, h.1, near, end))
]
