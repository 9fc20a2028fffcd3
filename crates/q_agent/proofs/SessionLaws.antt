-- The open sessions with one more, one less, or another in the place of one.
use Rattle.std.proofs.Common.{◌≡◌, ◌≢◌, ℕ, zero, suc, ◌<◌, ◌≤◌, Bool, true, false, List, [], ◌∷◌, ◌++◌, map, find, not, nat_lt, slice_get, take, drop, length, if◌then◌else◌, ◌==◌, ◌||◌, Option, Some, None, refl, sym, ap, subst, ◌∙◌, arith, ne_eqb, eq-eqb, lt-ltb, le-ltb, ⊎_elim}
use Rattle.std.proofs.lemmas.Bool.{cases_lt}
use Rattle.std.proofs.lemmas.List.{take_all}
use Rattle.std.specs.List.{AllByRecursion, list_any}
use Rattle.std.specs.Option.{option_map, option_or}
use Rattle.q_model.proofs.EachLaws.{each-same, each-none}
use Rattle.q_agent.specs.Sessions.{OpenSession, inserted, next_polled, replaced, without}
use Rattle.q_agent.proofs.Rising.{Around}

-- where none has the number, none is replaced
replaced_none : (p : OpenSession) (xs : List OpenSession) → AllByRecursion (λ (x : OpenSession). x.number ≢ p.number) xs → replaced p xs ≡ xs
replaced_none p [] h = refl
replaced_none p (x ∷ xs) h = rw (ne_eqb x.number p.number h.0) (ap (λ (ys : List OpenSession). x ∷ ys) (replaced_none p xs h.1))

-- another in the place of the one of its number
pub replaced_at : (front : List OpenSession) (o p : OpenSession) (back : List OpenSession) → Around (λ (x : OpenSession). x.number) o.number front back → p.number ≡ o.number → replaced p (front ++ o ∷ back) ≡ front ++ p ∷ back
replaced_at [] o p back a same =
    rw (eq-eqb o.number p.number (sym same)) (ap (λ (ys : List OpenSession). p ∷ ys)
    (replaced_none p back (each-same (λ (x : OpenSession). o.number < x.number) (λ (x : OpenSession). x.number ≢ p.number) back (λ x lt e. omega (arith, lt, e, same)) a.above)))
replaced_at (x ∷ front) o p back a same =
    let differs : x.number ≢ p.number = λ e. omega (arith, e, same, a.below.0) in
    rw (ne_eqb x.number p.number differs) (ap (λ (ys : List OpenSession). x ∷ ys) (replaced_at front o p back (record { below = a.below.1; above = a.above }) same))

without_none : (n : ℕ) (xs : List OpenSession) → AllByRecursion (λ (x : OpenSession). x.number ≢ n) xs → without n xs ≡ xs
without_none n [] h = refl
without_none n (x ∷ xs) h = rw (ne_eqb x.number n h.0) (ap (λ (ys : List OpenSession). x ∷ ys) (without_none n xs h.1))

-- the one of a number goes, and the others stay
pub without_at : (front : List OpenSession) (o : OpenSession) (back : List OpenSession) → Around (λ (x : OpenSession). x.number) o.number front back → without o.number (front ++ o ∷ back) ≡ front ++ back
without_at [] o back a =
    rw (eq-eqb o.number o.number refl)
    (without_none o.number back (each-same (λ (x : OpenSession). o.number < x.number) (λ (x : OpenSession). x.number ≢ o.number) back (λ x lt e. omega (arith, lt, e)) a.above))
without_at (x ∷ front) o back a =
    let differs : x.number ≢ o.number = λ e. omega (arith, e, a.below.0) in
    rw (ne_eqb x.number o.number differs) (ap (λ (ys : List OpenSession). x ∷ ys) (without_at front o back (record { below = a.below.1; above = a.above })))

-- one comes between those below and those above its number
pub inserted_at : (front : List OpenSession) (o : OpenSession) (back : List OpenSession) → Around (λ (x : OpenSession). x.number) o.number front back → inserted o (front ++ back) ≡ front ++ o ∷ back
inserted_at [] o [] a = refl
inserted_at [] o (b ∷ back) a = rw (lt-ltb o.number b.number a.above.0) refl
inserted_at (x ∷ front) o back a =
    let below : x.number ≤ o.number = omega (arith, a.below.0) in
    rw (le-ltb o.number x.number below) (ap (λ (ys : List OpenSession). x ∷ ys) (inserted_at front o back (record { below = a.below.1; above = a.above })))

-- ---- the next one, by what the sessions are shown from

chosen : {A : Type 0} (f : A → OpenSession) (x : A) (a : Option A) (t : Bool) → (if t then Some (f x) else option_map f a) ≡ option_map f (if t then Some x else a)
chosen f x a true = refl
chosen f x a false = refl

find_mapped : {A : Type 0} (test : OpenSession → Bool) (f : A → OpenSession) (xs : List A) → find test (map f xs) ≡ option_map f (find (λ x. test (f x)) xs)
find_mapped test f [] = refl
find_mapped test f (x ∷ xs) = rw (find_mapped test f xs) (chosen f x (find (λ y. test (f y)) xs) (test (f x)))

first_mapped : {A : Type 0} (f : A → OpenSession) (xs : List A) → slice_get (map f xs) 0 ≡ option_map f (slice_get xs 0)
first_mapped f [] = refl
first_mapped f (x ∷ xs) = refl

or_mapped : {A : Type 0} (f : A → OpenSession) (a b : Option A) → option_or (option_map f a) (option_map f b) ≡ option_map f (option_or a b)
or_mapped f None b = refl
or_mapped f (Some x) b = refl

pub next_mapped : {A : Type 0} (f : A → OpenSession) (xs : List A) (polled : ℕ) → next_polled (record { listed = map f xs; polled = polled }) ≡ option_map f (option_or (find (λ x. nat_lt polled (f x).number) xs) (slice_get xs 0))
next_mapped f xs polled =
    ap (λ (o : Option OpenSession). option_or o (slice_get (map f xs) 0)) (find_mapped (λ (o : OpenSession). nat_lt polled o.number) f xs)
    ∙ ap (λ (o : Option OpenSession). option_or (option_map f (find (λ x. nat_lt polled (f x).number) xs)) o) (first_mapped f xs)
    ∙ or_mapped f (find (λ x. nat_lt polled (f x).number) xs) (slice_get xs 0)

-- ---- whether one is above a number

or_true : (b : Bool) → (b || true) ≡ true
or_true true = refl
or_true false = refl

any_above : {A : Type 0} (test : A → Bool) (xs : List A) (i : ℕ) → AllByRecursion (λ x. test x ≡ true) (drop i xs) → i < length xs → list_any test xs ≡ true
any_above test [] i each lt = absurd (omega (arith, lt))
any_above test (x ∷ xs) zero each lt = rw each.0 refl
any_above test (x ∷ xs) (suc i) each lt = rw (any_above test xs i each (omega (arith, lt))) (or_true (test x))

-- the place behind those that fail is the end exactly where none passes
pub end_is : {A : Type 0} (test : A → Bool) (xs : List A) (i : ℕ) → i ≤ length xs → AllByRecursion (λ x. test x ≡ false) (take i xs) → AllByRecursion (λ x. test x ≡ true) (drop i xs) → (i == length xs) ≡ not (list_any test xs)
end_is test xs i within fail pass = ⊎_elim
    (λ lt. ne_eqb i (length xs) (λ e. omega (arith, lt, e)) ∙ ap not (sym (any_above test xs i pass lt)))
    (λ ge. eq-eqb i (length xs) (omega (arith, within, ge)) ∙ ap not (sym (each-none test xs (subst (AllByRecursion (λ x. test x ≡ false)) (take_all i xs ge) fail))))
    (cases_lt i (length xs))
