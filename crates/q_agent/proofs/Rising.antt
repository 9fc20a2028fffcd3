-- Lists whose numbers rise.
use Rattle.std.proofs.Common.{ℕ, zero, suc, ◌<◌, ◌≤◌, List, [], ◌∷◌, ◌++◌, length, map, get_or, subst, arith}
use Rattle.std.specs.List.{AllByRecursion}
use Rattle.std.proofs.lemmas.List.{map-append}
use Rattle.q_model.proofs.EachLaws.{each-append, each-same, each-unmap}
use Rattle.q_agent.specs.Sessions.{Rises}
use Rattle.q_agent.proofs.Splits.{each_at, each_parts}

-- two lists that rise, one below the other
pub record RiseParted (front back : List ℕ) : Type 0 where
  pub front_rises : Rises front
  pub back_rises : Rises back
  pub between : AllByRecursion (λ m. AllByRecursion (λ n. m < n) back) front

pub rises_parts : (front back : List ℕ) → Rises (front ++ back) → RiseParted front back
rises_parts [] back r = record { front_rises = tt; back_rises = r; between = tt }
rises_parts (m ∷ front) back r =
    let above = each_parts (λ n. m < n) front back r.0 in
    let rest = rises_parts front back r.1 in
    record { front_rises = (above.0, rest.front_rises); back_rises = rest.back_rises; between = (above.1, rest.between) }

pub rises_join : (front back : List ℕ) → RiseParted front back → Rises (front ++ back)
rises_join [] back p = p.back_rises
rises_join (m ∷ front) back p = (
  each-append (λ n. m < n) front back p.front_rises.0 p.between.0,
  rises_join front back (record { front_rises = p.front_rises.1; back_rises = p.back_rises; between = p.between.1 }),
)

-- a number goes, and the others rise
pub rises_without : (front : List ℕ) (n : ℕ) (back : List ℕ) → Rises (front ++ n ∷ back) → Rises (front ++ back)
rises_without front n back r =
    let p = rises_parts front (n ∷ back) r in
    rises_join front back (record { front_rises = p.front_rises; back_rises = p.back_rises.1; between = each-same (λ m. AllByRecursion (λ k. m < k) (n ∷ back)) (λ m. AllByRecursion (λ k. m < k) back) front (λ m h. h.1) p.between })

before_both : (n : ℕ) (front back : List ℕ) → AllByRecursion (λ m. m < n) front → AllByRecursion (λ m. AllByRecursion (λ k. m < k) back) front → AllByRecursion (λ m. AllByRecursion (λ k. m < k) (n ∷ back)) front
before_both n [] back below between = tt
before_both n (m ∷ front) back below between = ((below.0, between.0), before_both n front back below.1 between.1)

-- a number comes between those below and those above it
pub rises_with : (front : List ℕ) (n : ℕ) (back : List ℕ) → Rises (front ++ back) → AllByRecursion (λ m. m < n) front → AllByRecursion (λ k. n < k) back → Rises (front ++ n ∷ back)
rises_with front n back r below above =
    let p = rises_parts front back r in
    rises_join front (n ∷ back) (record { front_rises = p.front_rises; back_rises = (above, p.back_rises); between = before_both n front back below p.between })

-- what stands around an element is below and above it
pub record Around {A : Type 0} (f : A → ℕ) (n : ℕ) (before behind : List A) : Type 0 where
  pub below : AllByRecursion (λ x. f x < n) before
  pub above : AllByRecursion (λ x. n < f x) behind

pub around : {A : Type 0} (f : A → ℕ) (before : List A) (x : A) (behind : List A) → Rises (map f (before ++ x ∷ behind)) → Around f (f x) before behind
around f before x behind r =
    let p = rises_parts (map f before) (map f (x ∷ behind)) (subst Rises (map-append f before (x ∷ behind)) r) in
    record {
      below = each-unmap (λ m. m < f x) f before (each-same (λ m. AllByRecursion (λ k. m < k) (f x ∷ map f behind)) (λ m. m < f x) (map f before) (λ m h. h.0) p.between);
      above = each-unmap (λ k. f x < k) f behind p.back_rises.0;
    }

pub nondecreasing : {A : Type 0} (f : A → ℕ) (xs : List A) → Rises (map f xs) → (i j : ℕ) (d : A) → i ≤ j → j < length xs → f (get_or xs i d) ≤ f (get_or xs j d)
nondecreasing f [] r i j d le lt = absurd (omega (arith, lt))
nondecreasing f (x ∷ xs) r zero zero d le lt = omega arith
nondecreasing f (x ∷ xs) r zero (suc j) d le lt =
    let above : f x < f (get_or xs j d) = each_at (λ y. f x < f y) xs j d (each-unmap (λ n. f x < n) f xs r.0) (omega (arith, lt)) in
    omega (arith, above)
nondecreasing f (x ∷ xs) r (suc i) zero d le lt = absurd (omega (arith, le))
nondecreasing f (x ∷ xs) r (suc i) (suc j) d le lt = nondecreasing f xs r.1 i j d (omega (arith, le)) (omega (arith, lt))
