-- The places of a list at which a test passes, with one place more or less.
use Rattle.std.proofs.Common.{◌≡◌, ℕ, zero, suc, ◌+◌, Bool, true, false, List, [], ◌∷◌, length, refl, sym, ap, ◌∙◌, ◌<◌, ◌≤◌, Option, arith}
use Rattle.std.proofs.lemmas.Bool.{eq-eqb, ne_eqb}
use Rattle.std.specs.Option.{option_map_or}
use Rattle.std.specs.Prelude.{◌&&◌, ◌==◌, if◌then◌else◌, not, slice_get}
use Rattle.q_core.proofs.BookLaws.{place_step}
use Rattle.q_model.specs.Lists.{has_none, places_from}

-- the element at this place passes
abbrev pub passes_at : {A : Type 0} → (ℕ → A → Bool) → ℕ → Option A → Bool
passes_at p k o = option_map_or (p k) o false

and_not : (b c : Bool) → c ≡ false → (b && not c) ≡ b
and_not true c e = ap not e
and_not false c e = refl

differ : (n k : ℕ) → k < n → (n == k) ≡ false
differ n k h = ne_eqb n k (λ e. omega (arith, h, e))

-- behind the place nothing is less
past : {A : Type 0} (p q : ℕ → A → Bool) (k n : ℕ) (xs : List A) → ((i : ℕ) (x : A) → q i x ≡ (p i x && not (i == k))) → k < n → places_from n q xs ≡ places_from n p xs
past p q k n [] w h = refl
past p q k n (x ∷ xs) w h =
    place_step (q n x) (p n x) n (places_from (n + 1) q xs) (places_from (n + 1) p xs) (w n x ∙ and_not (p n x) (n == k) (differ n k h)) (past p q k (n + 1) xs w (omega (arith, h)))

one_less : (b c : Bool) (n : ℕ) (ns ms : List ℕ) → b ≡ false → c ≡ true → ns ≡ ms → suc (length (if b then n ∷ ns else ns)) ≡ length (if c then n ∷ ms else ms)
one_less b c n ns ms eb ec e = ap (λ z. suc (length (if z then n ∷ ns else ns))) eb ∙ ap (λ zs. suc (length zs)) e ∙ sym (ap (λ z. length (if z then n ∷ ms else ms)) ec)

one_less_later : (b c : Bool) (n : ℕ) (ns ms : List ℕ) → b ≡ c → suc (length ns) ≡ length ms → suc (length (if b then n ∷ ns else ns)) ≡ length (if c then n ∷ ms else ms)
one_less_later true c n ns ms e h = ap suc h ∙ ap (λ z. length (if z then n ∷ ms else ms)) e
one_less_later false c n ns ms e h = h ∙ ap (λ z. length (if z then n ∷ ms else ms)) e

-- without a place that passes there is one less
pub less_one : {A : Type 0} (p q : ℕ → A → Bool) (k n j : ℕ) (xs : List A) → ((i : ℕ) (x : A) → q i x ≡ (p i x && not (i == k))) → k ≡ n + j → passes_at p k (slice_get xs j) ≡ true →
    suc (length (places_from n q xs)) ≡ length (places_from n p xs)
less_one p q k n j [] w e h = cc
less_one p q k n zero (x ∷ xs) w e h =
    let here : k ≡ n = omega (arith, e) in
    let passes : p n x ≡ true = ap (λ i. p i x) (sym here) ∙ h in
    let not_here : q n x ≡ false = w n x ∙ ap (λ b. p n x && not b) (eq-eqb n k (sym here)) ∙ ap (λ b. b && false) passes in
    one_less (q n x) (p n x) n (places_from (n + 1) q xs) (places_from (n + 1) p xs) not_here passes (past p q k (n + 1) xs w (omega (arith, here)))
less_one p q k n (suc j) (x ∷ xs) w e h =
    one_less_later (q n x) (p n x) n (places_from (n + 1) q xs) (places_from (n + 1) p xs)
    (w n x ∙ and_not (p n x) (n == k) (ne_eqb n k (λ s. omega (arith, e, s))))
    (less_one p q k (n + 1) j xs w (omega (arith, e)) h)

-- without a place that fails there are as many
pub less_none : {A : Type 0} (p q : ℕ → A → Bool) (k n j : ℕ) (xs : List A) → ((i : ℕ) (x : A) → q i x ≡ (p i x && not (i == k))) → k ≡ n + j → passes_at p k (slice_get xs j) ≡ false →
    places_from n q xs ≡ places_from n p xs
less_none p q k n j [] w e h = refl
less_none p q k n zero (x ∷ xs) w e h =
    let here : k ≡ n = omega (arith, e) in
    let fails : p n x ≡ false = ap (λ i. p i x) (sym here) ∙ h in
    place_step (q n x) (p n x) n (places_from (n + 1) q xs) (places_from (n + 1) p xs) (w n x ∙ ap (λ b. b && not (n == k)) fails ∙ sym fails) (past p q k (n + 1) xs w (omega (arith, here)))
less_none p q k n (suc j) (x ∷ xs) w e h =
    place_step (q n x) (p n x) n (places_from (n + 1) q xs) (places_from (n + 1) p xs)
    (w n x ∙ and_not (p n x) (n == k) (ne_eqb n k (λ s. omega (arith, e, s))))
    (less_none p q k (n + 1) j xs w (omega (arith, e)) h)

has_more : (b : Bool) (n : ℕ) (ns : List ℕ) → has_none ns ≡ false → has_none (if b then n ∷ ns else ns) ≡ false
has_more true n ns h = refl
has_more false n ns h = h

-- where a place passes there is one
pub some_place : {A : Type 0} (p : ℕ → A → Bool) (k n j : ℕ) (xs : List A) → k ≡ n + j → passes_at p k (slice_get xs j) ≡ true → has_none (places_from n p xs) ≡ false
some_place p k n j [] e h = cc
some_place p k n zero (x ∷ xs) e h =
    let here : k ≡ n = omega (arith, e) in
    ap (λ z. has_none (if z then n ∷ places_from (n + 1) p xs else places_from (n + 1) p xs)) (ap (λ i. p i x) (sym here) ∙ h)
some_place p k n (suc j) (x ∷ xs) e h = has_more (p n x) n (places_from (n + 1) p xs) (some_place p k (n + 1) j xs (omega (arith, e)) h)

more_step : (b : Bool) (n : ℕ) (ns : List ℕ) (c : ℕ) → length ns ≤ c → length (if b then n ∷ ns else ns) ≤ suc c
more_step true n ns c h = omega (arith, h)
more_step false n ns c h = omega (arith, h)

-- there are no more places than elements
pub few_places : {A : Type 0} (p : ℕ → A → Bool) (n : ℕ) (xs : List A) → length (places_from n p xs) ≤ length xs
few_places p n [] = omega arith
few_places p n (x ∷ xs) = more_step (p n x) n (places_from (n + 1) p xs) (length xs) (few_places p (n + 1) xs)
