-- What stands among tickets.
use Rattle.std.proofs.Common.{◌≡◌, ◌∙◌, ◌<◌, ◌+◌, ◌||◌, ◌&&◌, [], ◌∷◌, ap, arith, Bool, cond, false, inl, inr, length, List, None, not, refl, Some, subst, sym, true, ℕ}
use Rattle.std.proofs.lemmas.Bool.{and_parts, both_ways, eqb-true, false_from_ne_true, not-false, or_cases, or_left, or_right}
use Rattle.std.proofs.lemmas.Bool.Decides.{nat_tests}
use Rattle.std.proofs.lemmas.Map.Views.{any-filter_same}
use Rattle.std.specs.List.{AllByRecursion, list_any}
use Rattle.std.specs.Prelude.{◌==◌, filter, find}
use Rattle.q_sorted.specs.declared.ticket.Ticket.{Ticket}
use Rattle.q_sorted.specs.Tickets.{goes_before, inserted, is_another, Rises}
use Rattle.q_sorted.proofs.Order.{not_back, same_between}
use Rattle.q_heads.specs.Lanes.{is_same, stands}

-- Sameness.
pub same_refl : (e : Ticket) → is_same e e ≡ true
same_refl e = grind (arith, nat_tests)

same_back : (e x : Ticket) → is_same e x ≡ is_same x e
same_back e x = grind (arith, nat_tests)

abbrev ticket_with : ℕ → ℕ → ℕ → Ticket
ticket_with key group item = record { key = key; group = group; item = item }

pub ticket_is : (e x : Ticket) → e.key ≡ x.key → e.group ≡ x.group → e.item ≡ x.item → e ≡ x
ticket_is e x k g i = ap (λ n. ticket_with n e.group e.item) k ∙ ap (λ n. ticket_with x.key n e.item) g ∙ ap (λ n. ticket_with x.key x.group n) i

pub same_is : (e x : Ticket) → is_same e x ≡ true → e ≡ x
same_is e x h =
    let outer = and_parts ((x.group == e.group) && (x.key == e.key)) (x.item == e.item) h in
    let inner = and_parts (x.group == e.group) (x.key == e.key) outer.0 in
    ticket_is e x (sym (eqb-true x.key e.key inner.1)) (sym (eqb-true x.group e.group inner.0)) (sym (eqb-true x.item e.item outer.1))

-- The first that passes a test.
pub stands_here : (e x : Ticket) (xs : List Ticket) → e ≡ x → stands e (x ∷ xs) ≡ true
stands_here e x xs same = or_left (is_same e x) (stands e xs) (ap (is_same e) (sym same) ∙ same_refl e)

pub stands_later : (e x : Ticket) (xs : List Ticket) → stands e xs ≡ true → stands e (x ∷ xs) ≡ true
stands_later e x xs h = or_right (is_same e x) (stands e xs) h

pub all_stand : (P : Ticket → Type 0) (y : Ticket) (xs : List Ticket) → AllByRecursion P xs → stands y xs ≡ true → P y
all_stand P y [] all h = absurd cc
all_stand P y (x ∷ xs) all h =
    elim (or_cases (is_same y x) (stands y xs) h) [
      | inl here ↦ subst P (sym (same_is y x here)) all.0
      | inr later ↦ all_stand P y xs all.1 later
    ]

found_step : (p : Ticket → Bool) (x z : Ticket) (zs : List Ticket) (t : Bool) → p z ≡ t → cond t (Some z) (find p zs) ≡ Some x → (find p zs ≡ Some x → (stands x zs ≡ true) × (p x ≡ true)) → (stands x (z ∷ zs) ≡ true) × (p x ≡ true)
found_step p x z zs true e h rest = let same : x ≡ z = cc in (stands_here x z zs same, ap p same ∙ e)
found_step p x z zs false e h rest = let both = rest h in (stands_later x z zs both.0, both.1)

-- what is found stands there and passes
pub found : (p : Ticket → Bool) (x : Ticket) (xs : List Ticket) → find p xs ≡ Some x → (stands x xs ≡ true) × (p x ≡ true)
found p x [] h = absurd cc
found p x (z ∷ zs) h = found_step p x z zs (p z) refl h (found p x zs)

none_step : (p : Ticket → Bool) (y z : Ticket) (zs : List Ticket) (t : Bool) → p z ≡ t → cond t (Some z) (find p zs) ≡ None → stands y (z ∷ zs) ≡ true → (find p zs ≡ None → stands y zs ≡ true → p y ≡ false) → p y ≡ false
none_step p y z zs true e h k rest = absurd cc
none_step p y z zs false e h k rest =
    elim (or_cases (is_same y z) (stands y zs) k) [
      | inl here ↦ ap p (same_is y z here) ∙ e
      | inr later ↦ rest h later
    ]

pub none_found : (p : Ticket → Bool) (y : Ticket) (xs : List Ticket) → find p xs ≡ None → stands y xs ≡ true → p y ≡ false
none_found p y [] h k = absurd cc
none_found p y (z ∷ zs) h k = none_step p y z zs (p z) refl h k (none_found p y zs)

pub not_itself : (x : Ticket) → goes_before x x ≡ false
not_itself x = grind (arith, nat_tests)

first_step : (p : Ticket → Bool) (x y z : Ticket) (zs : List Ticket) (t : Bool) → p z ≡ t → Rises (z ∷ zs) → cond t (Some z) (find p zs) ≡ Some x → stands y (z ∷ zs) ≡ true → p y ≡ true → (find p zs ≡ Some x → stands y zs ≡ true → goes_before y x ≡ false) → goes_before y x ≡ false
first_step p x y z zs true e r h k q rest =
    let same : z ≡ x = cc in
    elim (or_cases (is_same y z) (stands y zs) k) [
      | inl here ↦ ap (goes_before y) (sym same) ∙ ap (λ w. goes_before w z) (same_is y z here) ∙ not_itself z
      | inr later ↦ ap (goes_before y) (sym same) ∙ not_back z y (all_stand (λ w. goes_before z w ≡ true) y zs r.0 later)
    ]
first_step p x y z zs false e r h k q rest =
    elim (or_cases (is_same y z) (stands y zs) k) [
      | inl here ↦ absurd (both_ways (p y) (ap p (same_is y z here) ∙ e) q)
      | inr later ↦ rest h later
    ]

-- no other that passes goes before it
pub first_found : (p : Ticket → Bool) (x y : Ticket) (xs : List Ticket) → Rises xs → find p xs ≡ Some x → stands y xs ≡ true → p y ≡ true → goes_before y x ≡ false
first_found p x y [] r h k q = absurd cc
first_found p x y (z ∷ zs) r h k q = first_step p x y z zs (p z) refl r h k q (λ a b. first_found p x y zs r.1 a b q)

only_step : (p : Ticket → Bool) (e z : Ticket) (zs : List Ticket) (t : Bool) → p z ≡ t → stands e (z ∷ zs) ≡ true → p e ≡ true → (p z ≡ true → e ≡ z) → (stands e zs ≡ true → find p zs ≡ Some e) → cond t (Some z) (find p zs) ≡ Some e
only_step p e z zs true s h k only rest = ap (λ (w : Ticket). Some w) (sym (only s))
only_step p e z zs false s h k only rest =
    elim (or_cases (is_same e z) (stands e zs) h) [
      | inl here ↦ absurd (both_ways (p z) s (ap p (sym (same_is e z here)) ∙ k))
      | inr later ↦ rest later
    ]

-- the only one that passes is found
pub found_only : (p : Ticket → Bool) (e : Ticket) (xs : List Ticket) → stands e xs ≡ true → p e ≡ true → ((x : Ticket) → stands x xs ≡ true → p x ≡ true → e ≡ x) → find p xs ≡ Some e
found_only p e [] h k only = absurd cc
found_only p e (z ∷ zs) h k only =
    only_step p e z zs (p z) refl h k (λ s. only z (stands_here z z zs refl) s) (λ later. found_only p e zs later k (λ x s q. only x (stands_later x z zs s) q))

-- Tests of all.
pub any_none : (p : Ticket → Bool) (y : Ticket) (xs : List Ticket) → list_any p xs ≡ false → stands y xs ≡ true → p y ≡ false
any_none p y xs h k = false_from_ne_true (p y) (λ q. both_ways (list_any p xs) h (any_at xs k q))
  where
    any_at : (zs : List Ticket) → stands y zs ≡ true → p y ≡ true → list_any p zs ≡ true
    any_at [] k q = absurd cc
    any_at (z ∷ zs) k q =
        elim (or_cases (is_same y z) (stands y zs) k) [
          | inl here ↦ or_left (p z) (list_any p zs) (ap p (sym (same_is y z here)) ∙ q)
          | inr later ↦ or_right (p z) (list_any p zs) (any_at zs later q)
        ]

pub none_any : (p : Ticket → Bool) (xs : List Ticket) → ((x : Ticket) → stands x xs ≡ true → p x ≡ false) → list_any p xs ≡ false
none_any p [] h = refl
none_any p (z ∷ zs) h = rw (h z (stands_here z z zs refl)) (none_any p zs (λ x k. h x (stands_later x z zs k)))

pub none_stand : (xs : List Ticket) → ((x : Ticket) → stands x xs ≡ true → ⊥) → xs ≡ []
none_stand [] h = refl
none_stand (z ∷ zs) h = absurd (h z (stands_here z z zs refl))

-- What a filter, an insertion and a removal leave.
pub stands_filtered : (p : Ticket → Bool) (x : Ticket) (xs : List Ticket) → stands x (filter p xs) ≡ (p x && stands x xs)
stands_filtered p x xs = any-filter_same (is_same x) p (p x) (λ k h. ap p (sym (same_is x k h))) xs

pub stands_left : (e x : Ticket) (xs : List Ticket) → stands x (filter (is_another e) xs) ≡ (not (is_same x e) && stands x xs)
stands_left e x xs = stands_filtered (is_another e) x xs ∙ ap (λ t. not t && stands x xs) (same_back e x)

or_swap : (a b c : Bool) → (a || (b || c)) ≡ (b || (a || c))
or_swap true true c = refl
or_swap true false c = refl
or_swap false b c = refl

or_again : (a b : Bool) → (a || b) ≡ (a || (a || b))
or_again true b = refl
or_again false b = refl

inserted_step : (e x y : Ticket) (ys : List Ticket) (t u : Bool) → goes_before y e ≡ t → goes_before e y ≡ u → stands x (inserted e ys) ≡ (is_same x e || stands x ys) → stands x (cond t (y ∷ inserted e ys) (cond u (e ∷ y ∷ ys) (y ∷ ys))) ≡ (is_same x e || stands x (y ∷ ys))
inserted_step e x y ys true u h k rest = ap (λ t. is_same x y || t) rest ∙ or_swap (is_same x y) (is_same x e) (stands x ys)
inserted_step e x y ys false true h k rest = refl
inserted_step e x y ys false false h k rest =
    let same = same_is e y (not-false (is_same e y) (same_between e y h k)) in
    or_again (is_same x y) (stands x ys) ∙ ap (λ w. is_same x w || (is_same x y || stands x ys)) (sym same)

pub stands_inserted : (e x : Ticket) (xs : List Ticket) → stands x (inserted e xs) ≡ (is_same x e || stands x xs)
stands_inserted e x [] = refl
stands_inserted e x (y ∷ ys) = inserted_step e x y ys (goes_before y e) (goes_before e y) refl refl (stands_inserted e x ys)

fewer_step : (e z : Ticket) (zs : List Ticket) (t : Bool) → is_same e z ≡ t → (t || stands e zs) ≡ true → length (filter (is_another e) zs) < length zs + 1 → (stands e zs ≡ true → length (filter (is_another e) zs) < length zs) → length (cond (not t) (z ∷ filter (is_another e) zs) (filter (is_another e) zs)) < length (z ∷ zs)
fewer_step e z zs true s h most rest = omega (arith, most)
fewer_step e z zs false s h most rest = omega (arith, rest h)

most_step : (e z : Ticket) (zs : List Ticket) (t : Bool) → length (filter (is_another e) zs) < length zs + 1 → length (cond t (z ∷ filter (is_another e) zs) (filter (is_another e) zs)) < length (z ∷ zs) + 1
most_step e z zs true most = omega (arith, most)
most_step e z zs false most = omega (arith, most)

most_left : (e : Ticket) (xs : List Ticket) → length (filter (is_another e) xs) < length xs + 1
most_left e [] = omega arith
most_left e (z ∷ zs) = most_step e z zs (is_another e z) (most_left e zs)

-- fewer are left where it stands there
pub fewer_left : (e : Ticket) (xs : List Ticket) → stands e xs ≡ true → length (filter (is_another e) xs) < length xs
fewer_left e [] h = absurd cc
fewer_left e (z ∷ zs) h = fewer_step e z zs (is_same e z) refl h (most_left e zs) (fewer_left e zs)
