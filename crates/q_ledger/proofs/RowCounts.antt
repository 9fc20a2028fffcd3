-- How many rows of a message there are, as a delivery ends, outcomes come, and one is settled.
use Rattle.std.proofs.Common.{◌≡◌, ℕ, ◌+◌, Bool, true, false, cond, not, List, [], ◌∷◌, ◌++◌, length, map, drop, filter, count_by, Option, Some, None, option_map, inl, inr, refl, sym, ap, ◌∙◌, subst, arith, eqb-true, eq-eqb, if◌then◌else◌}
use Rattle.std.proofs.lemmas.Bool.{and_parts, not-true, not_from_false}
use Rattle.std.proofs.lemmas.List.Sums.{sum_by-append, sum_by-cons}
use Rattle.std.specs.List.{cons_option, list_any}
use Rattle.std.specs.Prelude.{◌==◌, slice_get}
use Rattle.q_laws.proofs.Members.{IsIn, in_map, none_at}
use Rattle.q_laws.specs.Consistency.{are_once}
use Rattle.q_ledger.specs.Needs.{need_in, needs_in}
use Rattle.q_model.specs.Ids.{id_eq}
use Rattle.q_model.specs.Logs.{first_logged}
use Rattle.q_model.specs.Settling.{unsettled_row}
use Rattle.q_model.specs.declared.id.Id.{Id}
use Rattle.q_model.specs.declared.outcome.Outcome.{Outcome}
use Rattle.q_model.specs.declared.rows.Delivery.{Delivery}
use Rattle.q_model.specs.declared.rows.Need.{Need}
use Rattle.q_model.specs.declared.rows.Need.TheVariants as needs
use Rattle.q_model.specs.declared.rows.Unsettled.{Unsettled}

pub count_cons : {X : Type 0} (p : X → Bool) (x : X) (xs : List X) → count_by p (x ∷ xs) ≡ cond (p x) 1 0 + count_by p xs
count_cons p x xs = sum_by-cons (λ y. cond (p y) 1 0) x xs

pub count_append : {X : Type 0} (p : X → Bool) (xs ys : List X) → count_by p (xs ++ ys) ≡ count_by p xs + count_by p ys
count_append p xs ys = sum_by-append (λ y. cond (p y) 1 0) xs ys

-- ---- deliveries, no two of which have one number

abbrev numbers : List Delivery → List ℕ
numbers fs = map (λ (f : Delivery). f.number) fs

abbrev pub is_other : Delivery → Delivery → Bool
is_other f g = not (g.number == f.number)

-- those of other numbers are all
no_more : (f : Delivery) (fs : List Delivery) → ((g : Delivery) → IsIn g fs → is_other f g ≡ true) → filter (is_other f) fs ≡ fs
no_more f [] h = refl
no_more f (g ∷ gs) h =
    ap (λ b. cond b (g ∷ filter (is_other f) gs) (filter (is_other f) gs)) (h g (inl refl))
    ∙ ap (λ xs. g ∷ xs) (no_more f gs (λ x inside. h x (inr inside)))

apart : (f : Delivery) (fs : List Delivery) → list_any (λ m. m == f.number) (numbers fs) ≡ false → (g : Delivery) → IsIn g fs → is_other f g ≡ true
apart f fs none g inside = not_from_false (g.number == f.number) (none_at (λ m. m == f.number) g.number (numbers fs) none (in_map (λ (x : Delivery). x.number) g fs inside))

ends_here : (p : Delivery → Bool) (f g : Delivery) (gs : List Delivery) → list_any (λ m. m == g.number) (numbers gs) ≡ false → g ≡ f → cond (p f) 1 0 + count_by p (filter (is_other f) (g ∷ gs)) ≡ count_by p (g ∷ gs)
ends_here p f g gs alone same =
    let gone : is_other f g ≡ false = ap (λ (x : Delivery). not (x.number == f.number)) same ∙ ap not (eq-eqb f.number f.number refl) in
    let left : filter (is_other f) (g ∷ gs) ≡ gs =
    ap (λ b. cond b (g ∷ filter (is_other f) gs) (filter (is_other f) gs)) gone
    ∙ no_more f gs (apart f gs (subst (λ (x : Delivery). list_any (λ m. m == x.number) (numbers gs) ≡ false) same alone)) in
    ap (λ xs. cond (p f) 1 0 + count_by p xs) left
    ∙ ap (λ (x : Delivery). cond (p x) 1 0 + count_by p gs) (sym same)
    ∙ sym (count_cons p g gs)

other_numbers : (m n : ℕ) → (m == n) ≡ false → (b : Bool) → (n == m) ≡ b → b ≡ false
other_numbers m n h false k = refl
other_numbers m n h true k = let bad : true ≡ false = sym (eq-eqb m n (sym (eqb-true n m k))) ∙ h in absurd cc

ends_later : (p : Delivery → Bool) (f g : Delivery) (gs : List Delivery) → list_any (λ m. m == g.number) (numbers gs) ≡ false → IsIn f gs →
    cond (p f) 1 0 + count_by p (filter (is_other f) gs) ≡ count_by p gs → cond (p f) 1 0 + count_by p (filter (is_other f) (g ∷ gs)) ≡ count_by p (g ∷ gs)
ends_later p f g gs alone later rest =
    let differs : (f.number == g.number) ≡ false = none_at (λ m. m == g.number) f.number (numbers gs) alone (in_map (λ (x : Delivery). x.number) f gs later) in
    let other : is_other f g ≡ true = not_from_false (g.number == f.number) (other_numbers f.number g.number differs (g.number == f.number) refl) in
    let left : filter (is_other f) (g ∷ gs) ≡ g ∷ filter (is_other f) gs = ap (λ b. cond b (g ∷ filter (is_other f) gs) (filter (is_other f) gs)) other in
    let a = count_cons p g (filter (is_other f) gs) in
    let b = count_cons p g gs in
    let c : count_by p (filter (is_other f) (g ∷ gs)) ≡ count_by p (g ∷ filter (is_other f) gs) = ap (count_by p) left in
    omega (arith, a, b, c, rest)

-- with the delivery that ends there are as many as before
pub one_ends : (p : Delivery → Bool) (f : Delivery) (fs : List Delivery) → are_once (numbers fs) ≡ true → IsIn f fs → cond (p f) 1 0 + count_by p (filter (is_other f) fs) ≡ count_by p fs
one_ends p f [] once inside = absurd inside
one_ends p f (g ∷ gs) once (inl same) =
    ends_here p f g gs (not-true (list_any (λ m. m == g.number) (numbers gs)) (and_parts (not (list_any (λ m. m == g.number) (numbers gs))) (are_once (numbers gs)) once).0) same
one_ends p f (g ∷ gs) once (inr later) =
    let two = and_parts (not (list_any (λ m. m == g.number) (numbers gs))) (are_once (numbers gs)) once in
    ends_later p f g gs (not-true (list_any (λ m. m == g.number) (numbers gs)) two.0) later (one_ends p f gs two.1 later)

-- ---- outcomes

needs_step : (id i : Id) (p : ℕ) (o : Option Need) (us : List Unsettled) (b : Bool) → id_eq id i ≡ b → count_by (λ (u : Unsettled). id_eq u.id i) us ≡ (if b then length us else 0) →
    count_by (λ (u : Unsettled). id_eq u.id i) (cons_option (option_map (unsettled_row id p) o) us) ≡ (if b then length (cons_option (option_map (unsettled_row id p) o) us) else 0)
needs_step id i p None us b e h = h
needs_step id i p (Some n) us true e h =
    let a = count_cons (λ (u : Unsettled). id_eq u.id i) (unsettled_row id p n) us in
    let one : ◌≡◌ {A = ℕ} (cond (id_eq id i) 1 0) 1 = ap (λ c. cond c 1 0) e in
    omega (arith, a, one, h)
needs_step id i p (Some n) us false e h =
    let a = count_cons (λ (u : Unsettled). id_eq u.id i) (unsettled_row id p n) us in
    let none : ◌≡◌ {A = ℕ} (cond (id_eq id i) 1 0) 0 = ap (λ c. cond c 1 0) e in
    omega (arith, a, none, h)

no_needs : (b : Bool) → ◌≡◌ {A = ℕ} 0 (if b then 0 else 0)
no_needs true = refl
no_needs false = refl

-- what outcomes need is all of their message
pub needs_counted : (expired : Bool) (id i : Id) (ps : List ℕ) (os : List Outcome) (b : Bool) → id_eq id i ≡ b → count_by (λ (u : Unsettled). id_eq u.id i) (needs_in expired id ps os) ≡ (if b then length (needs_in expired id ps os) else 0)
needs_counted expired id i [] os b e = no_needs b
needs_counted expired id i (p ∷ ps) [] b e = no_needs b
needs_counted expired id i (p ∷ ps) (o ∷ os) b e =
    needs_step id i p (need_in expired o) (needs_in expired id ps os) b e (needs_counted expired id i ps os b e)

-- the first outcome keeps its message
pub logged_counted : (i : Id) (us : List Unsettled) → count_by (λ (u : Unsettled). id_eq u.id i) (first_logged us) ≡ count_by (λ (u : Unsettled). id_eq u.id i) us
logged_counted i [] = refl
logged_counted i (u ∷ us) = count_cons (λ (x : Unsettled). id_eq x.id i) (record u { need = needs.Mark }) us ∙ sym (count_cons (λ (x : Unsettled). id_eq x.id i) u us)

first_dropped : (p : Unsettled → Bool) (u : Unsettled) (us : List Unsettled) → slice_get us 0 ≡ Some u → cond (p u) 1 0 + count_by p (drop 1 us) ≡ count_by p us
first_dropped p u [] h = absurd cc
first_dropped p u (x ∷ xs) h = let same : x ≡ u = cc in ap (λ (y : Unsettled). cond (p y) 1 0 + count_by p xs) (sym same) ∙ sym (count_cons p x xs)

-- with the first outcome there are as many as before
pub one_settled : (p : Unsettled → Bool) (u : Unsettled) (us : List Unsettled) → slice_get us 0 ≡ Some u → cond (p u) 1 0 + count_by p (drop 1 us) ≡ count_by p us
one_settled p u us h = first_dropped p u us h
