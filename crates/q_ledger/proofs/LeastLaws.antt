-- Searches for the least, from the end of a list.
use Rattle.std.proofs.Common.{◌≡◌, ℕ, suc, ◌-◌, ◌<◌, ◌≤◌, Bool, true, false, List, ◌∷◌, length, drop, get_or, sym, ap, ◌∙◌, arith, drop-cons, Option, Some, None, refl}
use Rattle.std.specs.Option.{option_and_then}
use Rattle.std.specs.List.{cons_option}
use Rattle.std.specs.Prelude.{[], filter, filter_map, if◌then◌else◌, map}
use Rattle.q_ledger.specs.Best.{best_with, prefer}
use Rattle.q_model.specs.Lists.{least}

-- ---- of those that pass

passing_step : {A : Type 0} (before : A → A → Bool) (b : Bool) (x : A) (xs : List A) →
    (if b then best_with before (Some x) (least before xs) else least before xs) ≡ least before (if b then x ∷ xs else xs)
passing_step before true x xs = refl
passing_step before false x xs = refl

pub passing_back : {A : Type 0} (before : A → A → Bool) (p : A → Bool) (xs : List A) (i : ℕ) (x : A) (best result : Option A) →
    0 < i → i ≤ length xs → x ≡ get_or xs (i - 1) x → best ≡ least before (filter p (drop i xs)) → result ≡ prefer p before x best →
    result ≡ least before (filter p (drop (i - 1) xs))
passing_back before p xs i x best result some within at is step =
    let next : i ≡ suc (i - 1) = omega arith in
    let lt : i - 1 < length xs = omega arith in
    step ∙ ap (prefer p before x) (is ∙ ap (λ n. least before (filter p (drop n xs))) next)
    ∙ passing_step before (p x) x (filter p (drop (suc (i - 1)) xs))
    ∙ ap (λ ys. least before (filter p ys)) (ap (λ y. y ∷ drop (suc (i - 1)) xs) at ∙ sym (drop-cons xs (i - 1) x lt))

-- ---- filters and maps in one

passed_by : {B : Type 0} (p : B → Bool) (y : B) (ys zs : List B) (b : Bool) → p y ≡ b → filter p ys ≡ zs → filter p (y ∷ ys) ≡ cons_option (if b then Some y else None) zs
passed_by p y ys zs true e h = ap (λ b. if b then y ∷ filter p ys else filter p ys) e ∙ ap (λ ws. y ∷ ws) h
passed_by p y ys zs false e h = ap (λ b. if b then y ∷ filter p ys else filter p ys) e ∙ h

passed_step : {B : Type 0} (p : B → Bool) (o : Option B) (ys zs : List B) → filter p ys ≡ zs → filter p (cons_option o ys) ≡ cons_option (option_and_then (λ y. if p y then Some y else None) o) zs
passed_step p None ys zs h = h
passed_step p (Some y) ys zs h = passed_by p y ys zs (p y) refl h

pub filter_given : {A B : Type 0} (p : B → Bool) (f : A → Option B) (xs : List A) → filter p (filter_map f xs) ≡ filter_map (λ x. option_and_then (λ y. if p y then Some y else None) (f x)) xs
filter_given p f [] = refl
filter_given p f (x ∷ xs) = passed_step p (f x) (filter_map f xs) (filter_map (λ z. option_and_then (λ y. if p y then Some y else None) (f z)) xs) (filter_given p f xs)

mapped_step : {A B : Type 0} (f : A → B) (x : A) (b : Bool) (xs : List A) (ys : List B) → map f xs ≡ ys → map f (if b then x ∷ xs else xs) ≡ cons_option (if b then Some (f x) else None) ys
mapped_step f x true xs ys h = ap (λ zs. f x ∷ zs) h
mapped_step f x false xs ys h = h

pub map_passing : {A B : Type 0} (f : A → B) (p : A → Bool) (xs : List A) → map f (filter p xs) ≡ filter_map (λ x. if p x then Some (f x) else None) xs
map_passing f p [] = refl
map_passing f p (x ∷ xs) = mapped_step f x (p x) (filter p xs) (filter_map (λ z. if p z then Some (f z) else None) xs) (map_passing f p xs)
