-- Searches for the least, from the end of a list.
use Rattle.std.proofs.Common.{◌≡◌, ℕ, suc, ◌+◌, ◌-◌, ◌<◌, Bool, true, false, cond, List, [], ◌∷◌, map, refl, ap, ◌∙◌, subst, arith, Option, Some, None, option_map}
use Rattle.std.specs.Option.{option_or}
use Rattle.std.specs.Prelude.{filter, if◌then◌else◌}
use Rattle.std.specs.Prelude.{◌&&◌}
use Rattle.std.specs.List.{list_all}
use Rattle.q_core.specs.Choosing.{choice_in, choices_from}
use Rattle.q_core.specs.Lists.{better_of}
use Rattle.q_core.specs.declared.decision.Decision.{Decision}
use Rattle.q_core.specs.declared.state.Core.{Core}
use Rattle.q_model.specs.Lists.{least}

abbrev least_of : {A : Type 0} → (A → A → Bool) → A → Option A → Option A
least_of before x o = Some (better_of before x o)

choices_at : (c : Core) (t n : ℕ) → t < n → choices_from c t (n - t) ≡ option_or (choice_in c t) (choices_from c (t + 1) (n - (t + 1)))
choices_at c t n h = let e : n - t ≡ suc (n - (t + 1)) = omega arith in ap (choices_from c t) e

pub chosen_some : (c : Core) (t n : ℕ) (d : Decision) → t < n → choice_in c t ≡ Some d → choices_from c t (n - t) ≡ Some d
chosen_some c t n d h e = choices_at c t n h ∙ ap (λ o. option_or o (choices_from c (t + 1) (n - (t + 1)))) e

pub chosen_none : (c : Core) (t n : ℕ) → t < n → choice_in c t ≡ None → choices_from c t (n - t) ≡ choices_from c (t + 1) (n - (t + 1))
chosen_none c t n h e = choices_at c t n h ∙ ap (λ o. option_or o (choices_from c (t + 1) (n - (t + 1)))) e

picked : {A B : Type 0} (f : A → B) (b : Bool) (y x : A) → (if b then f y else f x) ≡ f (if b then y else x)
picked f true y x = refl
picked f false y x = refl

either : {A : Type 0} (q : A → Bool) (b : Bool) (y x : A) → q y ≡ true → q x ≡ true → q (if b then y else x) ≡ true
either q true y x hy hx = hy
either q false y x hy hx = hx

least_step : {A B : Type 0} (before : B → B → Bool) (f : A → B) (x : A) (o : Option A) → least_of before (f x) (option_map f o) ≡ option_map f (least_of (λ a b. before (f a) (f b)) x o)
least_step before f x None = refl
least_step before f x (Some y) = ap Some (picked f (before (f y) (f x)) y x)

pub least-map : {A B : Type 0} (before : B → B → Bool) (f : A → B) (xs : List A) → least before (map f xs) ≡ option_map f (least (λ a b. before (f a) (f b)) xs)
least-map before f [] = refl
least-map before f (x ∷ xs) = ap (least_of before (f x)) (least-map before f xs) ∙ least_step before f x (least (λ a b. before (f a) (f b)) xs)

-- the least is one of those that all pass
least_of_all : {A : Type 0} (before : A → A → Bool) (q : A → Bool) (x : A) (o : Option A) (y : A) → q x ≡ true → ((z : A) → o ≡ Some z → q z ≡ true) → least_of before x o ≡ Some y → q y ≡ true
least_of_all before q x None y h rest e = let same : x ≡ y = cc in subst (λ z. q z ≡ true) same h
least_of_all before q x (Some z) y h rest e = let same : (if before z x then z else x) ≡ y = cc in subst (λ v. q v ≡ true) same (either q (before z x) z x (rest z refl) h)

and_parts : (a b : Bool) → (a && b) ≡ true → (a ≡ true) × (b ≡ true)
and_parts true b h = (refl, h)
and_parts false b h = cc

pub least-all : {A : Type 0} (before : A → A → Bool) (q : A → Bool) (xs : List A) (y : A) → list_all q xs ≡ true → least before xs ≡ Some y → q y ≡ true
least-all before q [] y h e = cc
least-all before q (x ∷ xs) y h e =
    let parts = and_parts (q x) (list_all q xs) h in
    least_of_all before q x (least before xs) y parts.0 (λ z g. least-all before q xs z parts.1 g) e

-- orders that agree on those that pass give the same
least_same_step : {A : Type 0} (before after : A → A → Bool) (q : A → Bool) → ((a b : A) → q a ≡ true → q b ≡ true → before a b ≡ after a b) → (x : A) (o : Option A) →
    q x ≡ true → ((z : A) → o ≡ Some z → q z ≡ true) → least_of before x o ≡ least_of after x o
least_same_step before after q h x None e rest = refl
least_same_step before after q h x (Some z) e rest = ap (λ b. Some (if b then z else x)) (h z x (rest z refl) e)

pub least-same : {A : Type 0} (before after : A → A → Bool) (q : A → Bool) → ((a b : A) → q a ≡ true → q b ≡ true → before a b ≡ after a b) → (xs : List A) → list_all q xs ≡ true → least before xs ≡ least after xs
least-same before after q h [] all = refl
least-same before after q h (x ∷ xs) all =
    let parts = and_parts (q x) (list_all q xs) all in
    least_same_step before after q h x (least before xs) parts.0 (λ z g. least-all before q xs z parts.1 g)
    ∙ ap (least_of after x) (least-same before after q h xs parts.1)

all_kept : {A : Type 0} (q : A → Bool) (b : Bool) (x : A) (xs : List A) → q x ≡ true → list_all q xs ≡ true → list_all q (cond b (x ∷ xs) xs) ≡ true
all_kept q true x xs h rest = ap (λ v. v && list_all q xs) h ∙ rest
all_kept q false x xs h rest = rest

pub list_all-filter : {A : Type 0} (q p : A → Bool) (xs : List A) → list_all q xs ≡ true → list_all q (filter p xs) ≡ true
list_all-filter q p [] h = refl
list_all-filter q p (x ∷ xs) h = let parts = and_parts (q x) (list_all q xs) h in all_kept q (p x) x (filter p xs) parts.0 (list_all-filter q p xs parts.1)
