-- The places at which a test passes are as many as the elements that pass it.
use Rattle.std.proofs.Common.{◌≡◌, ℕ, ◌+◌, Bool, true, false, cond, List, [], ◌∷◌, length, map, refl, ap, ◌∙◌, arith}
use Rattle.std.specs.List.{list_any}
use Rattle.std.specs.Prelude.{◌||◌, count_by, if◌then◌else◌}
use Rattle.std.proofs.lemmas.List.Sums.{sum_by-cons}
use Rattle.q_model.specs.Lists.{places_from}

one_more : (b : Bool) (n : ℕ) (ns : List ℕ) (k : ℕ) → k ≡ length ns → cond b 1 0 + k ≡ length (if b then n ∷ ns else ns)
one_more true n ns k e = omega (arith, e)
one_more false n ns k e = omega (arith, e)

pub count_places : {A : Type 0} (test : A → Bool) (n : ℕ) (xs : List A) → count_by test xs ≡ length (places_from n (λ i x. test x) xs)
count_places test n [] = refl
count_places test n (x ∷ xs) =
    sum_by-cons (λ y. cond (test y) 1 0) x xs
    ∙ one_more (test x) n (places_from (n + 1) (λ i y. test y) xs) (count_by test xs) (count_places test (n + 1) xs)

pub any_map : {X Y : Type 0} (p : Y → Bool) (f : X → Y) (xs : List X) → list_any p (map f xs) ≡ list_any (λ x. p (f x)) xs
any_map p f [] = refl
any_map p f (x ∷ xs) = ap (λ b. p (f x) || b) (any_map p f xs)
