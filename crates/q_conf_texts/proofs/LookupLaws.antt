-- Which line decides, one pattern at a time.
use Rattle.std.proofs.Common.{◌≡◌, ◌≤◌, ◌++◌, ◌∷◌, ◌∙◌, [], ap, arith, get_or, length, List, map, None, Option, refl, Some, sym, ℕ}
use Rattle.std.specs.List.{cons_option, filter_map, slice_get}
use Rattle.std.specs.Option.{option_or}
use Rattle.std.specs.Prelude.{codes}
use Rattle.q_model.specs.Lists.{first_some}
use Rattle.q_model.specs.Texts.{domain_from, domain_of, lower}
use Rattle.q_transport.specs.Routing.{parents}
use Rattle.q_conf_texts.specs.Routes.{deciding_line, line_of_pattern}
use Rattle.q_conf_texts.proofs.CaseLaws.{again_bytes}

first_found : {B : Type 0} (o : Option B) (xs : List B) → slice_get (cons_option o xs) 0 ≡ option_or o (slice_get xs 0)
first_found None xs = refl
first_found (Some x) xs = refl

-- the first pattern, and then the others
pub first_then : {A B : Type 0} (f : A → Option B) (x : A) (xs : List A) → first_some f (x ∷ xs) ≡ option_or (f x) (first_some f xs)
first_then f x xs = first_found (f x) (filter_map f xs)

or_assoc : {A : Type 0} (a b c : Option A) → option_or a (option_or b c) ≡ option_or (option_or a b) c
or_assoc None b c = refl
or_assoc (Some x) b c = refl

first_append : {A B : Type 0} (f : A → Option B) (xs ys : List A) → first_some f (xs ++ ys) ≡ option_or (first_some f xs) (first_some f ys)
first_append f [] ys = refl
first_append f (x ∷ xs) ys =
    first_then f x (xs ++ ys) ∙ ap (option_or (f x)) (first_append f xs ys) ∙ or_assoc (f x) (first_some f xs) (first_some f ys)
    ∙ ap (λ o. option_or o (first_some f ys)) (sym (first_then f x xs))

or_none : {A : Type 0} (o : Option A) → option_or o None ≡ o
or_none None = refl
or_none (Some x) = refl

-- the address, its domain and the parents of that, `*`
deciding_is : (bytes address : List ℕ) → deciding_line bytes address
    ≡ option_or (line_of_pattern bytes (map lower address)) (option_or (first_some (line_of_pattern bytes) (domain_of address ∷ parents (domain_of address))) (line_of_pattern bytes (codes "*")))
deciding_is bytes address =
    let f = line_of_pattern bytes in
    let hosts = domain_of address ∷ parents (domain_of address) in
    first_then f (map lower address) (hosts ++ codes "*" ∷ [])
    ∙ ap (option_or (f (map lower address))) (first_append f hosts (codes "*" ∷ []) ∙ ap (option_or (first_some f hosts)) (first_then f (codes "*") [] ∙ or_none (f (codes "*"))))

lower_domain : (address : List ℕ) → map lower (domain_of address) ≡ domain_of address
lower_domain address = again_bytes (domain_from address [])

-- what the look-ups of an address, of its domain and of `*` give together
pub decided : (bytes address domain : List ℕ) (whole host star : Option ℕ) → domain ≡ domain_of address → whole ≡ line_of_pattern bytes (map lower address)
    → host ≡ first_some (line_of_pattern bytes) (map lower domain ∷ parents (map lower domain)) → star ≡ line_of_pattern bytes (codes "*")
    → option_or whole (option_or host star) ≡ deciding_line bytes address
decided bytes address domain whole host star d a b c = rw (a, b, c, d, lower_domain address) (sym (deciding_is bytes address))

-- a domain that begins with a dot is the first of its own parents
pub parent_here : (bytes rest : List ℕ) (found : ℕ) → 1 ≤ length rest → get_or rest 0 0 ≡ 46 → Some found ≡ line_of_pattern bytes (map lower rest)
    → Some found ≡ first_some (line_of_pattern bytes) (parents (map lower rest))
parent_here bytes [] found filled dot is = absurd (omega (arith, filled))
parent_here bytes (b ∷ others) found filled dot is =
    let begun : map lower (b ∷ others) ≡ 46 ∷ map lower others = ap (λ x. lower x ∷ map lower others) dot in
    let here : Some found ≡ line_of_pattern bytes (46 ∷ map lower others) = is ∙ ap (line_of_pattern bytes) begun in
    ap (λ o. option_or o (first_some (line_of_pattern bytes) (parents (map lower others)))) here
    ∙ sym (first_then (line_of_pattern bytes) (46 ∷ map lower others) (parents (map lower others)))
    ∙ ap (λ (x : List ℕ). first_some (line_of_pattern bytes) (parents x)) (sym begun)
