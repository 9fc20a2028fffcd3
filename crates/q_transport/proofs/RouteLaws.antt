-- Which entry decides, one pattern at a time.
use Rattle.std.proofs.Common.{◌≡◌, ◌++◌, ℕ, List, [], ◌∷◌, map, Option, Some, None, refl, sym, ap, ◌∙◌}
use Rattle.std.proofs.Math.Path.{fun_ext}
use Rattle.std.specs.Prelude.{codes, option_map}
use Rattle.std.specs.List.{cons_option, filter_map, slice_get}
use Rattle.std.specs.Option.{option_map_or, option_or}
use Rattle.q_model.specs.Lists.{first_some}
use Rattle.q_model.specs.Routes.{no_table}
use Rattle.q_model.specs.Texts.{domain_of, lower}
use Rattle.q_model.specs.Values.{Site}
use Rattle.q_transport.specs.Contents.{rule_of_pattern, empty_contents, Rule}
use Rattle.q_transport.specs.Entries.{target_at, target_of}
use Rattle.q_transport.specs.Names.{smtp}
use Rattle.q_transport.specs.Routing.{deciding, parents, patterns_of, site_by, table_of}
use Rattle.q_transport.specs.declared.entries.Target.{Target}

-- the first pattern, and then the others
first_found : {B : Type 0} (o : Option B) (xs : List B) → slice_get (cons_option o xs) 0 ≡ option_or o (slice_get xs 0)
first_found None xs = refl
first_found (Some x) xs = refl

first_then : {A B : Type 0} (f : A → Option B) (x : A) (xs : List A) → first_some f (x ∷ xs) ≡ option_or (f x) (first_some f xs)
first_then f x xs = first_found (f x) (filter_map f xs)

or_assoc : {A : Type 0} (a b c : Option A) → option_or a (option_or b c) ≡ option_or (option_or a b) c
or_assoc None b c = refl
or_assoc (Some x) b c = refl

first_append : {A B : Type 0} (f : A → Option B) (xs ys : List A) → first_some f (xs ++ ys) ≡ option_or (first_some f xs) (first_some f ys)
first_append f [] ys = refl
first_append f (x ∷ xs) ys =
    first_then f x (xs ++ ys) ∙ ap (option_or (f x)) (first_append f xs ys) ∙ or_assoc (f x) (first_some f xs) (first_some f ys)
    ∙ ap (λ o. option_or o (first_some f ys)) (sym (first_then f x xs))

or_none : {A : Type 0} (o : Option A) → option_or o None ≡ o
or_none None = refl
or_none (Some x) = refl

-- the target of the first entry that is found
or_target : (a b : Option Rule) → option_or (option_map target_of a) (option_map target_of b) ≡ option_map target_of (option_or a b)
or_target None b = refl
or_target (Some x) b = refl

first_target : (entries : List Rule) (patterns : List (List ℕ)) → first_some (target_at entries) patterns ≡ option_map target_of (first_some (rule_of_pattern entries) patterns)
first_target entries [] = refl
first_target entries (p ∷ ps) =
    first_then (target_at entries) p ps ∙ ap (option_or (target_at entries p)) (first_target entries ps)
    ∙ or_target (rule_of_pattern entries p) (first_some (rule_of_pattern entries) ps) ∙ ap (option_map target_of) (sym (first_then (rule_of_pattern entries) p ps))

-- the address, its domain and the parents of that, `*`
deciding_is : (entries : List Rule) (address : List ℕ) → option_map target_of (deciding entries address)
    ≡ option_or (target_at entries (map lower address)) (option_or (first_some (target_at entries) (domain_of address ∷ parents (domain_of address))) (target_at entries (codes "*")))
deciding_is entries address =
    let f = λ (pattern : List ℕ). target_at entries pattern in
    let hosts = domain_of address ∷ parents (domain_of address) in
    sym (first_target entries (patterns_of address)) ∙ first_then f (map lower address) (hosts ++ codes "*" ∷ [])
    ∙ ap (option_or (f (map lower address))) (first_append f hosts (codes "*" ∷ []) ∙ ap (option_or (first_some f hosts)) (first_then f (codes "*") [] ∙ or_none (f (codes "*"))))

pub decided : (entries : List Rule) (address domain : List ℕ) (whole host star : Option Target) → domain ≡ domain_of address → whole ≡ target_at entries (map lower address)
    → host ≡ first_some (target_at entries) (domain ∷ parents domain) → star ≡ target_at entries (codes "*")
    → option_or whole (option_or host star) ≡ option_map target_of (deciding entries address)
decided entries address domain whole host star d a b c = rw (a, b, c, d) (sym (deciding_is entries address))

-- without entries none decides
none_found : (xs : List (List ℕ)) → first_some (rule_of_pattern []) xs ≡ None
none_found [] = refl
none_found (x ∷ xs) = none_found xs

pub empty_table : table_of empty_contents ≡ no_table
empty_table =
    let route : (address : List ℕ) → (table_of empty_contents).route address ≡ no_table.route address = λ address.
    ap (λ o. option_map_or (site_by address) o (record { transport = 0; hop = domain_of address })) (none_found (patterns_of address)) in
    ap (λ (r : List ℕ → Site). record { transports = smtp ∷ []; route = r }) (fun_ext route)
