-- What the names and entries of a table keep.
use Rattle.std.proofs.Common.{◌≡◌, ◌≤◌, ◌<◌, ◌+◌, ◌++◌, ℕ, true, false, Bool, List, [], ◌∷◌, length, Option, Some, None, refl, sym, cond, arith, length-append}
use Rattle.std.specs.Prelude.{◌==◌, nat_lt, find, option_map}
use Rattle.std.specs.List.{cons_option, filter_map, list_all, slice_get}
use Rattle.std.specs.Option.{option_map_or}
use Rattle.std.proofs.lemmas.Bool.{and_from, and_parts, cond_both, lt-ltb, ltb-true}
use Rattle.std.proofs.lemmas.Option.{same_Some}
use Rattle.q_model.specs.Lists.{first_some}
use Rattle.q_model.specs.Texts.{is_hop}
use Rattle.q_transport.specs.Contents.{AreContents, rule_of_pattern, is_rule, Rule}
use Rattle.q_transport.specs.Entries.{target_of}
use Rattle.q_transport.specs.Names.{number_of, with_name}
use Rattle.q_transport.specs.Routing.{deciding, patterns_of}
use Rattle.q_transport.specs.Texts.{is_transport}
use Rattle.q_transport.specs.declared.entries.Target.{Target}
use Rattle.q_transport.proofs.NumberLaws.{names_with}

below_more : (m n : ℕ) → m ≤ n → (entries : List Rule) → list_all (is_rule m) entries ≡ true → list_all (is_rule n) entries ≡ true
below_more m n le [] h = refl
below_more m n le (entry ∷ entries) h =
    let (here, rest) = and_parts (is_rule m entry) (list_all (is_rule m) entries) h in
    let (below, hop) = and_parts (nat_lt entry.transport m) (option_map_or is_hop entry.hop true) here in
    and_from (is_rule n entry) (list_all (is_rule n) entries)
    (and_from (nat_lt entry.transport n) (option_map_or is_hop entry.hop true) (lt-ltb entry.transport n (omega (arith, le, ltb-true entry.transport m below))) hop)
    (below_more m n le entries rest)

pub with_new_name : (names : List (List ℕ)) (entries : List Rule) (name : List ℕ) → AreContents (record { names = names; entries = entries }) → length names < 20
    → is_transport name ≡ true → number_of names name ≡ length names → AreContents (record { names = names ++ name ∷ []; entries = entries })
with_new_name names entries name h few form new =
    let more : length (names ++ name ∷ []) ≡ length names + 1 = length-append names (name ∷ []) in
    record {
      few = omega (arith, more, few);
      names = names_with names name h.names form new;
      entries = below_more (length names) (length (names ++ name ∷ [])) (omega (arith, more)) entries h.entries;
    }

-- what is found passes what all pass
found_now : {A : Type 0} (passes : A → Bool) (b : Bool) (o : Option A) (y x : A) → passes y ≡ true → (o ≡ Some x → passes x ≡ true) → cond b (Some y) o ≡ Some x → passes x ≡ true
found_now passes true o y x here later e = rw (sym (same_Some y x e)) here
found_now passes false o y x here later e = later e

found_passes : {A : Type 0} (test passes : A → Bool) (xs : List A) (x : A) → list_all passes xs ≡ true → find test xs ≡ Some x → passes x ≡ true
found_passes test passes [] x h e = cc
found_passes test passes (y ∷ ys) x h e =
    let (here, rest) = and_parts (passes y) (list_all passes ys) h in
    found_now passes (test y) (find test ys) y x here (found_passes test passes ys x rest) e

chosen_now : (passes : Rule → Bool) (o : Option Rule) (xs : List Rule) (x : Rule) → (o ≡ Some x → passes x ≡ true) → (slice_get xs 0 ≡ Some x → passes x ≡ true) → slice_get (cons_option o xs) 0 ≡ Some x → passes x ≡ true
chosen_now passes None xs x now later e = later e
chosen_now passes (Some y) xs x now later e = now e

chosen_passes : {A : Type 0} (f : A → Option Rule) (passes : Rule → Bool) → ((a : A) (x : Rule) → f a ≡ Some x → passes x ≡ true) → (xs : List A) (x : Rule) → first_some f xs ≡ Some x → passes x ≡ true
chosen_passes f passes h [] x e = cc
chosen_passes f passes h (a ∷ xs) x e = chosen_now passes (f a) (filter_map f xs) x (h a x) (chosen_passes f passes h xs x) e

-- the entry that decides is one of them
pub decided_rule : (entries : List Rule) (address : List ℕ) (n : ℕ) (entry : Rule) → list_all (is_rule n) entries ≡ true → deciding entries address ≡ Some entry
    → (entry.transport < n) × (option_map_or is_hop entry.hop true ≡ true)
decided_rule entries address n entry all e =
    let (below, hop) = and_parts (nat_lt entry.transport n) (option_map_or is_hop entry.hop true)
    (chosen_passes (rule_of_pattern entries) (is_rule n) (λ pattern x k. found_passes _ (is_rule n) entries x all k) (patterns_of address) entry e) in
    (ltb-true entry.transport n below, hop)

decided_as : (o : Option Rule) (n : ℕ) (target : Target) → ((entry : Rule) → o ≡ Some entry → (entry.transport < n) × (option_map_or is_hop entry.hop true ≡ true)) → Some target ≡ option_map target_of o
    → (target.transport < n) × (option_map_or is_hop target.hop true ≡ true)
decided_as None n target each e = cc
decided_as (Some entry) n target each e = rw (same_Some target (target_of entry) e) (each entry refl)

-- where an address goes by the entry that decides
pub decided_target : (entries : List Rule) (address : List ℕ) (n : ℕ) (target : Target) → list_all (is_rule n) entries ≡ true → Some target ≡ option_map target_of (deciding entries address)
    → (target.transport < n) × (option_map_or is_hop target.hop true ≡ true)
decided_target entries address n target all e = decided_as (deciding entries address) n target (λ entry. decided_rule entries address n entry all) e

-- a name adds itself at most
pub with_name_longer : (names : List (List ℕ)) (name : List ℕ) → length names ≤ length (with_name names name)
with_name_longer names name =
    cond_both (number_of names name == length names) (names ++ name ∷ []) names (λ (xs : List (List ℕ)). length names ≤ length xs) (λ _. omega (arith, length-append names (name ∷ []))) (λ _. omega arith)
