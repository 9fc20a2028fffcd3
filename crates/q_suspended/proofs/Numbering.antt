-- The register of numbers stays like the sites.
use Rattle.std.proofs.Common.{◌≡◌, ◌∙◌, ◌++◌, ◌∷◌, [], ap, Bool, cond, false, List, map, None, Option, option_map, refl, Some, sym, true, ℕ}
use Rattle.std.proofs.lemmas.List.{map-append}
use Rattle.std.specs.Prelude.{◌==◌, filter, find, not}
use Rattle.q_chains.proofs.Numbers.{flipped}
use Rattle.q_keyed.specs.Numbered.{first_such, has_number, Items, Numbered, without_number}
use Rattle.q_register.specs.Members.{has_key, lacks_key, ranks_within}
use Rattle.q_register.specs.declared.member.Member.{Member}
use Rattle.q_suspended.specs.Sound.{number_of, Numbers, numbers_of}
use Rattle.q_suspended.specs.Suspensions.{is_due}
use Rattle.q_suspended.specs.declared.suspension.Suspension.{Suspension}

abbrev pub E : Type 0
E = Member ℕ (Unit {0})

abbrev pub K : Type 0
K = Numbered Suspension

-- how numbers are compared
abbrev pub same_number : ℕ → ℕ → Bool
same_number a b = a == b

none_step : (b c : Bool) → b ≡ c → (k : K) (o : Option K) (e : E) (p : Option E) → (o ≡ None → p ≡ None) → cond b (Some k) o ≡ None → cond c (Some e) p ≡ None
none_step true true same k o e p more h = cc
none_step false false same k o e p more h = more h
none_step true false same k o e p more h = cc
none_step false true same k o e p more h = cc

-- a number that none has isn't there
fresh_number : (n : ℕ) (ks : List K) → find (has_number n) ks ≡ None → find (has_key same_number n) (map number_of ks) ≡ None
fresh_number n [] h = refl
fresh_number n (k ∷ ks) h =
    none_step (has_number n k) (n == k.number) (flipped k.number n) k (find (has_number n) ks) (number_of k) (find (has_key same_number n) (map number_of ks)) (fresh_number n ks) h

left_step : (b : Bool) (k : K) (ks : List K) → map number_of (cond b (k ∷ ks) ks) ≡ cond b (number_of k ∷ map number_of ks) (map number_of ks)
left_step true k ks = refl
left_step false k ks = refl

-- without a number
left_ranked : (n : ℕ) (ks : List K) → filter (lacks_key same_number n) (map number_of ks) ≡ map number_of (without_number n ks)
left_ranked n [] = refl
left_ranked n (k ∷ ks) =
    ap (λ es. cond (not (n == k.number)) (number_of k ∷ es) es) (left_ranked n ks)
    ∙ ap (λ b. cond (not b) (number_of k ∷ map number_of (without_number n ks)) (map number_of (without_number n ks))) (flipped n k.number)
    ∙ sym (left_step (not (has_number n k)) k (without_number n ks))

first_step : (b : Bool) (k : K) (o : Option E) (p : Option K) → option_map (λ (e : E). e.key) o ≡ option_map (λ (k : K). k.number) p →
    option_map (λ (e : E). e.key) (cond b (Some (number_of k)) o) ≡ option_map (λ (k : K). k.number) (cond b (Some k) p)
first_step true k o p h = refl
first_step false k o p h = h

-- the first whose moment has come
first_ranked : (moment : ℕ) (ks : List K) → option_map (λ (e : E). e.key) (find (ranks_within moment) (map number_of ks)) ≡ first_such (is_due moment) ks
first_ranked moment [] = refl
first_ranked moment (k ∷ ks) =
    first_step (is_due moment k.item) k (find (ranks_within moment) (map number_of ks)) (find (λ k. is_due moment k.item) ks) (first_ranked moment ks)

-- The same of the whole register.
module _ (sites : Items Suspension) (numbers : Numbers) (are : numbers ≡ numbers_of sites) where
  pub more : (n : ℕ) (s : Suspension) →
      record numbers { items = numbers.items ++ record { key = n; value = tt; rank = s.until } ∷ [] } ≡ numbers_of (record sites { items = sites.items ++ record { number = n; item = s } ∷ [] })
  more n s =
      ap (λ (x : Numbers). record x { items = x.items ++ record { key = n; value = tt; rank = s.until } ∷ [] }) are
      ∙ ap (λ es. record { items = es; room = sites.room }) (sym (map-append number_of sites.items (record { number = n; item = s } ∷ [])))

  pub less : (n : ℕ) → record numbers { items = filter (lacks_key same_number n) numbers.items } ≡ numbers_of (record sites { items = without_number n sites.items })
  less n =
      ap (λ (x : Numbers). record x { items = filter (lacks_key same_number n) x.items }) are
      ∙ ap (λ es. record { items = es; room = sites.room }) (left_ranked n sites.items)

  pub absent : (n : ℕ) → find (has_number n) sites.items ≡ None → find (has_key same_number n) numbers.items ≡ None
  absent n none = ap (λ (x : Numbers). find (has_key same_number n) x.items) are ∙ fresh_number n sites.items none

  pub first_number : (moment : ℕ) → option_map (λ (e : E). e.key) (find (ranks_within moment) numbers.items) ≡ first_such (is_due moment) sites.items
  first_number moment = ap (λ (x : Numbers). option_map (λ (e : E). e.key) (find (ranks_within moment) x.items)) are ∙ first_ranked moment sites.items
