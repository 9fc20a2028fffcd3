-- A register of numbers stays like the sites, whatever it ranks them by.
use Rattle.std.proofs.Common.{◌≡◌, ◌∙◌, ◌++◌, ◌∷◌, [], ap, Bool, cond, false, List, map, None, Option, option_map, refl, Some, sym, true, ℕ}
use Rattle.std.proofs.lemmas.List.{map-append}
use Rattle.std.proofs.lemmas.Bool.{eqb-true}
use Rattle.std.specs.Prelude.{◌==◌, filter, find, nat_le, not}
use Rattle.q_dest.specs.Sound.{Numbers, numbers_by, ranked_at, ranked_by}
use Rattle.q_dest.specs.declared.dest.Dest.{Dest}
use Rattle.q_keyed.specs.Numbered.{AreApart, first_such, has_number, item_at, Items, Numbered, put_at, without_number}
use Rattle.q_chains.proofs.Numbers.{flipped}
use Rattle.q_register.specs.Members.{changed, has_key, lacks_key, ranks_within}
use Rattle.q_register.specs.declared.member.Member.{Member}

abbrev pub E : Type 0
E = Member ℕ (Unit {0})

abbrev pub K : Type 0
K = Numbered Dest

-- how numbers are compared
abbrev pub same_number : ℕ → ℕ → Bool
same_number a b = a == b

lacks_step : (b : Bool) (k : K) (o : Option K) → cond b (Some k) o ≡ None → (b ≡ false) × (o ≡ None)
lacks_step true k o h = cc
lacks_step false k o h = (refl, h)

put_lacking : (n : ℕ) (d : Dest) (ks : List K) → find (has_number n) ks ≡ None → map (put_at n d) ks ≡ ks
put_lacking n d [] h = refl
put_lacking n d (k ∷ ks) h =
    let parts = lacks_step (has_number n k) k (find (has_number n) ks) h in
    ap (λ b. cond b (record { number = n; item = d }) k ∷ map (put_at n d) ks) parts.0 ∙ ap (λ ls. k ∷ ls) (put_lacking n d ks parts.1)

own_step : (n : ℕ) (d : Dest) (k : K) (ks : List K) → find (has_number k.number) ks ≡ None → item_at n (k ∷ ks) ≡ Some d → (item_at n ks ≡ Some d → map (put_at n d) ks ≡ ks) → (b : Bool) → (k.number == n) ≡ b →
    cond b (record { number = n; item = d }) k ∷ map (put_at n d) ks ≡ k ∷ ks
own_step n d k ks apart h more true t =
    let own : Some k.item ≡ Some d = sym (ap (λ b. option_map (λ (k : K). k.item) (cond b (Some k) (find (has_number n) ks))) t) ∙ h in
    let same : k.item ≡ d = cc in
    let is = eqb-true k.number n t in
    ap (λ x. record { number = n; item = x } ∷ map (put_at n d) ks) (sym same)
    ∙ ap (λ m. record { number = m; item = k.item } ∷ map (put_at n d) ks) (sym is)
    ∙ ap (λ ls. k ∷ ls) (put_lacking n d ks (ap (λ m. find (has_number m) ks) (sym is) ∙ apart))
own_step n d k ks apart h more false t =
    ap (λ ls. k ∷ ls) (more (sym (ap (λ b. option_map (λ (k : K). k.item) (cond b (Some k) (find (has_number n) ks))) t) ∙ h))

-- the item that stands under a number is put there
pub put_own : (n : ℕ) (d : Dest) (ks : List K) → AreApart ks → item_at n ks ≡ Some d → map (put_at n d) ks ≡ ks
put_own n d [] apart h = refl
put_own n d (k ∷ ks) apart h = own_step n d k ks apart.0 h (put_own n d ks apart.1) (k.number == n) refl

module _ (rank : Dest → ℕ) where
  none_step : (b c : Bool) → b ≡ c → (k : K) (o : Option K) (e : E) (p : Option E) → (o ≡ None → p ≡ None) → cond b (Some k) o ≡ None → cond c (Some e) p ≡ None
  none_step true true same k o e p more h = cc
  none_step false false same k o e p more h = more h
  none_step true false same k o e p more h = cc
  none_step false true same k o e p more h = cc

  -- a number that none has isn't there
  pub fresh_number : (n : ℕ) (ks : List K) → find (has_number n) ks ≡ None → find (has_key same_number n) (map (ranked_by rank) ks) ≡ None
  fresh_number n [] h = refl
  fresh_number n (k ∷ ks) h =
      none_step (has_number n k) (n == k.number) (flipped k.number n) k (find (has_number n) ks) (ranked_by rank k) (find (has_key same_number n) (map (ranked_by rank) ks)) (fresh_number n ks) h

  left_step : (b : Bool) (k : K) (ks : List K) → map (ranked_by rank) (cond b (k ∷ ks) ks) ≡ cond b (ranked_by rank k ∷ map (ranked_by rank) ks) (map (ranked_by rank) ks)
  left_step true k ks = refl
  left_step false k ks = refl

  -- without a number
  pub left_ranked : (n : ℕ) (ks : List K) → filter (lacks_key same_number n) (map (ranked_by rank) ks) ≡ map (ranked_by rank) (without_number n ks)
  left_ranked n [] = refl
  left_ranked n (k ∷ ks) =
      ap (λ es. cond (not (n == k.number)) (ranked_by rank k ∷ es) es) (left_ranked n ks)
      ∙ ap (λ b. cond (not b) (ranked_by rank k ∷ map (ranked_by rank) (without_number n ks)) (map (ranked_by rank) (without_number n ks))) (flipped n k.number)
      ∙ sym (left_step (not (has_number n k)) k (without_number n ks))

  set_step : (b : Bool) (n : ℕ) (d : Dest) (k : K) → (k.number == n) ≡ b → cond b (record { key = k.number; value = tt; rank = rank d }) (ranked_by rank k) ≡ ranked_by rank (cond b (record { number = n; item = d }) k)
  set_step true n d k t = ap (λ m. record { key = m; value = tt; rank = rank d }) (eqb-true k.number n t)
  set_step false n d k t = refl

  -- with another site under a number
  pub set_ranked : (n : ℕ) (d : Dest) (ks : List K) → map (changed same_number n tt (rank d)) (map (ranked_by rank) ks) ≡ map (ranked_by rank) (map (put_at n d) ks)
  set_ranked n d [] = refl
  set_ranked n d (k ∷ ks) =
      ap (λ b. cond b (record { key = k.number; value = tt; rank = rank d }) (ranked_by rank k) ∷ map (changed same_number n tt (rank d)) (map (ranked_by rank) ks)) (flipped n k.number)
      ∙ ap (λ e. e ∷ map (changed same_number n tt (rank d)) (map (ranked_by rank) ks)) (set_step (k.number == n) n d k refl)
      ∙ ap (λ es. ranked_by rank (put_at n d k) ∷ es) (set_ranked n d ks)

  first_step : (b : Bool) (k : K) (o : Option E) (p : Option K) → option_map (λ (e : E). e.key) o ≡ option_map (λ (k : K). k.number) p →
      option_map (λ (e : E). e.key) (cond b (Some (ranked_by rank k)) o) ≡ option_map (λ (k : K). k.number) (cond b (Some k) p)
  first_step true k o p h = refl
  first_step false k o p h = h

  -- the first within a bound
  pub first_ranked : (bound : ℕ) (ks : List K) → option_map (λ (e : E). e.key) (find (ranks_within bound) (map (ranked_by rank) ks)) ≡ first_such (λ d. nat_le (rank d) bound) ks
  first_ranked bound [] = refl
  first_ranked bound (k ∷ ks) =
      first_step (nat_le (rank k.item) bound) k (find (ranks_within bound) (map (ranked_by rank) ks)) (find (λ k. nat_le (rank k.item) bound) ks) (first_ranked bound ks)

  -- The same of the whole register.
  module _ (dests : Items Dest) (numbers : Numbers) (are : numbers ≡ numbers_by rank dests) where
    pub more : (n : ℕ) (d : Dest) (e : E) → e ≡ record { key = n; value = tt; rank = rank d } →
        record numbers { items = numbers.items ++ e ∷ [] } ≡ numbers_by rank (record dests { items = dests.items ++ record { number = n; item = d } ∷ [] })
    more n d e is =
        ap (λ (x : Numbers). record x { items = x.items ++ e ∷ [] }) are
        ∙ ap (λ x. record { items = map (ranked_by rank) dests.items ++ x ∷ []; room = dests.room }) is
        ∙ ap (λ es. record { items = es; room = dests.room }) (sym (map-append (ranked_by rank) dests.items (record { number = n; item = d } ∷ [])))

    pub set : (n : ℕ) (d : Dest) (r : ℕ) → r ≡ rank d →
        record numbers { items = map (changed same_number n tt r) numbers.items } ≡ numbers_by rank (record dests { items = map (put_at n d) dests.items })
    set n d r is =
        ap (λ (x : Numbers). record x { items = map (changed same_number n tt r) x.items }) are
        ∙ ap (λ q. record { items = map (changed same_number n tt q) (map (ranked_by rank) dests.items); room = dests.room }) is
        ∙ ap (λ es. record { items = es; room = dests.room }) (set_ranked n d dests.items)

    -- the rank that a number has
    pub unset : (n : ℕ) (d : Dest) (r : ℕ) → r ≡ rank d → map (put_at n d) dests.items ≡ dests.items → ranked_at n r numbers ≡ numbers
    unset n d r is still = set n d r is ∙ ap (λ ks. numbers_by rank (record dests { items = ks })) still ∙ sym are

    pub less : (n : ℕ) → record numbers { items = filter (lacks_key same_number n) numbers.items } ≡ numbers_by rank (record dests { items = without_number n dests.items })
    less n =
        ap (λ (x : Numbers). record x { items = filter (lacks_key same_number n) x.items }) are
        ∙ ap (λ es. record { items = es; room = dests.room }) (left_ranked n dests.items)

    pub absent : (n : ℕ) → find (has_number n) dests.items ≡ None → find (has_key same_number n) numbers.items ≡ None
    absent n none = ap (λ (x : Numbers). find (has_key same_number n) x.items) are ∙ fresh_number n dests.items none

    pub first_number : (bound : ℕ) → option_map (λ (e : E). e.key) (find (ranks_within bound) numbers.items) ≡ first_such (λ d. nat_le (rank d) bound) dests.items
    first_number bound = ap (λ (x : Numbers). option_map (λ (e : E). e.key) (find (ranks_within bound) x.items)) are ∙ first_ranked bound dests.items
