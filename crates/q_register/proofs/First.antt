-- The first of the members with the least rank, as the ranks show it.
use Rattle.std.proofs.Common.{◌≡◌, ℕ, ◌<◌, ◌≤◌, ap, sym, ◌∙◌, All, Bool, true, false, if◌then◌else◌, List, [], ◌∷◌, None, Option, Some, slice_get, suc, zero, refl, arith, length, nat_lt, replicate}
use Rattle.std.proofs.lemmas.Bool.{le-ltb, lt-ltb}
use Rattle.q_least.specs.Keys.{IsLeastAt, key_at, no_key}
use Rattle.q_register.specs.declared.member.Member.{Member}
use Rattle.q_register.specs.Members.{first_ranked, no_rank, sooner}
use Rattle.q_register.specs.Places.{members_of, rank_of, ranks_of, standing}

none_ranked : (n p : ℕ) → p < length (replicate n no_rank) → key_at (replicate n no_rank) p < no_rank → ⊥
none_ranked zero p within h = omega (arith, within)
none_ranked (suc n) zero within h = omega (arith, h)
none_ranked (suc n) (suc p) within h = none_ranked n p (omega (arith, within)) h

module _ {K T : Type 0} where
  -- no member has a rank below this one
  abbrev pub AreFrom : ℕ → List (Option (Member K T)) → Type 0
  AreFrom r [] = Unit {0}
  AreFrom r (x ∷ xs) = (r ≤ rank_of x) × AreFrom r xs

  -- where each is at the greatest rank, none is the first
  pub none_first : (xs : List (Option (Member K T))) → AreFrom no_rank xs → first_ranked (members_of xs) ≡ None
  none_first [] h = refl
  none_first (None ∷ xs) h = none_first xs h.1
  none_first (Some e ∷ xs) h = rw (none_first xs h.1) (rw (le-ltb e.rank no_rank h.0) refl)

  same_member : (x f : Member K T) → Some x ≡ Some f → x ≡ f
  same_member x f e = cc

  chosen : (r : ℕ) (x f : Member K T) (test : Bool) → r ≤ x.rank → (if test then Some x else None) ≡ Some f → r ≤ f.rank
  chosen r x f true h e = let same : x.rank ≡ f.rank = ap (λ (y : Member K T). y.rank) (same_member x f e) in omega (arith, same, h)
  chosen r x f false h e = absurd cc

  either : (r : ℕ) (x g f : Member K T) (test : Bool) → r ≤ x.rank → r ≤ g.rank → (if test then Some g else Some x) ≡ Some f → r ≤ f.rank
  either r x g f true h k e = let same : g.rank ≡ f.rank = ap (λ (y : Member K T). y.rank) (same_member g f e) in omega (arith, same, k)
  either r x g f false h k e = let same : x.rank ≡ f.rank = ap (λ (y : Member K T). y.rank) (same_member x f e) in omega (arith, same, h)

  sooner_from : (r : ℕ) (x : Member K T) (next : Option (Member K T)) (f : Member K T) → r ≤ x.rank → ((g : Member K T) → next ≡ Some g → r ≤ g.rank) → sooner x next ≡ Some f → r ≤ f.rank
  sooner_from r x None f h rest e = chosen r x f (nat_lt x.rank no_rank) h e
  sooner_from r x (Some g) f h rest e = either r x g f (nat_lt g.rank x.rank) h (rest g refl) e

  -- the first one has no lesser rank
  first_from : (r : ℕ) (xs : List (Option (Member K T))) (f : Member K T) → AreFrom r xs → first_ranked (members_of xs) ≡ Some f → r ≤ f.rank
  first_from r [] f h e = absurd cc
  first_from r (None ∷ xs) f h e = first_from r xs f h.1 e
  first_from r (Some x ∷ xs) f h e = sooner_from r x (first_ranked (members_of xs)) f h.0 (λ g is. first_from r xs g h.1 is) e

  -- it is the first of those behind it, and is before them
  stays_first : (e : Member K T) (next : Option (Member K T)) → e.rank < no_rank → ((g : Member K T) → next ≡ Some g → e.rank ≤ g.rank) → sooner e next ≡ Some e
  stays_first e None ranked rest = rw (lt-ltb e.rank no_rank ranked) refl
  stays_first e (Some g) ranked rest = rw (le-ltb g.rank e.rank (rest g refl)) refl

  -- of the places before this one each has a greater rank, of those from it on none a lesser
  abbrev pub IsFirstAt : ℕ → ℕ → List (Option (Member K T)) → Type 0
  IsFirstAt r p [] = Unit {0}
  IsFirstAt r zero (x ∷ xs) = AreFrom r (x ∷ xs)
  IsFirstAt r (suc p) (x ∷ xs) = (r < rank_of x) × IsFirstAt r p xs

  pub first_at : (xs : List (Option (Member K T))) (p : ℕ) (e : Member K T) → slice_get xs p ≡ Some (Some e) → e.rank < no_rank → IsFirstAt e.rank p xs → first_ranked (members_of xs) ≡ Some e
  first_at [] p e s ranked h = absurd cc
  first_at (None ∷ xs) zero e s ranked h = absurd cc
  first_at (Some f ∷ xs) zero e s ranked h =
      let same : f ≡ e = cc in
      let rest : AreFrom f.rank xs = rw same h.1 in
      stays_first f (first_ranked (members_of xs)) (rw same ranked) (λ g is. first_from f.rank xs g rest is) ∙ ap (λ (x : Member K T). Some x) same
  first_at (None ∷ xs) (suc p) e s ranked h = first_at xs p e s ranked h.1
  first_at (Some f ∷ xs) (suc p) e s ranked h = rw (first_at xs p e s ranked h.1) (rw (lt-ltb e.rank f.rank h.0) refl)

  -- what the ranks say of the places
  from_keys : (n r : ℕ) (xs : List (Option (Member K T))) → length xs ≤ n → ((j : ℕ) → j < length (ranks_of n xs) → r ≤ key_at (ranks_of n xs) j) → AreFrom r xs
  from_keys n r [] few h = tt
  from_keys zero r (x ∷ xs) few h = absurd (omega (arith, few))
  from_keys (suc n) r (x ∷ xs) few h = (h zero (omega arith), from_keys n r xs (omega (arith, few)) (λ j within. h (suc j) (omega (arith, within))))

  first_from_keys : (n p r : ℕ) (xs : List (Option (Member K T))) → length xs ≤ n → ((j : ℕ) → j < length (ranks_of n xs) → r ≤ key_at (ranks_of n xs) j) → ((j : ℕ) → j < p → r < key_at (ranks_of n xs) j) → IsFirstAt r p xs
  first_from_keys n p r [] few least before = tt
  first_from_keys zero p r (x ∷ xs) few least before = absurd (omega (arith, few))
  first_from_keys (suc n) zero r (x ∷ xs) few least before = from_keys (suc n) r (x ∷ xs) few least
  first_from_keys (suc n) (suc p) r (x ∷ xs) few least before = (before zero (omega arith), first_from_keys n p r xs (omega (arith, few)) (λ j within. least (suc j) (omega (arith, within))) (λ j earlier. before (suc j) (omega (arith, earlier))))

  -- a rank below the greatest is that of a member
  pub stands_ranked : (n p : ℕ) (xs : List (Option (Member K T))) → p < length (ranks_of n xs) → key_at (ranks_of n xs) p < no_rank → (e : Member K T) × (slice_get xs p ≡ Some (Some e)) × (e.rank ≡ key_at (ranks_of n xs) p)
  stands_ranked n p [] within h = absurd (none_ranked n p within h)
  stands_ranked zero p (x ∷ xs) within h = absurd (omega (arith, within))
  stands_ranked (suc n) zero (None ∷ xs) within h = absurd (omega (arith, h))
  stands_ranked (suc n) zero (Some e ∷ xs) within h = (e, refl, refl)
  stands_ranked (suc n) (suc p) (x ∷ xs) within h = stands_ranked n p xs (omega (arith, within)) h

  pub first_by_ranks : (n p : ℕ) (xs : List (Option (Member K T))) → length xs ≤ n → IsLeastAt (ranks_of n xs) p → key_at (ranks_of n xs) p < no_rank → standing (slice_get xs p) ≡ first_ranked (members_of xs)
  first_by_ranks n p xs few least ranked =
      let there = stands_ranked n p xs least.within ranked in
      let e = there.0 in
      let at : key_at (ranks_of n xs) p ≡ e.rank = sym there.2 in
      let first = first_from_keys n p e.rank xs few (λ j within. omega (arith, at, least.least j within)) (λ j earlier. omega (arith, at, least.first j earlier)) in
      ap standing there.1 ∙ sym (first_at xs p e there.1 (omega (arith, at, ranked)) first)

  all_none : (n : ℕ) (xs : List (Option (Member K T))) → length xs ≤ n → All (λ key. key ≡ no_key) (ranks_of n xs) → AreFrom no_rank xs
  all_none n [] few h = tt
  all_none zero (x ∷ xs) few h = absurd (omega (arith, few))
  all_none (suc n) (x ∷ xs) few h = (let here = h 0 0 (omega arith) in omega (arith, here), all_none n xs (omega (arith, few)) (λ i d within. h (suc i) d (omega (arith, within))))

  pub none_by_ranks : (n : ℕ) (xs : List (Option (Member K T))) → length xs ≤ n → All (λ key. key ≡ no_key) (ranks_of n xs) → first_ranked (members_of xs) ≡ None
  none_by_ranks n xs few h = none_first xs (all_none n xs few h)
