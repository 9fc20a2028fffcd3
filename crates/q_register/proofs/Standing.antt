-- The member under a key, where no other stands under it.
use Rattle.std.proofs.Common.{◌≡◌, ℕ, ◌+◌, ◌++◌, ap, sym, ◌∙◌, Bool, true, false, if◌then◌else◌, List, [], ◌∷◌, filter, find, map, None, Option, Some, set, suc, zero, refl, arith, length}
use Rattle.q_register.specs.declared.member.Member.{Member}
use Rattle.q_register.specs.Members.{changed, has_key, lacks_key}
use Rattle.q_register.specs.Places.{IsAbsent, IsSole, members_of, StandsAt}

module _ {K T : Type 0} where
  -- a member behind all others
  pub members-added : (xs : List (Option (Member K T))) (e : Member K T) → members_of (xs ++ Some e ∷ []) ≡ members_of xs ++ e ∷ []
  members-added [] e = refl
  members-added (None ∷ xs) e = members-added xs e
  members-added (Some f ∷ xs) e = ap (λ (es : List (Member K T)). f ∷ es) (members-added xs e)

  -- what stands there is one member
  pub stands_once : (x : Option (Member K T)) (e : Member K T) → Some x ≡ Some (Some e) → x ≡ Some e
  stands_once x e h = cc

  same_member : (x e : Member K T) → Some x ≡ Some e → x ≡ e
  same_member x e h = cc

  -- a member fewer
  pub one_fewer : (xs : List (Option (Member K T))) (p : ℕ) (e : Member K T) → StandsAt xs p e → length (members_of (set xs p None)) + 1 ≡ length (members_of xs)
  one_fewer [] p e s = cc
  one_fewer (None ∷ xs) zero e s = cc
  one_fewer (None ∷ xs) (suc p) e s = one_fewer xs p e s
  one_fewer (Some f ∷ xs) zero e s = omega arith
  one_fewer (Some f ∷ xs) (suc p) e s = omega (arith, one_fewer xs p e s)

  module _ (eq : K → K → Bool) (key : K) where
    absent_behind : (x : Option (Member K T)) (xs : List (Option (Member K T))) → IsAbsent eq key (x ∷ xs) → IsAbsent eq key xs
    absent_behind x xs h = λ q f s t. h (suc q) f s t

    sole_behind : (x : Option (Member K T)) (xs : List (Option (Member K T))) (p : ℕ) → IsSole eq key (x ∷ xs) (suc p) → IsSole eq key xs p
    sole_behind x xs p h = λ q f s t. let e = h (suc q) f s t in omega (arith, e)

    absent_from_sole : (x : Option (Member K T)) (xs : List (Option (Member K T))) → IsSole eq key (x ∷ xs) zero → IsAbsent eq key xs
    absent_from_sole x xs h = λ q f s t. let e = h (suc q) f s t in omega (arith, e)

    -- the first place isn't the one
    other_first : (f : Member K T) (xs : List (Option (Member K T))) (p : ℕ) → IsSole eq key (Some f ∷ xs) (suc p) → (b : Bool) → eq key f.key ≡ b → b ≡ false
    other_first f xs p h true t = let e = h zero f refl t in absurd (omega (arith, e))
    other_first f xs p h false t = refl

    not_first : (f : Member K T) (xs : List (Option (Member K T))) → IsAbsent eq key (Some f ∷ xs) → (b : Bool) → eq key f.key ≡ b → b ≡ false
    not_first f xs h true t = absurd (h zero f refl t)
    not_first f xs h false t = refl

    pub find_none : (xs : List (Option (Member K T))) → IsAbsent eq key xs → find (has_key eq key) (members_of xs) ≡ None
    find_none [] h = refl
    find_none (None ∷ xs) h = find_none xs (absent_behind None xs h)
    find_none (Some f ∷ xs) h = rw (not_first f xs h (eq key f.key) refl) (find_none xs (absent_behind (Some f) xs h))

    pub find_sole : (xs : List (Option (Member K T))) (p : ℕ) (e : Member K T) → StandsAt xs p e → eq key e.key ≡ true → IsSole eq key xs p → find (has_key eq key) (members_of xs) ≡ Some e
    find_sole [] p e s t h = absurd cc
    find_sole (None ∷ xs) zero e s t h = absurd cc
    find_sole (None ∷ xs) (suc p) e s t h = find_sole xs p e s t (sole_behind None xs p h)
    find_sole (Some f ∷ xs) zero e s t h =
        let same : Some f ≡ Some e = stands_once (Some f) e s in
        let on : eq key f.key ≡ true = ap (λ (x : Member K T). eq key x.key) (same_member f e same) ∙ t in
        rw on same
    find_sole (Some f ∷ xs) (suc p) e s t h = rw (other_first f xs p h (eq key f.key) refl) (find_sole xs p e s t (sole_behind (Some f) xs p h))

    pub filter_none : (xs : List (Option (Member K T))) → IsAbsent eq key xs → filter (lacks_key eq key) (members_of xs) ≡ members_of xs
    filter_none [] h = refl
    filter_none (None ∷ xs) h = filter_none xs (absent_behind None xs h)
    filter_none (Some f ∷ xs) h = rw (not_first f xs h (eq key f.key) refl) (ap (λ (es : List (Member K T)). f ∷ es) (filter_none xs (absent_behind (Some f) xs h)))

    -- the place is emptied
    pub filter_sole : (xs : List (Option (Member K T))) (p : ℕ) (e : Member K T) → StandsAt xs p e → eq key e.key ≡ true → IsSole eq key xs p → members_of (set xs p None) ≡ filter (lacks_key eq key) (members_of xs)
    filter_sole [] p e s t h = absurd cc
    filter_sole (None ∷ xs) zero e s t h = absurd cc
    filter_sole (None ∷ xs) (suc p) e s t h = filter_sole xs p e s t (sole_behind None xs p h)
    filter_sole (Some f ∷ xs) zero e s t h =
        let on : eq key f.key ≡ true = ap (λ (x : Member K T). eq key x.key) (same_member f e (stands_once (Some f) e s)) ∙ t in
        rw on (sym (filter_none xs (absent_from_sole (Some f) xs h)))
    filter_sole (Some f ∷ xs) (suc p) e s t h = rw (other_first f xs p h (eq key f.key) refl) (ap (λ (es : List (Member K T)). f ∷ es) (filter_sole xs p e s t (sole_behind (Some f) xs p h)))

    module _ (v : T) (r : ℕ) where
      pub map_none : (xs : List (Option (Member K T))) → IsAbsent eq key xs → map (changed eq key v r) (members_of xs) ≡ members_of xs
      map_none [] h = refl
      map_none (None ∷ xs) h = map_none xs (absent_behind None xs h)
      map_none (Some f ∷ xs) h = rw (not_first f xs h (eq key f.key) refl) (ap (λ (es : List (Member K T)). f ∷ es) (map_none xs (absent_behind (Some f) xs h)))

      -- another value is put at the place
      pub map_sole : (xs : List (Option (Member K T))) (p : ℕ) (e : Member K T) → StandsAt xs p e → eq key e.key ≡ true → IsSole eq key xs p → members_of (set xs p (Some (record { key = e.key; value = v; rank = r }))) ≡ map (changed eq key v r) (members_of xs)
      map_sole [] p e s t h = absurd cc
      map_sole (None ∷ xs) zero e s t h = absurd cc
      map_sole (None ∷ xs) (suc p) e s t h = map_sole xs p e s t (sole_behind None xs p h)
      map_sole (Some f ∷ xs) zero e s t h =
          let same = same_member f e (stands_once (Some f) e s) in
          let on : eq key f.key ≡ true = ap (λ (x : Member K T). eq key x.key) same ∙ t in
          let new : Member K T → Member K T = λ x. record { key = x.key; value = v; rank = r } in
          rw on (ap (λ (x : Member K T). new x ∷ members_of xs) (sym same) ∙ ap (λ (es : List (Member K T)). new f ∷ es) (sym (map_none xs (absent_from_sole (Some f) xs h))))
      map_sole (Some f ∷ xs) (suc p) e s t h = rw (other_first f xs p h (eq key f.key) refl) (ap (λ (es : List (Member K T)). f ∷ es) (map_sole xs p e s t (sole_behind (Some f) xs p h)))

    absent_behind_empty : (xs : List (Option (Member K T))) → IsAbsent eq key xs → IsAbsent eq key (None ∷ xs)
    absent_behind_empty xs h zero f s t = cc
    absent_behind_empty xs h (suc q) f s t = h q f s t

    absent_behind_unequal : (e : Member K T) (xs : List (Option (Member K T))) → eq key e.key ≡ false → IsAbsent eq key xs → IsAbsent eq key (Some e ∷ xs)
    absent_behind_unequal e xs here h zero f s t = let same = same_member e f (stands_once (Some e) f s) in let on : eq key e.key ≡ true = ap (λ (x : Member K T). eq key x.key) same ∙ t in cc
    absent_behind_unequal e xs here h (suc q) f s t = h q f s t

    unequal_first : (e : Member K T) (rest : Option (Member K T)) (test : Bool) → (if test then Some e else rest) ≡ None → (test ≡ false) × (rest ≡ None)
    unequal_first e rest true h = absurd cc
    unequal_first e rest false h = (refl, h)

    -- where none is found, none stands under the key
    pub absent_if_unfound : (xs : List (Option (Member K T))) → find (has_key eq key) (members_of xs) ≡ None → IsAbsent eq key xs
    absent_if_unfound [] h = λ q f s t. absurd cc
    absent_if_unfound (None ∷ xs) h = absent_behind_empty xs (absent_if_unfound xs h)
    absent_if_unfound (Some e ∷ xs) h =
        let first = unequal_first e (find (has_key eq key) (members_of xs)) (eq key e.key) h in
        absent_behind_unequal e xs first.0 (absent_if_unfound xs first.1)
