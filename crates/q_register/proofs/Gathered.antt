-- Members that move together, and how many there are.
use Rattle.std.proofs.Common.{◌≡◌, ℕ, ◌+◌, ◌≤◌, Bool, true, false, if◌then◌else◌, List, [], ◌∷◌, ◌++◌, length, refl, sym, ap, ◌∙◌, arith, find, Option, Some, None, suc, zero, take}
use Rattle.std.proofs.lemmas.List.{take_more}
use Rattle.std.proofs.lemmas.Option.{get_or_from_slice_get, slice_get_within}
use Rattle.std.specs.Cmp.{IsEquivalence}
use Rattle.std.specs.Prelude.{slice_get}
use Rattle.q_register.specs.declared.member.Member.{Member}
use Rattle.q_register.specs.Members.{AreApart, has_key}
use Rattle.q_register.specs.Places.{ArePlacesApart, members_of}
use Rattle.q_register.proofs.Standing.{find_none}

-- the first isn't the one, nor any behind it
split : {X : Type 0} (e : X) (rest : Option X) (test : Bool) → (if test then Some e else rest) ≡ None → (test ≡ false) × (rest ≡ None)
split e rest true h = cc
split e rest false h = (refl, h)

module _ {K T : Type 0} where
  pub gathered : (i : ℕ) (xs : List (Option (Member K T))) (o : Option (Member K T)) → slice_get xs i ≡ Some o → members_of (take (suc i) xs) ≡ members_of (take i xs) ++ members_of (o ∷ [])
  gathered i [] o h = cc
  gathered zero (None ∷ xs) o h = let same : None ≡ o = cc in ap (λ (k : Option (Member K T)). members_of (k ∷ [])) same
  gathered zero (Some x ∷ xs) o h = let same : Some x ≡ o = cc in ap (λ (k : Option (Member K T)). members_of (k ∷ [])) same
  gathered (suc i) (None ∷ xs) o h = gathered i xs o h
  gathered (suc i) (Some x ∷ xs) o h = ap (λ (es : List (Member K T)). x ∷ es) (gathered i xs o h)

  pub fewer : (i : ℕ) (xs : List (Option (Member K T))) → length (members_of (take i xs)) ≤ length (members_of xs)
  fewer zero xs = omega arith
  fewer (suc i) [] = omega arith
  fewer (suc i) (None ∷ xs) = fewer i xs
  fewer (suc i) (Some x ∷ xs) = omega (arith, fewer i xs)

  pub no_more : (xs : List (Option (Member K T))) → length (members_of xs) ≤ length xs
  no_more [] = omega arith
  no_more (None ∷ xs) = omega (arith, no_more xs)
  no_more (Some x ∷ xs) = omega (arith, no_more xs)

  module _ (eq : K → K → Bool) where
    apart_behind : (x : Option (Member K T)) (xs : List (Option (Member K T))) → ArePlacesApart eq (x ∷ xs) → ArePlacesApart eq xs
    apart_behind x xs h = λ p q e f s t same. let both = h (suc p) (suc q) e f s t same in omega (arith, both)

    -- of places that are apart the members are
    pub apart_members : (xs : List (Option (Member K T))) → ArePlacesApart eq xs → AreApart eq (members_of xs)
    apart_members [] h = tt
    apart_members (None ∷ xs) h = apart_members xs (apart_behind None xs h)
    apart_members (Some e ∷ xs) h = (
      find_none eq e.key xs (λ q f s t. let both = h zero (suc q) e f refl s t in omega (arith, both)),
      apart_members xs (apart_behind (Some e) xs h),
    )

    -- none is found, so none has the key
    none_has : (key : K) (es : List (Member K T)) → find (has_key eq key) es ≡ None → (i : ℕ) (f : Member K T) → slice_get es i ≡ Some f → eq key f.key ≡ false
    none_has key [] h i f s = cc
    none_has key (e ∷ es) h zero f s = let same : e ≡ f = cc in ap (λ (x : Member K T). eq key x.key) (sym same) ∙ (split e (find (has_key eq key) es) (eq key e.key) h).0
    none_has key (e ∷ es) h (suc i) f s = none_has key es (split e (find (has_key eq key) es) (eq key e.key) h).1 i f s

  -- a member isn't under the key of one before it
  pub apart_before : (eq : K → K → Bool) → IsEquivalence eq → (es : List (Member K T)) (i : ℕ) (f : Member K T) → AreApart eq es → slice_get es i ≡ Some f → find (has_key eq f.key) (take i es) ≡ None
  apart_before eq laws es zero f h s = refl
  apart_before eq laws [] (suc i) f h s = cc
  apart_before eq laws (e ∷ es) (suc i) f h s =
      let other : eq f.key e.key ≡ false = laws.symm f.key e.key ∙ none_has eq e.key es h.0 i f s in
      rw other (apart_before eq laws es i f h.1 s)

pub one_more : {X : Type 0} (xs : List X) (i : ℕ) (x : X) → slice_get xs i ≡ Some x → take (i + 1) xs ≡ take i xs ++ x ∷ []
one_more xs i x h = take_more xs i x (slice_get_within xs i x h) ∙ ap (λ y. take i xs ++ y ∷ []) (get_or_from_slice_get xs i x x h)
