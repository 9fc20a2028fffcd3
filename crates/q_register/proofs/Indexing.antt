-- The index follows what happens to the places.
use Rattle.std.proofs.Common.{◌≡◌, ◌≢◌, ℕ, ◌++◌, ◌+◌, ◌<◌, ap, sym, ◌∙◌, Bool, true, false, List, [], ◌∷◌, None, Option, Some, slice_get, set, suc, zero, refl, arith, length, length-append, subst, inl, inr}
use Rattle.std.proofs.lemmas.Bool.{cases_eq}
use Rattle.std.specs.Cmp.{IsEquivalence}
use Rattle.std.proofs.lemmas.List.{length-set}
use Rattle.std.specs.HashMap.{get, IsEmpty, Updates}
use Rattle.std.specs.Map.{lookup}
use Rattle.indexmap.specs.IndexMap.{IndexMap}
use Rattle.q_register.specs.declared.member.Member.{Member}
use Rattle.q_register.specs.Places.{ArePlacesApart, IsAbsent, IsFound, IsIndexed, IsSole, StandsAt}

-- what two places or two answers say of one another
same_place : (q p : ℕ) → Some q ≡ Some p → q ≡ p
same_place q p e = cc

other : (test : Bool) → (test ≡ true → ⊥) → test ≡ false
other true h = absurd (h refl)
other false h = refl

module _ {K : Type 0} (eq : K → K → Bool) (laws : IsEquivalence eq) where
  back : (k a : K) → eq k a ≡ true → eq a k ≡ true
  back k a h = laws.symm a k ∙ h

  on : (k a b : K) → eq k a ≡ true → eq a b ≡ true → eq k b ≡ true
  on k a b h t = laws.congr k a b h ∙ t

module _ {K T : Type 0} where
  -- what stands at a place of a longer list
  stands_before : (xs : List (Option (Member K T))) (x : Option (Member K T)) (p : ℕ) (e : Member K T) → p < length xs → StandsAt (xs ++ x ∷ []) p e → StandsAt xs p e
  stands_before [] x p e h s = absurd (omega (arith, h))
  stands_before (y ∷ xs) x zero e h s = s
  stands_before (y ∷ xs) x (suc p) e h s = stands_before xs x p e (omega (arith, h)) s

  stands_last : (xs : List (Option (Member K T))) (e : Member K T) → StandsAt (xs ++ Some e ∷ []) (length xs) e
  stands_last [] e = refl
  stands_last (y ∷ xs) e = stands_last xs e

  is_last : (xs : List (Option (Member K T))) (x e : Member K T) → StandsAt (xs ++ Some x ∷ []) (length xs) e → x ≡ e
  is_last [] x e s = cc
  is_last (y ∷ xs) x e s = is_last xs x e s

  within_added : (xs : List (Option (Member K T))) (x : Option (Member K T)) (p : ℕ) (e : Member K T) → StandsAt (xs ++ x ∷ []) p e → p ≢ length xs → p < length xs
  within_added [] x zero e s h = absurd (h refl)
  within_added [] x (suc p) e s h = absurd cc
  within_added (y ∷ xs) x zero e s h = omega arith
  within_added (y ∷ xs) x (suc p) e s h = let rest = within_added xs x p e s (λ i. h (omega (arith, i))) in omega (arith, rest)

  pub stands_within : (xs : List (Option (Member K T))) (p : ℕ) (e : Member K T) → StandsAt xs p e → p < length xs
  stands_within [] p e s = absurd cc
  stands_within (y ∷ xs) zero e s = omega arith
  stands_within (y ∷ xs) (suc p) e s = let rest = stands_within xs p e s in omega (arith, rest)

  stands_other : (xs : List (Option (Member K T))) (p q : ℕ) (x : Option (Member K T)) (f : Member K T) → q ≢ p → StandsAt (set xs p x) q f → StandsAt xs q f
  stands_other [] p q x f h s = s
  stands_other (y ∷ xs) zero zero x f h s = absurd (h refl)
  stands_other (y ∷ xs) zero (suc q) x f h s = s
  stands_other (y ∷ xs) (suc p) zero x f h s = s
  stands_other (y ∷ xs) (suc p) (suc q) x f h s = stands_other xs p q x f (λ i. h (omega (arith, i))) s

  put_there : (xs : List (Option (Member K T))) (p : ℕ) (e x f : Member K T) → StandsAt xs p e → StandsAt (set xs p (Some x)) p f → x ≡ f
  put_there [] p e x f s t = absurd cc
  put_there (y ∷ xs) zero e x f s t = cc
  put_there (y ∷ xs) (suc p) e x f s t = put_there xs p e x f s t

  still : (xs : List (Option (Member K T))) (p q : ℕ) (f : Member K T) → StandsAt (set xs p None) q f → StandsAt xs q f
  still [] p q f s = s
  still (y ∷ xs) zero zero f s = absurd cc
  still (y ∷ xs) zero (suc q) f s = s
  still (y ∷ xs) (suc p) zero f s = s
  still (y ∷ xs) (suc p) (suc q) f s = still xs p q f s

  module _ {S : Type 0} (eq : K → K → Bool) (laws : IsEquivalence eq) where
    pub absent : (xs : List (Option (Member K T))) (index : IndexMap K ℕ S) (key : K) → IsIndexed eq xs index → get eq index key ≡ None → IsAbsent eq key xs
    absent xs index key h none = λ q f s t. let e = h.members q f s key t in absurd cc

    -- the member went
    pub absent_from_place : (xs : List (Option (Member K T))) (index : IndexMap K ℕ S) (key : K) (p : ℕ) → IsIndexed eq xs index → get eq index key ≡ Some p → slice_get xs p ≡ Some None → IsAbsent eq key xs
    absent_from_place xs index key p h at empty = λ q f s t.
        let same = same_place q p (sym (h.members q f s key t) ∙ at) in
        let there : Some None ≡ Some (Some f) = sym empty ∙ subst (λ (r : ℕ). StandsAt xs r f) same s in
        cc

    sole : (xs : List (Option (Member K T))) (index : IndexMap K ℕ S) (key : K) (p : ℕ) → IsIndexed eq xs index → get eq index key ≡ Some p → IsSole eq key xs p
    sole xs index key p h at = λ q f s t. same_place q p (sym (h.members q f s key t) ∙ at)

    pub found_at : (xs : List (Option (Member K T))) (index : IndexMap K ℕ S) (key : K) (p : ℕ) (e : Member K T) → IsIndexed eq xs index → get eq index key ≡ Some p → StandsAt xs p e → IsFound eq key xs (record { place = p; member = e })
    found_at xs index key p e h at here = record {
      stands = here;
      key = h.own key p e at here;
      sole = sole xs index key p h at;
      within = h.within key p at;
    }

    own_added : (xs : List (Option (Member K T))) (old new : IndexMap K ℕ S) (e : Member K T) → IsIndexed eq xs old → Updates eq old new e.key (Some (length xs))
        → (k : K) (p : ℕ) (f : Member K T) (test : Bool) → eq e.key k ≡ test → get eq new k ≡ Some p → StandsAt (xs ++ Some e ∷ []) p f → eq k f.key ≡ true
    own_added xs old new e h u k p f true mine at s =
        let place : length xs ≡ p = same_place (length xs) p (sym (u.0 k ∙ rw mine refl) ∙ at) in
        let same : e ≡ f = is_last xs e f (subst (λ (q : ℕ). StandsAt (xs ++ Some e ∷ []) q f) (sym place) s) in
        ap (λ (x : Member K T). eq k x.key) (sym same) ∙ back eq laws e.key k mine
    own_added xs old new e h u k p f false others at s =
        let before : get eq old k ≡ Some p = sym (u.2 k others) ∙ at in
        h.own k p f before (stands_before xs (Some e) p f (h.within k p before) s)

    within_more : (xs : List (Option (Member K T))) (old new : IndexMap K ℕ S) (e : Member K T) → IsIndexed eq xs old → Updates eq old new e.key (Some (length xs))
        → (k : K) (p : ℕ) (test : Bool) → eq e.key k ≡ test → get eq new k ≡ Some p → p < length xs + 1
    within_more xs old new e h u k p true mine at =
        let place : length xs ≡ p = same_place (length xs) p (sym (u.0 k ∙ rw mine refl) ∙ at) in omega (arith, place)
    within_more xs old new e h u k p false others at = let before = h.within k p (sym (u.2 k others) ∙ at) in omega (arith, before)

    -- a member is added under a key that is new
    pub indexed_added : (xs : List (Option (Member K T))) (old new : IndexMap K ℕ S) (e : Member K T) → IsIndexed eq xs old → IsAbsent eq e.key xs → Updates eq old new e.key (Some (length xs)) → IsIndexed eq (xs ++ Some e ∷ []) new
    indexed_added xs old new e h none u = record {
      members = λ p f s k t. elim (cases_eq p (length xs)) [
        | inl last ↦
            let same : e ≡ f = is_last xs e f (subst (λ (q : ℕ). StandsAt (xs ++ Some e ∷ []) q f) last s) in
            let mine : eq e.key k ≡ true = back eq laws k e.key (ap (λ (x : Member K T). eq k x.key) same ∙ t) in
            u.0 k ∙ rw mine (ap (λ (q : ℕ). Some q) (sym last))
        | inr before ↦
            let there = stands_before xs (Some e) p f (within_added xs (Some e) p f s before) s in
            let others : eq e.key k ≡ false = other (eq e.key k) (λ mine. none p f there (on eq laws e.key k f.key mine t)) in
            u.2 k others ∙ h.members p f there k t
      ];
      within = λ k p at. let less = within_more xs old new e h u k p (eq e.key k) refl at in omega (arith, less, length-append xs (Some e ∷ []));
      own = λ k p f at s. own_added xs old new e h u k p f (eq e.key k) refl at s;
    }

    -- the member of a place is taken out
    pub indexed_taken : (xs : List (Option (Member K T))) (index : IndexMap K ℕ S) (p : ℕ) → IsIndexed eq xs index → IsIndexed eq (set xs p None) index
    indexed_taken xs index p h = record {
      members = λ q f s k t. h.members q f (still xs p q f s) k t;
      within = λ k q at. let less = h.within k q at in omega (arith, less, length-set xs p None);
      own = λ k q f at s. h.own k q f at (still xs p q f s);
    }

    -- another value is put under a key
    pub indexed_put : (xs : List (Option (Member K T))) (index : IndexMap K ℕ S) (p : ℕ) (e x : Member K T) → IsIndexed eq xs index → StandsAt xs p e → x.key ≡ e.key → IsIndexed eq (set xs p (Some x)) index
    indexed_put xs index p e x h here key = record {
      members = λ q f s k t. elim (cases_eq q p) [
        | inl same ↦
            let new : x ≡ f = put_there xs p e x f here (subst (λ (r : ℕ). StandsAt (set xs p (Some x)) r f) same s) in
            h.members p e here k (ap (eq k) (sym key ∙ ap (λ (y : Member K T). y.key) new) ∙ t) ∙ ap (λ (r : ℕ). Some r) (sym same)
        | inr elsewhere ↦ h.members q f (stands_other xs p q (Some x) f elsewhere s) k t
      ];
      within = λ k q at. let less = h.within k q at in omega (arith, less, length-set xs p (Some x));
      own = λ k q f at s. elim (cases_eq q p) [
        | inl same ↦
            let new : x ≡ f = put_there xs p e x f here (subst (λ (r : ℕ). StandsAt (set xs p (Some x)) r f) same s) in
            ap (eq k) (sym (ap (λ (y : Member K T). y.key) new) ∙ key) ∙ h.own k p e (at ∙ ap (λ (r : ℕ). Some r) same) here
        | inr elsewhere ↦ h.own k q f at (stands_other xs p q (Some x) f elsewhere s)
      ];
    }

    -- no member, no place
    pub indexed_none : (index : IndexMap K ℕ S) → IsEmpty index → IsIndexed {T = T} eq [] index
    indexed_none index h = record {
      members = λ p e s k t. absurd cc;
      within = λ k p at. let none : lookup (eq k) [] ≡ Some p = sym (ap (lookup (eq k)) h) ∙ at in absurd cc;
      own = λ k p e at s. absurd cc;
    }

    -- no two members stand under one key
    pub apart : (xs : List (Option (Member K T))) (index : IndexMap K ℕ S) → IsIndexed eq xs index → ArePlacesApart eq xs
    apart xs index h = λ p q e f s t same. same_place p q (sym (h.members p e s e.key (laws.refl e.key)) ∙ h.members q f t e.key same)
