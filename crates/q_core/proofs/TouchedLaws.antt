-- What was touched as more is touched, and what passes a test but for it.
use Rattle.std.proofs.Common.{◌≡◌, Bool, true, false, List, inl, inr, refl, sym, subst, if◌then◌else◌}
use Rattle.std.proofs.lemmas.Bool.{or_cases, or_left, or_right}
use Rattle.std.specs.List.{list_all}
use Rattle.std.specs.Prelude.{◌||◌}
use Rattle.q_core.specs.Touched.{is_everything, is_touched, touched_with}
use Rattle.q_core.specs.declared.touched.Touched.{Touched}
use Rattle.q_core.specs.declared.touched.Touched.TheVariants.{Everything, Nothing, One}
use Rattle.q_laws.proofs.Members.{IsIn, all_weaker}

abbrev pub Equal : {K : Type 0} → (K → K → Bool) → Type 0
Equal {K = K} same = (a b : K) → same a b ≡ true → a ≡ b

one_stays : {K : Type 0} (same : K → K → Bool) (b : Bool) (t x : K) → same x t ≡ true → is_touched same (if b then One t else Everything) x ≡ true
one_stays same true t x h = h
one_stays same false t x h = refl

-- what was touched stays so
pub touched_more : {K : Type 0} (same : K → K → Bool) (k x : K) (m : Touched K) → is_touched same m x ≡ true → is_touched same (touched_with same k m) x ≡ true
touched_more same k x Nothing h = absurd cc
touched_more same k x (One t) h = one_stays same (same t k) t x h
touched_more same k x Everything h = refl

one_new : {K : Type 0} (same : K → K → Bool) → Equal same → (b : Bool) (t k x : K) → same t k ≡ b → same x k ≡ true → is_touched same (if b then One t else Everything) x ≡ true
one_new same equal true t k x e h = subst (λ z. same x z ≡ true) (sym (equal t k e)) h
one_new same equal false t k x e h = refl

-- the one that is touched now
pub touched_here : {K : Type 0} (same : K → K → Bool) → Equal same → (k x : K) (m : Touched K) → same x k ≡ true → is_touched same (touched_with same k m) x ≡ true
touched_here same equal k x Nothing h = h
touched_here same equal k x (One t) h = one_new same equal (same t k) t k x refl h
touched_here same equal k x Everything h = refl

-- not everything was touched before
pub touched_fewer : {K : Type 0} (same : K → K → Bool) (k : K) (m : Touched K) → is_everything (touched_with same k m) ≡ false → is_everything m ≡ false
touched_fewer same k Nothing h = refl
touched_fewer same k (One t) h = refl
touched_fewer same k Everything h = h

-- what passed or was touched goes on so
pub all_still : {K A : Type 0} (same : K → K → Bool) (key : A → K) (m n : Touched K) (p q : A → Bool) (xs : List A) →
    ((x : A) → IsIn x xs → is_touched same m (key x) ≡ true → is_touched same n (key x) ≡ true) →
    ((x : A) → IsIn x xs → p x ≡ true → (is_touched same n (key x) || q x) ≡ true) →
    list_all (λ x. is_touched same m (key x) || p x) xs ≡ true → list_all (λ x. is_touched same n (key x) || q x) xs ≡ true
all_still same key m n p q xs more pass h = all_weaker (λ x. is_touched same m (key x) || p x) (λ x. is_touched same n (key x) || q x) xs
    (λ x inside either. elim (or_cases (is_touched same m (key x)) (p x) either) [
      | inl t ↦ or_left (is_touched same n (key x)) (q x) (more x inside t)
      | inr k ↦ pass x inside k
    ]) h

-- the same was touched, and what passed passes
pub all_kept : {K A : Type 0} (same : K → K → Bool) (key : A → K) (m : Touched K) (p q : A → Bool) (xs : List A) →
    ((x : A) → IsIn x xs → p x ≡ true → q x ≡ true) →
    list_all (λ x. is_touched same m (key x) || p x) xs ≡ true → list_all (λ x. is_touched same m (key x) || q x) xs ≡ true
all_kept same key m p q xs pass h = all_still same key m m p q xs (λ x inside t. t) (λ x inside k. or_right (is_touched same m (key x)) (q x) (pass x inside k)) h

-- one more was touched, and of the others what passed passes
pub all_touched : {K A : Type 0} (same : K → K → Bool) → Equal same → (key : A → K) (m : Touched K) (k : K) (p q : A → Bool) (xs : List A) →
    ((x : A) → IsIn x xs → p x ≡ true → (same (key x) k || q x) ≡ true) →
    list_all (λ x. is_touched same m (key x) || p x) xs ≡ true → list_all (λ x. is_touched same (touched_with same k m) (key x) || q x) xs ≡ true
all_touched same equal key m k p q xs pass h = all_still same key m (touched_with same k m) p q xs (λ x inside t. touched_more same k (key x) m t)
    (λ x inside e. elim (or_cases (same (key x) k) (q x) (pass x inside e)) [
      | inl t ↦ or_left (is_touched same (touched_with same k m) (key x)) (q x) (touched_here same equal k (key x) m t)
      | inr g ↦ or_right (is_touched same (touched_with same k m) (key x)) (q x) g
    ]) h
