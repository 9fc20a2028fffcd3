-- The failures of a message: one more record in its log is one more failure, where its position is new.
use Rattle.std.proofs.Common.{◌≡◌, ℕ, ◌<◌, Bool, true, false, not, eqb, ltb, List, [], ◌∷◌, ◌++◌, filter, refl, ap, ◌∙◌, arith}
use Rattle.std.specs.List.{list_any}
use Rattle.std.proofs.lemmas.Bool.{or_from, or_parts, eqb-true, lt-ltb}
use Rattle.std.proofs.lemmas.Bool.Decides.{nat_tests}
use Rattle.std.proofs.lemmas.List.Elements.{filter-append}
use Rattle.q_model.specs.declared.outcome.Failure.{Failure}
use Rattle.q_model.specs.FailureLog.{failures_of, first_of_each}

-- a failure has this position
abbrev pub has_position : ℕ → List Failure → Bool
has_position p fs = list_any (λ f. eqb f.position p) fs

-- the failures of other positions
abbrev without : ℕ → List Failure → List Failure
without p fs = filter (λ g. not (eqb g.position p)) fs

-- one failure more, of position x or not
without_more : (f : Failure) (fs : List Failure) (x p : ℕ) → eqb x p ≡ false → (has_position p (without x fs) ≡ false → has_position p fs ≡ false) → (t : Bool) → eqb f.position x ≡ t → has_position p (without x (f ∷ fs)) ≡ false → has_position p (f ∷ fs) ≡ false
without_more f fs x p apart more true e h =
    let left = rw e at h in
    let same : f.position ≡ x = eqb-true f.position x e in
    or_from (eqb f.position p) (has_position p fs) (ap (λ (q : ℕ). eqb q p) same ∙ apart) (more left)
without_more f fs x p apart more false e h =
    let left = rw e at h in
    let two = or_parts (eqb f.position p) (has_position p (without x fs)) left in
    or_from (eqb f.position p) (has_position p fs) two.0 (more two.1)

-- leaving out those of position x leaves out none of position p
without_other : (fs : List Failure) (x p : ℕ) → eqb x p ≡ false → has_position p (without x fs) ≡ false → has_position p fs ≡ false
without_other [] x p apart h = refl
without_other (f ∷ fs) x p apart h = without_more f fs x p apart (without_other fs x p apart) (eqb f.position x) refl h

turned : (a b : ℕ) → eqb a b ≡ false → eqb b a ≡ false
turned a b e = grind (arith, nat_tests)

-- a record whose position no earlier one has is kept
first_of_each-push : (fs : List Failure) (f : Failure) → has_position f.position (first_of_each fs) ≡ false → first_of_each (fs ++ f ∷ []) ≡ first_of_each fs ++ f ∷ []
first_of_each-push [] f h = refl
first_of_each-push (x ∷ fs) f h =
    let two = or_parts (eqb x.position f.position) (has_position f.position (without x.position (first_of_each fs))) h in
    let new : has_position f.position (first_of_each fs) ≡ false = without_other (first_of_each fs) x.position f.position two.0 two.1 in
    let apart : eqb f.position x.position ≡ false = turned x.position f.position two.0 in
    ap (λ (gs : List Failure). x ∷ without x.position gs) (first_of_each-push fs f new)
    ∙ ap (λ (gs : List Failure). x ∷ gs) (filter-append (λ g. not (eqb g.position x.position)) (first_of_each fs) (f ∷ []) ∙ rw apart refl)

-- one more record of a position that the message has, and that none of its failures has
pub failures_of-push : (n : ℕ) (fs : List Failure) (f : Failure) → f.position < n → has_position f.position (failures_of n fs) ≡ false → failures_of n (fs ++ f ∷ []) ≡ failures_of n fs ++ f ∷ []
failures_of-push n fs f here new =
    let kept : filter (λ g. ltb g.position n) (f ∷ []) ≡ f ∷ [] = rw (lt-ltb f.position n here) refl in
    ap first_of_each (filter-append (λ g. ltb g.position n) fs (f ∷ []) ∙ ap (λ (gs : List Failure). filter (λ g. ltb g.position n) fs ++ gs) kept)
    ∙ first_of_each-push (filter (λ g. ltb g.position n) fs) f new
