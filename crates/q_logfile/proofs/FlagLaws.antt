-- Which positions failed, as flags; and the failures of a message, record by record.
use Rattle.std.proofs.Common.{◌≡◌, ℕ, ◌<◌, ◌≤◌, Bool, true, false, not, eqb, ltb, ◌||◌, List, [], ◌∷◌, ◌++◌, length, filter, if◌then◌else◌, refl, sym, ap, subst, ◌∙◌, arith, append-nil, zero, suc}
use Rattle.std.specs.Prelude.{replicate, slice_index_or, slice_set}
use Rattle.std.proofs.lemmas.Bool.{eqb-true, lt-ltb}
use Rattle.std.proofs.lemmas.Bool.Decides.{nat_tests}
use Rattle.std.proofs.lemmas.List.{get_or-replicate, get_or-set_other, get_or-set_same, length-replicate, length-set, set-get_or}
use Rattle.std.proofs.lemmas.List.Elements.{filter-append}
use Rattle.std.proofs.lemmas.List.Folds.{list_any-append}
use Rattle.std.proofs.lemmas.Map.Views.{any-filter_same}
use Rattle.q_model.specs.declared.outcome.Failure.{Failure}
use Rattle.q_model.specs.FailureLog.{failures_of, first_of_each}
use Rattle.q_model.proofs.FailuresLaws.{has_position}
use Rattle.q_logfile.specs.Flags.{AreFlags, has_failed}

-- ---- the failures of a message

-- those of other positions
abbrev without : ℕ → List Failure → List Failure
without p fs = filter (λ g. not (eqb g.position p)) fs

other_kept : (g : Failure) (x p : ℕ) → eqb x p ≡ false → eqb g.position p ≡ true → not (eqb g.position x) ≡ true
other_kept g x p apart same = grind (arith, nat_tests)

-- the first of each position are of the same positions
first_has : (p : ℕ) (fs : List Failure) → has_position p (first_of_each fs) ≡ has_position p fs
first_has p [] = refl
first_has p (x ∷ fs) = by (first_has p fs) (eqb x.position p) refl
  where
    by : has_position p (first_of_each fs) ≡ has_position p fs → (t : Bool) → eqb x.position p ≡ t → (eqb x.position p || has_position p (without x.position (first_of_each fs))) ≡ (eqb x.position p || has_position p fs)
    by rest true e = rw e refl
    by rest false e = rw e (any-filter_same (λ g. eqb g.position p) (λ g. not (eqb g.position x.position)) true (λ g same. other_kept g x.position p e same) (first_of_each fs) ∙ rest)

-- those that a message has are of the same positions below its number of recipients
pub failures_have : (n p : ℕ) (fs : List Failure) → p < n → has_position p (failures_of n fs) ≡ has_failed fs p
failures_have n p fs here = first_has p (filter (λ f. ltb f.position n) fs) ∙ any-filter_same (λ f. eqb f.position p) (λ f. ltb f.position n) true (λ f same. lt-ltb f.position n (subst (λ (q : ℕ). q < n) (sym (eqb-true f.position p same)) here)) fs

module _ {A : Type 0} (p q : A → Bool) where
  swap_by : (x : A) (xs : List A) → filter p (filter q xs) ≡ filter q (filter p xs) → (s t : Bool) → p x ≡ s → q x ≡ t → filter p (if t then x ∷ filter q xs else filter q xs) ≡ filter q (if s then x ∷ filter p xs else filter p xs)
  swap_by x xs same true true e k = rw e (rw k (ap (λ (ys : List A). x ∷ ys) same))
  swap_by x xs same true false e k = rw k same
  swap_by x xs same false true e k = rw e same
  swap_by x xs same false false e k = same

  filter_swap : (xs : List A) → filter p (filter q xs) ≡ filter q (filter p xs)
  filter_swap [] = refl
  filter_swap (x ∷ xs) = swap_by x xs (filter_swap xs) (p x) (q x) refl refl

-- a record of a position that is left out
left_out : (fs : List Failure) (f : Failure) (p : ℕ) → eqb f.position p ≡ true → without p (first_of_each (fs ++ f ∷ [])) ≡ without p (first_of_each fs)
left_out [] f p same = rw same refl
left_out (x ∷ fs) f p same = by (left_out fs f p same) (eqb x.position p) refl
  where
    others : without p (first_of_each (fs ++ f ∷ [])) ≡ without p (first_of_each fs) → without p (without x.position (first_of_each (fs ++ f ∷ []))) ≡ without p (without x.position (first_of_each fs))
    others rest =
        filter_swap (λ g. not (eqb g.position p)) (λ g. not (eqb g.position x.position)) (first_of_each (fs ++ f ∷ []))
        ∙ ap (without x.position) rest
        ∙ filter_swap (λ g. not (eqb g.position x.position)) (λ g. not (eqb g.position p)) (first_of_each fs)

    by : without p (first_of_each (fs ++ f ∷ [])) ≡ without p (first_of_each fs) → (t : Bool) → eqb x.position p ≡ t → without p (x ∷ without x.position (first_of_each (fs ++ f ∷ []))) ≡ without p (x ∷ without x.position (first_of_each fs))
    by rest true e = rw e (others rest)
    by rest false e = rw e (ap (λ (gs : List Failure). x ∷ gs) (others rest))

-- a record whose position an earlier one has
first_again : (fs : List Failure) (f : Failure) → has_position f.position fs ≡ true → first_of_each (fs ++ f ∷ []) ≡ first_of_each fs
first_again [] f h = absurd cc
first_again (x ∷ fs) f h = by (first_again fs f) (eqb x.position f.position) refl h
  where
    turned : eqb x.position f.position ≡ true → eqb f.position x.position ≡ true
    turned e = grind (arith, nat_tests)

    by : (has_position f.position fs ≡ true → first_of_each (fs ++ f ∷ []) ≡ first_of_each fs) → (t : Bool) → eqb x.position f.position ≡ t → (t || has_position f.position fs) ≡ true → x ∷ without x.position (first_of_each (fs ++ f ∷ [])) ≡ x ∷ without x.position (first_of_each fs)
    by rest true e k = ap (λ (gs : List Failure). x ∷ gs) (left_out fs f x.position (turned e))
    by rest false e k = ap (λ (gs : List Failure). x ∷ without x.position gs) (rest k)

-- a record of a position that the message doesn't have, and one whose position failed before, are passed over
pub failures_past : (n : ℕ) (fs : List Failure) (f : Failure) → n ≤ f.position → failures_of n (fs ++ f ∷ []) ≡ failures_of n fs
failures_past n fs f past = ap first_of_each (filter-append (λ g. ltb g.position n) fs (f ∷ []) ∙ ap (λ (gs : List Failure). filter (λ g. ltb g.position n) fs ++ gs) none ∙ append-nil (filter (λ g. ltb g.position n) fs))
  where
    above : ltb f.position n ≡ false
    above = grind (arith, nat_tests)

    none : filter (λ g. ltb g.position n) (f ∷ []) ≡ []
    none = rw above refl

pub failures_again : (n : ℕ) (fs : List Failure) (f : Failure) → f.position < n → has_failed fs f.position ≡ true → failures_of n (fs ++ f ∷ []) ≡ failures_of n fs
failures_again n fs f here before =
    ap first_of_each (filter-append (λ g. ltb g.position n) fs (f ∷ []) ∙ ap (λ (gs : List Failure). filter (λ g. ltb g.position n) fs ++ gs) kept)
    ∙ first_again (filter (λ g. ltb g.position n) fs) f (any-filter_same (λ g. eqb g.position f.position) (λ g. ltb g.position n) true (λ g same. lt-ltb g.position n (subst (λ (q : ℕ). q < n) (sym (eqb-true g.position f.position same)) here)) fs ∙ before)
  where
    kept : filter (λ g. ltb g.position n) (f ∷ []) ≡ f ∷ []
    kept = rw (lt-ltb f.position n here) refl

-- ---- flags

set_past : (flags : List Bool) (p : ℕ) → length flags ≤ p → slice_set flags p true ≡ flags
set_past [] p past = refl
set_past (x ∷ flags) zero past = absurd (omega (arith, past))
set_past (x ∷ flags) (suc p) past = ap (λ (ts : List Bool). x ∷ ts) (set_past flags p (omega (arith, past)))

-- a flag that is set already, or isn't there
pub set_again : (flags : List Bool) (p : ℕ) → slice_index_or flags p false ≡ true → slice_set flags p true ≡ flags
set_again flags p e = ap (slice_set flags p) (sym e) ∙ set-get_or flags p false

pub set_outside : (flags : List Bool) (p : ℕ) → length flags ≤ p → slice_set flags p true ≡ flags
set_outside flags p past = set_past flags p past

pub none_failed : (n : ℕ) → AreFlags n [] (replicate n false)
none_failed n = record { count = length-replicate n false; each = λ p here. get_or-replicate n p false false here }

-- one record more
failed_more : (fs : List Failure) (f : Failure) (p : ℕ) → has_failed (fs ++ f ∷ []) p ≡ (has_failed fs p || eqb f.position p)
failed_more fs f p = list_any-append (λ g. eqb g.position p) fs (f ∷ []) ∙ ap (λ (t : Bool). has_failed fs p || t) (or_false (eqb f.position p))
  where
    or_false : (t : Bool) → (t || false) ≡ t
    or_false true = refl
    or_false false = refl

pub flags_more : (n : ℕ) (fs : List Failure) (f : Failure) (flags : List Bool) → AreFlags n fs flags → AreFlags n (fs ++ f ∷ []) (slice_set flags f.position true)
flags_more n fs f flags are = record {
  count = length-set flags f.position true ∙ are.count;
  each = λ p here. by p here (eqb f.position p) refl ∙ sym (failed_more fs f p);
}
  where
    or_true : (t : Bool) → true ≡ (t || true)
    or_true true = refl
    or_true false = refl

    or_none : (t : Bool) → t ≡ (t || false)
    or_none true = refl
    or_none false = refl

    apart : (p : ℕ) → eqb f.position p ≡ false → p ≡ f.position → ⊥
    apart p e same = grind (arith, nat_tests)

    by : (p : ℕ) → p < n → (t : Bool) → eqb f.position p ≡ t → slice_index_or (slice_set flags f.position true) p false ≡ (has_failed fs p || eqb f.position p)
    by p here true e =
        let same : f.position ≡ p = eqb-true f.position p e in
        ap (λ (q : ℕ). slice_index_or (slice_set flags q true) p false) same ∙ get_or-set_same flags p true false (omega (arith, here, are.count)) ∙ or_true (has_failed fs p) ∙ ap (λ (t : Bool). has_failed fs p || t) (sym e)
    by p here false e = get_or-set_other flags f.position p true false (apart p e) ∙ are.each p here ∙ or_none (has_failed fs p) ∙ ap (λ (t : Bool). has_failed fs p || t) (sym e)

-- a flag that was read, whatever is read past the end
pub flag_read : (flags : List Bool) (p : ℕ) (t b : Bool) → p < length flags → t ≡ slice_index_or flags p t → t ≡ b → slice_index_or flags p false ≡ b
flag_read [] p t b here is same = absurd (omega (arith, here))
flag_read (x ∷ flags) zero t b here is same = sym is ∙ same
flag_read (x ∷ flags) (suc p) t b here is same = flag_read flags p t b (omega (arith, here)) is same
