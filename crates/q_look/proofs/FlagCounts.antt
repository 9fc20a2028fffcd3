-- How many flags are set, as one more is.
use Rattle.std.proofs.Common.{◌≡◌, ℕ, ◌<◌, ◌≤◌, ◌+◌, ◌*◌, Bool, true, false, cond, ltb, List, [], ◌∷◌, ◌++◌, length, refl, sym, ap, ◌∙◌, arith, length-append}
use Rattle.std.specs.Prelude.{replicate, slice_index_or, slice_set}
use Rattle.std.proofs.lemmas.Bool.Decides.{nat_tests}
use Rattle.std.proofs.lemmas.List.Folds.{sum_by-replicate}
use Rattle.std.proofs.lemmas.List.Sums.{count_by-le-length, sum_by-set}
use Rattle.q_model.specs.declared.outcome.Failure.{Failure}
use Rattle.q_model.specs.FailureLog.{failures_of}
use Rattle.q_model.proofs.FailuresLaws.{failures_of-push}
use Rattle.q_logfile.proofs.FlagLaws.{failures_again, failures_have, failures_past, set_again, set_outside}
use Rattle.q_logfile.specs.Flags.{AreFlags, has_failed}
use Rattle.q_look.specs.Failures.{set_count}

-- a flag that is set anew is one more
pub set_more : (flags : List Bool) (p : ℕ) → p < length flags → slice_index_or flags p false ≡ false → set_count (slice_set flags p true) ≡ set_count flags + 1
set_more flags p here e =
    let one : Bool → ℕ = λ t. cond t 1 0 in
    let was : one (slice_index_or flags p false) ≡ 0 = ap one e in
    omega (arith, sum_by-set one flags p true false here, was)

-- the flags of none
pub none_set : (n : ℕ) → set_count (replicate n false) ≡ 0
none_set n =
    let nothing : n * 0 ≡ 0 = omega arith in
    sum_by-replicate (λ (t : Bool). cond t 1 0) n false ∙ nothing

-- and so many failures more as flags
pub failures_more : (n : ℕ) (fs : List Failure) (f : Failure) (flags : List Bool) → AreFlags n fs flags → set_count flags ≡ length (failures_of n fs) → set_count (slice_set flags f.position true) ≡ length (failures_of n (fs ++ f ∷ []))
failures_more n fs f flags are same = by (ltb f.position n) refl
  where
    later : (t : Bool) → f.position < n → has_failed fs f.position ≡ t → set_count (slice_set flags f.position true) ≡ length (failures_of n (fs ++ f ∷ []))
    later true here e = ap set_count (set_again flags f.position (are.each f.position here ∙ e)) ∙ same ∙ ap (λ (gs : List Failure). length gs) (sym (failures_again n fs f here e))
    later false here e =
        set_more flags f.position (omega (arith, here, are.count)) (are.each f.position here ∙ e) ∙ ap (λ (k : ℕ). k + 1) same
        ∙ sym (ap (λ (gs : List Failure). length gs) (failures_of-push n fs f here (failures_have n f.position fs here ∙ e)) ∙ length-append (failures_of n fs) (f ∷ []))

    by : (t : Bool) → ltb f.position n ≡ t → set_count (slice_set flags f.position true) ≡ length (failures_of n (fs ++ f ∷ []))
    by true e = later (has_failed fs f.position) (grind (arith, nat_tests)) refl
    by false e =
        let past : n ≤ f.position = grind (arith, nat_tests) in
        ap set_count (set_outside flags f.position (omega (arith, past, are.count))) ∙ same ∙ ap (λ (gs : List Failure). length gs) (sym (failures_past n fs f past))

-- there are no more of them than flags
pub set_few : (flags : List Bool) → set_count flags ≤ length flags
set_few flags = count_by-le-length (λ (t : Bool). t) flags
