-- What a part says of an outcome, in both directions.
use Rattle.std.proofs.Common.{◌≡◌, ◌≤◌, ◌<◌, ◌^◌, ◌⊎◌, ◌∙◌, ℕ, Bool, true, false, Option, Some, None, List, ◌∷◌, ◌++◌, take, drop, inl, inr, refl, sym, ap, subst, arith}
use Rattle.std.specs.List.{list_all, starts_with}
use Rattle.std.specs.Option.{option_or}
use Rattle.std.specs.Prelude.{◌==◌, bytes_eq, codes, decimal, if◌then◌else◌, nat_eq}
use Rattle.std.proofs.lemmas.Bool.{ne_eqb}
use Rattle.std.proofs.lemmas.List.{take-append-drop}
use Rattle.std.proofs.lemmas.Slice.Eq.{bytes_eq-Decides}
use Rattle.q_numbers.specs.Numbers.{number_within}
use Rattle.q_numbers.proofs.NumberLaws.{decimal_is_read}
use Rattle.q_model.proofs.RecordLaws.{map_some}
use Rattle.q_model.specs.declared.outcome.Outcome.{Outcome}
use Rattle.q_model.specs.declared.outcome.SiteState.{SiteState}
use Rattle.q_model.specs.declared.outcome.SiteState.TheVariants.{Down, Up}
use Rattle.q_model.specs.Text.{coded, outcome_text}
use Rattle.q_text.specs.ValueForms.{IsCode, IsOutcomeAt}
use Rattle.q_text.specs.ValueTexts.{code_behind, later_of, never_of, outcome_of}
use Rattle.q_text.proofs.Exactness.{ExactPart}
use Rattle.q_text.proofs.SolidTexts.{coded_solid, is_solid}
use Rattle.q_text.proofs.NumberReads.{number_fits, number_written}
use Rattle.q_text.proofs.WordReads.{guarded, word_or}
use Rattle.q_model.specs.declared.outcome.Outcome.TheVariants as outcomes

-- a code that is not 0 stands behind a colon
with_code : (word : List ℕ) (code : ℕ) → 0 < code → coded word code ≡ word ++ 58 ∷ decimal code
with_code word code h =
    let some : (code == 0) ≡ false = ne_eqb code 0 (λ e. omega (arith, e, h)) in
    rw some refl

-- a text with such a front
fronted : (text front : List ℕ) (n : ℕ) → bytes_eq front (take 6 text) ≡ true → drop 6 text ≡ decimal n → front ++ decimal n ≡ text
fronted text front n h d =
    ap (λ (x : List ℕ). x ++ decimal n) ((bytes_eq-Decides front (take 6 text)).0 h) ∙ ap (λ (x : List ℕ). take 6 text ++ x) (sym d) ∙ take-append-drop 6 text

-- such an outcome with this text
abbrev IsWritten : (ℕ → Outcome) → ℕ → Outcome → List ℕ → Type 0
IsWritten make low o text = (code : ℕ) × IsCode low code × (make code ≡ o) × (outcome_text (make code) ≡ text)

later_back : (text : List ℕ) (o : Outcome) → later_of text ≡ Some o → IsWritten (λ code. outcomes.Later code) 400 o text
later_back text o h =
    word_or text (codes "later") (outcomes.Later 0) o _ (IsWritten (λ code. outcomes.Later code) 400 o text) h (λ e same. (0, inl refl, same, sym e))
    (λ _ k.
    let (n, found, same) = map_some (λ (code : ℕ). outcomes.Later code) (code_behind (codes "later:") 400 499 text) o k in
    let (front, number) = guarded (starts_with nat_eq text (codes "later:")) (number_within 400 499 (drop 6 text)) n found in
    let f = number_fits 400 499 n (drop 6 text) number in
    let written : codes "later:" ++ decimal n ≡ text = fronted text (codes "later:") n front (number_written 400 499 n (drop 6 text) (omega arith) number) in
    (n, inr (f.0, omega (arith, f.1)), same, with_code (codes "later") n (omega (arith, f.0)) ∙ written))

never_back : (text : List ℕ) (o : Outcome) → never_of text ≡ Some o → IsWritten (λ code. outcomes.Never code) 500 o text
never_back text o h =
    word_or text (codes "never") (outcomes.Never 0) o _ (IsWritten (λ code. outcomes.Never code) 500 o text) h (λ e same. (0, inl refl, same, sym e))
    (λ _ k.
    let (n, found, same) = map_some (λ (code : ℕ). outcomes.Never code) (code_behind (codes "never:") 500 599 text) o k in
    let (front, number) = guarded (starts_with nat_eq text (codes "never:")) (number_within 500 599 (drop 6 text)) n found in
    let f = number_fits 500 599 n (drop 6 text) number in
    let written : codes "never:" ++ decimal n ≡ text = fronted text (codes "never:") n front (number_written 500 599 n (drop 6 text) (omega arith) number) in
    (n, inr (f.0, omega (arith, f.1)), same, with_code (codes "never") n (omega (arith, f.0)) ∙ written))

later_gives : (code : ℕ) → IsCode 400 code → later_of (outcome_text (outcomes.Later code)) ≡ Some (outcomes.Later code)
later_gives code (inl e) = rw e refl
later_gives code (inr h) =
    let read : number_within 400 499 (decimal code) ≡ Some code = decimal_is_read 400 499 (decimal code) code (omega arith) h.0 (omega (arith, h.1)) refl in
    let some : 0 < code = omega (arith, h.0) in
    rw (with_code (codes "later") code some, read) refl

never_gives : (code : ℕ) → IsCode 500 code → never_of (outcome_text (outcomes.Never code)) ≡ Some (outcomes.Never code)
never_gives code (inl e) = rw e refl
never_gives code (inr h) =
    let read : number_within 500 599 (decimal code) ≡ Some code = decimal_is_read 500 599 (decimal code) code (omega arith) h.0 (omega (arith, h.1)) refl in
    let some : 0 < code = omega (arith, h.0) in
    rw (with_code (codes "never") code some, read) refl

-- the words differ
later_is_not_ok : (t : Bool) (code : ℕ) → bytes_eq (if t then codes "later" else codes "later" ++ 58 ∷ decimal code) (codes "ok") ≡ false
later_is_not_ok true code = refl
later_is_not_ok false code = refl

never_is_not_ok : (t : Bool) (code : ℕ) → bytes_eq (if t then codes "never" else codes "never" ++ 58 ∷ decimal code) (codes "ok") ≡ false
never_is_not_ok true code = refl
never_is_not_ok false code = refl

never_is_not_later : (t : Bool) (code : ℕ) → later_of (if t then codes "never" else codes "never" ++ 58 ∷ decimal code) ≡ None
never_is_not_later true code = refl
never_is_not_later false code = refl

either : {A : Type 0} (a b : Option A) (x : A) → option_or a b ≡ Some x → (a ≡ Some x) ⊎ (b ≡ Some x)
either None b x h = inr h
either (Some y) b x h = inl h

as_later : (state : SiteState) (text : List ℕ) (o : Outcome) → IsWritten (λ code. outcomes.Later code) 400 o text → IsOutcomeAt state o × (outcome_text o ≡ text)
as_later Up text o w = subst (λ (o : Outcome). IsOutcomeAt Up o × (outcome_text o ≡ text)) w.2 (w.1, w.3)
as_later Down text o w = subst (λ (o : Outcome). IsOutcomeAt Down o × (outcome_text o ≡ text)) w.2 (w.1, w.3)

as_never : (text : List ℕ) (o : Outcome) → IsWritten (λ code. outcomes.Never code) 500 o text → IsOutcomeAt Up o × (outcome_text o ≡ text)
as_never text o w = subst (λ (o : Outcome). IsOutcomeAt Up o × (outcome_text o ≡ text)) w.2 (w.1, w.3)

later_or_never : (text : List ℕ) (o : Outcome) → (later_of text ≡ Some o) ⊎ (never_of text ≡ Some o) → IsOutcomeAt Up o × (outcome_text o ≡ text)
later_or_never text o (inl h) = as_later Up text o (later_back text o h)
later_or_never text o (inr h) = as_never text o (never_back text o h)

outcome_back : (state : SiteState) (text : List ℕ) (o : Outcome) → outcome_of state text ≡ Some o → IsOutcomeAt state o × (outcome_text o ≡ text)
outcome_back Up text o h =
    word_or text (codes "ok") outcomes.Ok o _ (IsOutcomeAt Up o × (outcome_text o ≡ text)) h
    (λ e same. subst (λ (o : Outcome). IsOutcomeAt Up o × (outcome_text o ≡ text)) same (tt, sym e)) (λ _ k. later_or_never text o (either (later_of text) (never_of text) o k))
outcome_back Down text o h = as_later Down text o (later_back text o h)

outcome_gives : (state : SiteState) (o : Outcome) → IsOutcomeAt state o → outcome_of state (outcome_text o) ≡ Some o
outcome_gives Up outcomes.Ok h = refl
outcome_gives Up (outcomes.Later code) h = rw (later_is_not_ok (code == 0) code, later_gives code h) refl
outcome_gives Up (outcomes.Never code) h = rw (never_is_not_ok (code == 0) code, never_is_not_later (code == 0) code, never_gives code h) refl
outcome_gives Down outcomes.Ok h = absurd h
outcome_gives Down (outcomes.Later code) h = later_gives code h
outcome_gives Down (outcomes.Never code) h = absurd h

code_fits : (low code : ℕ) → low ≤ 500 → IsCode low code → code < 2 ^ 64
code_fits low code h (inl e) = omega (arith, e)
code_fits low code h (inr k) = omega (arith, h, k.1)

code_solid : (t : Bool) (word : List ℕ) (code : ℕ) → list_all is_solid word ≡ true → code < 2 ^ 64 → list_all is_solid (if t then word else word ++ 58 ∷ decimal code) ≡ true
code_solid true word code h small = h
code_solid false word code h small = coded_solid word code h small

outcome_solid : (state : SiteState) (o : Outcome) → IsOutcomeAt state o → list_all is_solid (outcome_text o) ≡ true
outcome_solid Up outcomes.Ok h = refl
outcome_solid Up (outcomes.Later code) h = code_solid (code == 0) (codes "later") code refl (code_fits 400 code (omega arith) h)
outcome_solid Up (outcomes.Never code) h = code_solid (code == 0) (codes "never") code refl (code_fits 500 code (omega arith) h)
outcome_solid Down outcomes.Ok h = absurd h
outcome_solid Down (outcomes.Later code) h = code_solid (code == 0) (codes "later") code refl (code_fits 400 code (omega arith) h)
outcome_solid Down (outcomes.Never code) h = absurd h

pub exact_outcome : (state : SiteState) → ExactPart (outcome_of state) (IsOutcomeAt state) outcome_text
exact_outcome state = record { exact = record { back = outcome_back state; gives = outcome_gives state }; solid = outcome_solid state }
