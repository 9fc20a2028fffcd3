-- Codes of answers give outcomes with codes of replies.
use Rattle.std.proofs.Common.{◌≡◌, ◌∙◌, ◌++◌, ◌∷◌, [], Bool, List, ap, false, if◌then◌else◌, map, refl, replicate, suc, sym, true, zero, ℕ}
use Rattle.std.proofs.lemmas.Bool.{and_from, and_parts}
use Rattle.std.proofs.lemmas.List.Folds.{list_all-append}
use Rattle.std.specs.List.{list_all}
use Rattle.std.specs.Prelude.{◌||◌, ◌==◌}
use Rattle.q_model.specs.declared.outcome.Outcome.{Outcome}
use Rattle.q_model.specs.declared.outcome.Outcome.TheVariants as outcomes
use Rattle.q_smtp.specs.Codes.{is_answer, is_done, is_later, is_refusal, outcome_by, outcome_of, put_off}
use Rattle.q_session.specs.Codes.{AreAnswers, AreSettled, HaveReplyCodes, has_reply_code, is_last}

or_true : (b : Bool) → (b || true) ≡ true
or_true true = refl
or_true false = refl

-- a refusal is an answer, and an answer may be the last one
pub refusal_answers : (code : ℕ) → is_refusal code ≡ true → is_answer code ≡ true
refusal_answers code h = ap (λ b. is_done code || b) h ∙ or_true (is_done code)

pub answer_last : (code : ℕ) → is_answer code ≡ true → is_last code ≡ true
answer_last code h = ap (λ b. (code == 0) || b) h ∙ or_true (code == 0)

-- one more answer
pub answers_more : (codes : List ℕ) (code : ℕ) → AreAnswers codes → is_answer code ≡ true → AreAnswers (codes ++ code ∷ [])
answers_more codes code all one = list_all-append is_answer codes (code ∷ [])
    ∙ and_from (list_all is_answer codes) (list_all is_answer (code ∷ [])) all (and_from (is_answer code) true one refl)

-- the same answer for all
pub same_answers : (n code : ℕ) → is_answer code ≡ true → AreAnswers (replicate n code)
same_answers zero code h = refl
same_answers (suc n) code h = and_from (is_answer code) (list_all is_answer (replicate n code)) h (same_answers n code h)

-- ---- outcomes

by_parts : (z d l r : Bool) (code : ℕ) → (z || (d || r)) ≡ true → (z || r) ≡ ((code == 0) || is_refusal code)
    → has_reply_code (if d then outcomes.Ok else (if l then outcomes.Later code else outcomes.Never code)) ≡ true
by_parts z true l r code h same = refl
by_parts z false true r code h same = sym same ∙ h
by_parts z false false r code h same = sym same ∙ h

last_coded : (code : ℕ) → is_last code ≡ true → has_reply_code (outcome_of code) ≡ true
last_coded code h = by_parts (code == 0) (is_done code) (is_later code) (is_refusal code) code h refl

either_coded : (b : Bool) (o p : Outcome) → has_reply_code o ≡ true → has_reply_code p ≡ true → has_reply_code (if b then o else p) ≡ true
either_coded true o p first second = first
either_coded false o p first second = second

coded_by : (last code : ℕ) → is_last last ≡ true → is_answer code ≡ true → has_reply_code (outcome_by last code) ≡ true
coded_by last code one h = either_coded (is_done code) (outcome_of last) (outcome_of code) (last_coded last one) (last_coded code (answer_last code h))

all_coded : (last : ℕ) (codes : List ℕ) → is_last last ≡ true → AreAnswers codes → HaveReplyCodes (map (outcome_by last) codes)
all_coded last [] one h = refl
all_coded last (code ∷ codes) one h =
    let both = and_parts (is_answer code) (list_all is_answer codes) h in
    and_from (has_reply_code (outcome_by last code)) (list_all has_reply_code (map (outcome_by last) codes)) (coded_by last code one both.0) (all_coded last codes one both.1)

-- those of recipients that have their answers, and of those that are put off
pub settled_coded : (last : ℕ) (codes : List ℕ) (os : List Outcome) → AreSettled last codes → os ≡ map (outcome_by last) codes → HaveReplyCodes os
settled_coded last codes os h same = ap (list_all has_reply_code) same ∙ all_coded last codes h.last_is h.answers

none_coded : (n : ℕ) → HaveReplyCodes (put_off n)
none_coded zero = refl
none_coded (suc n) = none_coded n

pub put_off_coded : (n : ℕ) (os : List Outcome) → os ≡ put_off n → HaveReplyCodes os
put_off_coded n os same = ap (list_all has_reply_code) same ∙ none_coded n
