-- Each recipient is pending, marked, or logged and not marked.
use Rattle.std.proofs.Common.{◌≡◌, ℕ, suc, ◌+◌, ◌-◌, Bool, true, false, cond, List, [], ◌∷◌, length, refl, ap, ◌∙◌, arith}
use Rattle.std.proofs.lemmas.List.Sums.{sum_by-cons}
use Rattle.std.specs.Prelude.{◌&&◌, ◌||◌, count_by, if◌then◌else◌, not}
use Rattle.q_core.specs.Agrees.{count_of_marked}
use Rattle.q_model.specs.Lists.{has_none, places_from}
use Rattle.q_model.specs.Marks.{is_marked}
use Rattle.q_model.specs.Message.{Message, Recipient, is_logged, pending, unmarked_logged}

abbrev pending_from : Message → ℕ → List Recipient → List ℕ
pending_from m i rs = places_from i (λ i r. not (is_marked r.mark || is_logged m i)) rs

abbrev unmarked_from : Message → ℕ → List Recipient → List ℕ
unmarked_from m i rs = places_from i (λ i r. not (is_marked r.mark) && is_logged m i) rs

abbrev marked_among : List Recipient → ℕ
marked_among rs = count_by (λ (r : Recipient). is_marked r.mark) rs

counted_step : (i n : ℕ) (b d : Bool) (ps us : List ℕ) (k : ℕ) → length ps + length us + k ≡ n →
    length (if not (b || d) then i ∷ ps else ps) + length (if not b && d then i ∷ us else us) + (cond b 1 0 + k) ≡ suc n
counted_step i n true d ps us k h = omega (arith, h)
counted_step i n false true ps us k h = omega (arith, h)
counted_step i n false false ps us k h = omega (arith, h)

counted : (m : Message) (i : ℕ) (rs : List Recipient) → length (pending_from m i rs) + length (unmarked_from m i rs) + marked_among rs ≡ length rs
counted m i [] = refl
counted m i (r ∷ rs) =
    ap (λ n. length (pending_from m i (r ∷ rs)) + length (unmarked_from m i (r ∷ rs)) + n) (sum_by-cons (λ (x : Recipient). cond (is_marked x.mark) 1 0) r rs)
    ∙ counted_step i (length rs) (is_marked r.mark) (is_logged m i) (pending_from m (i + 1) rs) (unmarked_from m (i + 1) rs) (marked_among rs) (counted m (i + 1) rs)

none_long : (xs : List ℕ) → has_none xs ≡ true → length xs ≡ 0
none_long [] h = refl
none_long (x ∷ xs) h = cc

-- where none is logged and not marked, all that aren't marked are pending
pub pending_count : (m : Message) → has_none (unmarked_logged m) ≡ true → length (pending m) ≡ length m.recipients - count_of_marked m
pending_count m h =
    let total = counted m 0 m.recipients in
    let none = none_long (unmarked_logged m) h in
    omega (arith, total, none)
