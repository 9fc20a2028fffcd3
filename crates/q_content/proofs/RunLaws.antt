-- Bytes within a line are sent as they are, up to the next CR or LF.
use Rattle.std.proofs.Common.{◌≡◌, ◌+◌, ◌<◌, ◌≤◌, ◌∷◌, ◌∙◌, [], ap, arith, Bool, cond, false, length, List, Option, refl, subst, suc, sym, take, true, ℕ}
use Rattle.std.specs.List.{position_or_len}
use Rattle.std.specs.Option.{unwrap_or}
use Rattle.std.specs.Prelude.{None, not, position, slice_index, Some, nat_lt, ◌==◌}
use Rattle.std.proofs.lemmas.Bool.{not-false}
use Rattle.std.proofs.lemmas.Bool.Decides.{nat_tests}
use Rattle.std.proofs.lemmas.List.{append-nil}
use Rattle.std.proofs.lemmas.List.Sums.{prefix_len-le-length}
use Rattle.q_content.specs.Encoding.{behind_byte, behind_bytes, sent_byte, sent_bytes, within_line}
use Rattle.q_content.specs.Runs.{ends_run, IsPlain}
use Rattle.q_content.specs.declared.encoding.ContentLine.{ContentLine}

abbrev run : List ℕ → List ℕ
run bytes = take (position_or_len ends_run bytes) bytes

pub plain_none : (l : ContentLine) → IsPlain l []
unfolding sent_bytes behind_bytes
plain_none l = record { sent = refl; line = refl }

plain_more : (b : ℕ) (bytes : List ℕ) (dot : Bool) → (b == 10) ≡ false → (b == 13) ≡ false → (b == 46) ≡ dot → IsPlain within_line bytes → IsPlain within_line (b ∷ bytes)
unfolding sent_bytes behind_bytes
plain_more b bytes true lf cr dot plain =
    record { sent = rw (lf, cr, dot) (ap (λ (x : List ℕ). b ∷ x) plain.sent); line = rw (lf, cr) plain.line }
plain_more b bytes false lf cr dot plain =
    record { sent = rw (lf, cr, dot) (ap (λ (x : List ℕ). b ∷ x) plain.sent); line = rw (lf, cr) plain.line }

run_more : (b : ℕ) (bytes : List ℕ) (lf cr : Bool) → (b == 10) ≡ lf → (b == 13) ≡ cr → IsPlain within_line (run bytes) → IsPlain within_line (run (b ∷ bytes))
run_more b bytes true cr is_lf is_cr plain = rw is_lf (plain_none within_line)
run_more b bytes false true is_lf is_cr plain = rw (is_lf, is_cr) (plain_none within_line)
run_more b bytes false false is_lf is_cr plain =
    let n = position_or_len ends_run bytes in
    let more : 1 + n ≡ suc n = omega arith in
    rw (is_lf, is_cr, more) (plain_more b (run bytes) (b == 46) is_lf is_cr refl plain)

run_plain : (bytes : List ℕ) → IsPlain within_line (run bytes)
run_plain [] = plain_none within_line
run_plain (b ∷ bytes) = run_more b bytes (b == 10) (b == 13) refl refl (run_plain bytes)

place_or : (n len : ℕ) → n ≤ len → unwrap_or (cond (nat_lt n len) (Some n) None) len ≡ n
place_or n len h = grind (arith, nat_tests)

-- the bytes up to the next CR or LF, of a line that has begun and holds nothing back
pub plain_run : (l : ContentLine) (bytes : List ℕ) (place : Option ℕ) (n : ℕ) → l.held ≡ false → not l.begun ≡ false → place ≡ position ends_run bytes → n ≡ unwrap_or place (length bytes) → IsPlain l (take n bytes)
plain_run l bytes place n held begun first whole =
    let here : within_line ≡ l = ap (λ (x : Bool). record { begun = x; held = false }) (sym (not-false l.begun begun)) ∙ ap (λ (x : Bool). record { begun = l.begun; held = x }) (sym held) in
    let at = position_or_len ends_run bytes in
    let far : at ≡ n =
    sym (whole ∙ ap (λ (o : Option ℕ). unwrap_or o (length bytes)) first ∙ place_or at (length bytes) (prefix_len-le-length (λ x. not (ends_run x)) bytes)) in
    subst (λ (m : ContentLine). IsPlain m (take n bytes)) here (subst (λ (k : ℕ). IsPlain within_line (take k bytes)) far (run_plain bytes))

-- one byte
pub record IsFirst (l : ContentLine) (bytes : List ℕ) (b : ℕ) : Type 0 where
  pub sent : sent_bytes l (take 1 bytes) ≡ sent_byte l b
  pub line : behind_bytes l (take 1 bytes) ≡ behind_byte l b

pub first_byte : (l : ContentLine) (bytes : List ℕ) → 0 < length bytes → IsFirst l bytes (slice_index bytes 0)
unfolding sent_bytes behind_bytes
first_byte l [] some = absurd (omega arith)
first_byte l (b ∷ bytes) some = record { sent = append-nil (sent_byte l b); line = refl }
