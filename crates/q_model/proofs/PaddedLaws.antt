-- A text that was written over the front of zeros or behind another text, and one that was put in lower case.
use Rattle.std.proofs.Common.{◌≡◌, ◌≤◌, ◌<◌, ◌-◌, ◌+◌, ℕ, zero, suc, List, [], ◌∷◌, ◌++◌, length, map, set, get_or, add-one, take, drop, replicate, refl, ap, sym, ◌∙◌, arith, length-append, length-drop}
use Rattle.std.proofs.lemmas.List.{length-replicate, drop-replicate, drop-drop, drop_at}
use Rattle.std.proofs.Math.Seq.{drop-append_seam}
use Rattle.q_model.specs.Padded.{IsPadded, len_back}
use Rattle.q_model.specs.Texts.{lower}

-- a text written over the front of zeros
pub IsPadded-made : (n : ℕ) (v w zeros front back : List ℕ) → w ≡ v → length v ≤ n → zeros ≡ front ++ back → length front ≡ length v → zeros ≡ replicate n 0 → IsPadded n (length v) (w ++ back)
IsPadded-made n v w zeros front back same short parts front_len all =
    let behind : back ≡ drop (length v) zeros = sym (ap (drop (length v)) parts ∙ ap (λ m. drop m (front ++ back)) (sym front_len) ∙ drop-append_seam front back) in
    let rest : back ≡ replicate (n - length v) 0 = behind ∙ ap (drop (length v)) all ∙ drop-replicate (length v) n 0 in
    record {
      whole = omega (arith, length-append w back, length-append front back, ap length same, ap length parts, ap length all, length-replicate {A = ℕ} n 0, front_len);
      within = short;
      zeros = ap (λ m. drop m (w ++ back)) (sym (ap length same)) ∙ drop-append_seam w back ∙ rest;
    }

-- one more byte in lower case
lower_cell : (xs : List ℕ) (i : ℕ) → i < length xs → set (map lower (take i xs) ++ drop i xs) i (lower (get_or xs i 0)) ≡ map lower (take (suc i) xs) ++ drop (suc i) xs
lower_cell [] i h = absurd (omega arith)
lower_cell (x ∷ xs) zero h = refl
lower_cell (x ∷ xs) (suc i) h = ap (λ (ys : List ℕ). lower x ∷ ys) (lower_cell xs i (omega arith))

same_cell : (xs : List ℕ) (i : ℕ) → i < length xs → get_or (map lower (take i xs) ++ drop i xs) i 0 ≡ get_or xs i 0
same_cell [] i h = absurd (omega arith)
same_cell (x ∷ xs) zero h = refl
same_cell (x ∷ xs) (suc i) h = same_cell xs i (omega arith)

pub lower_more : (xs ys : List ℕ) (i v : ℕ) → i < length xs → ys ≡ map lower (take i xs) ++ drop i xs → v ≡ lower (get_or ys i 0) → set ys i v ≡ map lower (take (i + 1) xs) ++ drop (i + 1) xs
lower_more xs ys i v h e d =
    let cell : v ≡ lower (get_or xs i 0) = d ∙ ap (λ (zs : List ℕ). lower (get_or zs i 0)) e ∙ ap lower (same_cell xs i h) in
    rw (add-one, e, cell) (lower_cell xs i h)

-- a text with more bytes behind it
pub IsPadded-appended : (n len : ℕ) (bytes more new text : List ℕ) → IsPadded n len bytes → take len bytes ≡ text → length text + length more ≤ n
    → new ≡ take len bytes ++ more ++ drop (len + length more) bytes → IsPadded n (len + length more) new
IsPadded-appended n len bytes more new text k same short e =
    let filled : length (take len bytes) ≡ len = len_back n len bytes k in
    let fits : len + length more ≤ n = omega (arith, filled, ap length same) in
    let front : length (take len bytes ++ more) ≡ len + length more = length-append (take len bytes) more ∙ ap (λ m. m + length more) filled in
    let rest : drop (len + length more) bytes ≡ replicate (n - (len + length more)) 0 =
    sym (drop-drop (length more) len bytes) ∙ ap (drop (length more)) k.zeros ∙ drop-replicate (length more) (n - len) 0 ∙ ap (λ m. replicate m 0) (omega arith) in
    record {
      whole = omega (arith, ap length e, length-append (take len bytes ++ more) (drop (len + length more) bytes), front, length-drop (len + length more) bytes, k.whole);
      within = fits;
      zeros = ap (drop (len + length more)) e ∙ drop_at (take len bytes ++ more) (drop (len + length more) bytes) (len + length more) front ∙ rest;
    }
