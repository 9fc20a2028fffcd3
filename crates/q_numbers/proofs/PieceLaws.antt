-- A text, its front up to the first byte that divides it, and its pieces.
use Rattle.std.proofs.Common.{◌≡◌, ◌<◌, ◌+◌, ◌∙◌, ℕ, suc, Bool, true, false, cond, List, [], ◌∷◌, ◌++◌, length, take, drop, get_or, Option, Some, None, refl, sym, ap, arith}
use Rattle.std.specs.List.{onto_first, position_or_len, slice_split}
use Rattle.std.specs.Prelude.{nat_lt, not, option_map, position}
use Rattle.std.proofs.lemmas.Bool.{eqb-true, le-ltb, ltb-false, ltb-true}
use Rattle.std.proofs.lemmas.List.Splits.{slice_split_first}
use Rattle.std.proofs.lemmas.List.Sums.{passes_at_first, split_at_first}
use Rattle.std.proofs.lemmas.Option.{cond_some}
use Rattle.q_model.proofs.RecordLaws.{map_some}
use Rattle.q_numbers.specs.Pieces.{cut, is_byte, pieces}

-- where a text is cut
record Place (byte : ℕ) (text front back : List ℕ) : Type 0 where
  within : position_or_len (is_byte byte) text < length text
  before : take (position_or_len (is_byte byte) text) text ≡ front
  behind_it : drop (position_or_len (is_byte byte) text + 1) text ≡ back

place_of : (byte : ℕ) (text front back : List ℕ) → cut byte text ≡ Some (front, back) → Place byte text front back
unfolding cut
place_of byte text front back e =
    let n = position_or_len (is_byte byte) text in
    let (at, found, halves) = map_some (λ at. (take at text, drop (at + 1) text)) (position (is_byte byte) text) (front, back) e in
    let (within, same) = cond_some (nat_lt n (length text)) n at found in
    record {
      within = ltb-true n (length text) within;
      before = ap (λ k. take k text) same ∙ ap (λ (c : List ℕ × List ℕ). c.0) halves;
      behind_it = ap (λ k. drop (k + 1) text) same ∙ ap (λ (c : List ℕ × List ℕ). c.1) halves;
    }

-- a text that is cut is its front, the byte, and what stands behind that
pub cut_back : (byte : ℕ) (text front back : List ℕ) → cut byte text ≡ Some (front, back) → front ++ byte ∷ back ≡ text
cut_back byte text front back e =
    let p = place_of byte text front back e in
    let n = position_or_len (is_byte byte) text in
    let divides : get_or text n 0 ≡ byte = eqb-true (get_or text n 0) byte (passes_at_first (is_byte byte) text 0 p.within) in
    sym (split_at_first (is_byte byte) text 0 p.within ∙ ap (λ (b : ℕ). take n text ++ b ∷ drop (n + 1) text) divides
    ∙ ap (λ (x : List ℕ). x ++ byte ∷ drop (n + 1) text) p.before ∙ ap (λ (x : List ℕ). front ++ byte ∷ x) p.behind_it)

-- its pieces are its front and those behind
pub pieces_at : (byte : ℕ) (text front back : List ℕ) → cut byte text ≡ Some (front, back) → pieces byte text ≡ front ∷ pieces byte back
pieces_at byte text front back e =
    let p = place_of byte text front back e in
    slice_split_first (is_byte byte) text 0 p.within
    ∙ ap (λ (x : List ℕ). x ∷ slice_split (is_byte byte) (drop (position_or_len (is_byte byte) text + 1) text)) p.before
    ∙ ap (λ (x : List ℕ). front ∷ slice_split (is_byte byte) x) p.behind_it

tested : (b : Bool) (n : ℕ) → cond b (Some n) None ≡ None → b ≡ false
tested true n e = cc
tested false n e = refl

later : (b : Bool) (n m : ℕ) → nat_lt (cond (not b) (1 + n) 0) (suc m) ≡ false → (b ≡ false) × (nat_lt n m ≡ false)
later true n m e = absurd (omega (arith, ltb-false 0 (suc m) e))
later false n m e = (refl, le-ltb n m (omega (arith, ltb-false (1 + n) (suc m) e)))

whole : (test : ℕ → Bool) (text : List ℕ) → nat_lt (position_or_len test text) (length text) ≡ false → slice_split test text ≡ text ∷ []
whole test [] e = refl
whole test (b ∷ text) e =
    let (other, rest) = later (test b) (position_or_len test text) (length text) e in
    rw other (ap (onto_first b) (whole test text rest))

unmapped : {A B : Type 0} (f : A → B) (o : Option A) → option_map f o ≡ None → o ≡ None
unmapped f None e = refl
unmapped f (Some a) e = absurd (cc)

-- a text without such a byte is one piece
pub pieces_none : (byte : ℕ) (text : List ℕ) → cut byte text ≡ None → pieces byte text ≡ text ∷ []
unfolding cut
pieces_none byte text e =
    whole (is_byte byte) text (tested _ (position_or_len (is_byte byte) text) (unmapped (λ at. (take at text, drop (at + 1) text)) (position (is_byte byte) text) e))
