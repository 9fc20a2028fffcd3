-- A text without spaces, and what stands behind it.
use Rattle.std.proofs.Common.{◌≡◌, ◌+◌, ◌∙◌, ℕ, true, List, [], ◌∷◌, ◌++◌, length, drop, Some, None, refl, sym, ap, arith, length-append}
use Rattle.std.specs.List.{list_all, position_or_len}
use Rattle.std.specs.Prelude.{nat_lt}
use Rattle.std.proofs.lemmas.Bool.{and_parts, le-ltb, lt-ltb, not-true}
use Rattle.std.proofs.lemmas.List.{drop-drop, drop_at, take_at}
use Rattle.q_numbers.specs.Pieces.{cut, is_space}
use Rattle.q_text.proofs.SolidTexts.{is_solid}

-- the place of the space behind a text without spaces
first_space : (w rest : List ℕ) → list_all is_solid w ≡ true → position_or_len is_space (w ++ 32 ∷ rest) ≡ length w
first_space [] rest h = refl
first_space (b ∷ w) rest h =
    let (here, later) = and_parts (is_solid b) (list_all is_solid w) h in
    rw (not-true (is_space b) here, first_space w rest later) (omega arith)

no_space : (w : List ℕ) → list_all is_solid w ≡ true → position_or_len is_space w ≡ length w
no_space [] h = refl
no_space (b ∷ w) h =
    let (here, later) = and_parts (is_solid b) (list_all is_solid w) h in
    rw (not-true (is_space b) here, no_space w later) (omega arith)

-- what stands behind the space
behind_space : (w rest : List ℕ) → drop (length w + 1) (w ++ 32 ∷ rest) ≡ rest
behind_space w rest = sym (drop-drop 1 (length w) (w ++ 32 ∷ rest)) ∙ ap (drop 1) (drop_at w (32 ∷ rest) (length w) refl)

-- a text without spaces, a space, and any text
pub cut_at : (w rest : List ℕ) → list_all is_solid w ≡ true → cut 32 (w ++ 32 ∷ rest) ≡ Some (w, rest)
unfolding cut
cut_at w rest h =
    let whole = w ++ 32 ∷ rest in
    let long : nat_lt (length w) (length whole) ≡ true = lt-ltb (length w) (length whole) (omega (arith, length-append w (32 ∷ rest))) in
    rw (first_space w rest h, long, take_at w (32 ∷ rest) (length w) refl, behind_space w rest) refl

pub cut_none : (w : List ℕ) → list_all is_solid w ≡ true → cut 32 w ≡ None
unfolding cut
cut_none w h = rw (no_space w h, le-ltb (length w) (length w) (omega arith)) refl
