-- The host of a next hop, read piece by piece.
use Rattle.std.proofs.Common.{◌≡◌, ◌∙◌, ℕ, Bool, true, false, List, [], ◌∷◌, ◌++◌, length, Option, Some, None, refl, sym, ap, arith}
use Rattle.std.specs.Char.{is_ascii_digit}
use Rattle.std.specs.List.{list_all}
use Rattle.std.specs.Prelude.{◌&&◌, ◌==◌, if◌then◌else◌}
use Rattle.std.proofs.lemmas.Bool.{ne_eqb}
use Rattle.std.proofs.lemmas.List.Splits.{length-slice_split}
use Rattle.q_numbers.specs.Pieces.{cut, each_some, is_byte, pieces}
use Rattle.q_numbers.proofs.PieceLaws.{cut_back, pieces_at, pieces_none}
use Rattle.q_link.specs.Routes.{host_of, octet_of}

-- the host, where the pieces are these
from_pieces : List (List ℕ) → Option (List ℕ)
from_pieces ps = if length ps == 4 then each_some octet_of ps else None

by_pieces : (text : List ℕ) (ps : List (List ℕ)) → pieces 46 text ≡ ps → host_of text ≡ from_pieces ps
unfolding from_pieces
by_pieces text ps e = ap from_pieces e

pub one_piece : (text : List ℕ) → cut 46 text ≡ None → host_of text ≡ None
unfolding from_pieces
one_piece text end = by_pieces text (text ∷ []) (pieces_none 46 text end)

pub two_pieces : (text a b : List ℕ) → cut 46 text ≡ Some (a, b) → cut 46 b ≡ None → host_of text ≡ None
unfolding from_pieces
two_pieces text a b first end = by_pieces text (a ∷ b ∷ []) (pieces_at 46 text a b first ∙ ap (λ (x : List (List ℕ)). a ∷ x) (pieces_none 46 b end))

pub three_pieces : (text a rest b c : List ℕ) → cut 46 text ≡ Some (a, rest) → cut 46 rest ≡ Some (b, c) → cut 46 c ≡ None → host_of text ≡ None
unfolding from_pieces
three_pieces text a rest b c first second end =
    by_pieces text (a ∷ b ∷ c ∷ [])
    (pieces_at 46 text a rest first ∙ ap (λ (x : List (List ℕ)). a ∷ x) (pieces_at 46 rest b c second)
    ∙ ap (λ (x : List (List ℕ)). a ∷ b ∷ x) (pieces_none 46 c end))

-- ---- a last piece with a dot in it

untested : (a b c d e : Bool) (n : ℕ) → b ≡ false → (if a && b && c && d && e then Some n else None) ≡ None
untested true b c d e n unmet = rw unmet refl
untested false b c d e n unmet = refl

no_digits : (front back : List ℕ) → list_all is_ascii_digit (front ++ 46 ∷ back) ≡ false
no_digits [] back = refl
no_digits (b ∷ front) back = ends (is_ascii_digit b) (no_digits front back)
  where
    ends : (x : Bool) → list_all is_ascii_digit (front ++ 46 ∷ back) ≡ false → (x && list_all is_ascii_digit (front ++ 46 ∷ back)) ≡ false
    ends true unmet = unmet
    ends false unmet = refl

no_octet : (d front back : List ℕ) → cut 46 d ≡ Some (front, back) → octet_of d ≡ None
no_octet d front back e = untested _ _ _ _ _ _ (ap (list_all is_ascii_digit) (sym (cut_back 46 d front back e)) ∙ no_digits front back)

four_with : (oa ob oc od : Option ℕ) (f : List ℕ → Option ℕ) (a b c d : List ℕ) → f a ≡ oa → f b ≡ ob → f c ≡ oc → f d ≡ None → each_some f (a ∷ b ∷ c ∷ d ∷ []) ≡ None
four_with None ob oc od f a b c d ea eb ec ed = rw ea refl
four_with (Some x) None oc od f a b c d ea eb ec ed = rw (ea, eb) refl
four_with (Some x) (Some y) None od f a b c d ea eb ec ed = rw (ea, eb, ec) refl
four_with (Some x) (Some y) (Some z) od f a b c d ea eb ec ed = rw (ea, eb, ec, ed) refl

too_many : (a b c : List ℕ) (d front back : List ℕ) → cut 46 d ≡ Some (front, back) → from_pieces (a ∷ b ∷ c ∷ pieces 46 d) ≡ None
unfolding from_pieces
too_many a b c d front back e =
    let long = length-slice_split (is_byte 46) back in
    let other : (length (a ∷ b ∷ c ∷ front ∷ pieces 46 back) == 4) ≡ false = ne_eqb _ 4 (λ same. omega (arith, long, same)) in
    ap (λ (x : List (List ℕ)). from_pieces (a ∷ b ∷ c ∷ x)) (pieces_at 46 d front back e) ∙ rw other refl

last_piece : (a b c d : List ℕ) (o : Option (List ℕ × List ℕ)) → cut 46 d ≡ o → from_pieces (a ∷ b ∷ c ∷ pieces 46 d) ≡ each_some octet_of (a ∷ b ∷ c ∷ d ∷ [])
unfolding from_pieces
last_piece a b c d None e = ap (λ (x : List (List ℕ)). from_pieces (a ∷ b ∷ c ∷ x)) (pieces_none 46 d e)
last_piece a b c d (Some (front, back)) e =
    too_many a b c d front back e
    ∙ sym (four_with (octet_of a) (octet_of b) (octet_of c) None octet_of a b c d refl refl refl (no_octet d front back e))

pub four_pieces : (text a r b s c d : List ℕ) → cut 46 text ≡ Some (a, r) → cut 46 r ≡ Some (b, s) → cut 46 s ≡ Some (c, d)
    → host_of text ≡ each_some octet_of (a ∷ b ∷ c ∷ d ∷ [])
four_pieces text a r b s c d first second third =
    by_pieces text (a ∷ b ∷ c ∷ pieces 46 d)
    (pieces_at 46 text a r first ∙ ap (λ (x : List (List ℕ)). a ∷ x) (pieces_at 46 r b s second)
    ∙ ap (λ (x : List (List ℕ)). a ∷ b ∷ x) (pieces_at 46 s c d third))
    ∙ last_piece a b c d (cut 46 d) refl
