-- Texts that are compared without case.
use Rattle.std.proofs.Common.{◌≡◌, ◌∙◌, ◌↔◌, ◌∷◌, [], Bool, true, false, IsTrue, List, map, ℕ, ap, arith, refl, sym}
use Rattle.std.specs.Char.{to_ascii_lowercase}
use Rattle.std.specs.Prelude.{bytes_eq}
use Rattle.std.proofs.lemmas.Bool.{false_from_ne_true}
use Rattle.std.proofs.lemmas.Bool.Decides.{nat_tests}
use Rattle.std.proofs.lemmas.Slice.Eq.{bytes_eq-Decides}
use Rattle.q_model.specs.Texts.{lower}

lower_byte : (b : ℕ) → to_ascii_lowercase b ≡ lower b
lower_byte b = grind (arith, nat_tests)

again_byte : (b : ℕ) → lower (lower b) ≡ lower b
again_byte b = grind (arith, nat_tests)

lower_bytes : (bs : List ℕ) → map to_ascii_lowercase bs ≡ map lower bs
lower_bytes [] = refl
lower_bytes (b ∷ bs) = ap (λ (x : ℕ). x ∷ map to_ascii_lowercase bs) (lower_byte b) ∙ ap (λ (xs : List ℕ). lower b ∷ xs) (lower_bytes bs)

-- what is in lower case stays so
pub again_bytes : (bs : List ℕ) → map lower (map lower bs) ≡ map lower bs
again_bytes [] = refl
again_bytes (b ∷ bs) = ap (λ (x : ℕ). x ∷ map lower (map lower bs)) (again_byte b) ∙ ap (λ (xs : List ℕ). lower b ∷ xs) (again_bytes bs)

same_test : (r : Bool) (xs ys : List ℕ) → (IsTrue r → xs ≡ ys) → (xs ≡ ys → IsTrue r) → r ≡ bytes_eq xs ys
same_test true xs ys to from = sym ((bytes_eq-Decides xs ys).1 (to refl))
same_test false xs ys to from = sym (false_from_ne_true (bytes_eq xs ys) (λ e. false_true (from ((bytes_eq-Decides xs ys).0 e))))
  where
    false_true : IsTrue false → ⊥
    false_true k = cc

-- what a comparison without case answers
pub compared : (r : Bool) (xs ys : List ℕ) → IsTrue r ↔ (map to_ascii_lowercase xs ≡ map to_ascii_lowercase ys) → r ≡ bytes_eq (map lower xs) (map lower ys)
compared r xs ys test = same_test r (map lower xs) (map lower ys)
    (λ t. sym (lower_bytes xs) ∙ test.0 t ∙ lower_bytes ys)
    (λ e. test.1 (lower_bytes xs ∙ e ∙ sym (lower_bytes ys)))
