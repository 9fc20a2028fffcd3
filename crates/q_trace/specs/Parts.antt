-- The fields of a line, which stand before spaces.
use Rattle.std.specs.Prelude.{List, Option, option_and_then, option_map, ℕ}
use Rattle.q_numbers.specs.Pieces.{cut}

-- the value before the first space, and what stands behind it
abbrev pub field : {A : Type 0} → (List ℕ → Option A) → List ℕ → Option (A × List ℕ)
field read text =
    option_and_then (λ (c : List ℕ × List ℕ). option_map (λ a. (a, c.1)) (read c.0)) (cut 32 text)

-- the value before the first space, and the value behind it
abbrev pub then_read : {A B : Type 0} → (List ℕ → Option A) → (A → List ℕ → Option B) → List ℕ
    → Option (A × B)
then_read {A} read more text =
    option_and_then (λ (c : A × List ℕ). option_map (λ b. (c.0, b)) (more c.0 c.1)) (field read text)
