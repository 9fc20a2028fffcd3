-- Things under numbers, by a test that they pass.
use Rattle.std.specs.Prelude.{◌%◌, ◌==◌, Bool, false, get_or, List, None, Option, Some, ℕ}

module _ {T : Type 0} where
  -- something stands there, and passes
  abbrev pub passes_in : (T → Bool) → Option T → Bool
  passes_in p None = false
  passes_in p (Some t) = p t

  -- something stands under the number, and passes
  abbrev pub passes : (T → Bool) → List (Option T) → ℕ → Bool
  passes p slots n = passes_in p (get_or slots n None)

  -- it is of this one of so many buckets
  abbrev pub is_in_bucket : (T → ℕ) → ℕ → ℕ → T → Bool
  is_in_bucket hash buckets b t = hash t % buckets == b
