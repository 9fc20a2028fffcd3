-- Which positions failed, by a failure log, as flags.
use Rattle.std.specs.List.{list_any}
use Rattle.std.specs.Prelude.{◌<◌, ◌==◌, ◌≡◌, Bool, false, length, List, slice_index_or, ℕ}
use Rattle.q_model.specs.declared.outcome.Failure.{Failure}

-- the position failed
abbrev pub has_failed : List Failure → ℕ → Bool
has_failed fs position = list_any (λ f. f.position == position) fs

-- the flag of a position
abbrev pub flag_at : List Bool → ℕ → Bool
flag_at flags position = slice_index_or flags position false

-- so many positions have a flag each, which is set where the position failed
pub record AreFlags (n : ℕ) (fs : List Failure) (flags : List Bool) : Type 0 where
  pub count : length flags ≡ n
  pub each : (position : ℕ) → position < n → flag_at flags position ≡ has_failed fs position
