-- What a source has, read to its end.
use Rattle.std.specs.Prelude.{◌<◌, ◌≡◌, ◌≤◌, IfSome, length, List, Option, ℕ}
use Rattle.q_input.specs.declared.error.InputError.{InputError}
use Rattle.q_input.specs.declared.error.InputError.TheVariants as errors

-- these were all its bytes, and not more than so many
pub record HasRead (most : ℕ) (left : Option (List ℕ)) (bytes : List ℕ) : Type 0 where
  pub all : IfSome left (λ all. bytes ≡ all)
  pub few : length bytes ≤ most

-- it had more, where the error says so
abbrev pub IsUnread : ℕ → Option (List ℕ) → InputError → Type 0
IsUnread most left errors.TooLong = IfSome left (λ all. most < length all)
IsUnread most left errors.Source = Unit {0}
IsUnread most left errors.NoMemory = Unit {0}
