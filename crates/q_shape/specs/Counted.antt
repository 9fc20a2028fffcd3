-- The numbers that are kept of what was counted.
use Rattle.std.specs.Prelude.{◌<◌, ◌^◌, ◌≡◌, List, replicate, slice_get, Some, ℕ}
use Rattle.q_shape.specs.declared.numbers.Numbers.{Numbers}
use Rattle.q_shape.specs.declared.options.ShapeOptions.{ShapeOptions}
use Rattle.q_shape.specs.Counts.{Count, in_bucket, total}

-- all together is within 128 bits
abbrev pub CanBeCounted : List Count → Type 0
CanBeCounted cs = total cs < 2 ^ 128

-- nothing is counted
abbrev pub no_numbers : Numbers
no_numbers = record { total = 0; buckets = replicate 20 0 }

-- how many there are, and how many in each bucket
pub record AreNumbers (o : ShapeOptions) (n : Numbers) (cs : List Count) : Type 0 where
  pub all : n.total ≡ total cs
  pub each : (i : ℕ) → i < o.buckets → slice_get n.buckets i ≡ Some (total (in_bucket o i cs))
