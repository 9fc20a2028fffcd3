-- The buckets of ages (QSHAPE_README): their limits, and which ages each has.
use Rattle.std.specs.Prelude.{◌&&◌, ◌*◌, ◌^◌, ◌≤◌, ◌||◌, Bool, if◌then◌else◌, nat_le, nat_lt, suc, true, zero, ℕ}
use Rattle.q_shape.specs.declared.options.ShapeOptions.{ShapeOptions}

-- 2 to 20 buckets, the first of 1 to 10,000 minutes
pub record IsShape (o : ShapeOptions) : Type 0 where
  pub some : 2 ≤ o.buckets
  pub few : o.buckets ≤ 20
  pub long : 1 ≤ o.minutes
  pub short : o.minutes ≤ 10000

-- the limit of a bucket in minutes: each twice the one before, or as much above it as the first
abbrev pub limit_of : ShapeOptions → ℕ → ℕ
limit_of o i = if o.linear then o.minutes * suc i else o.minutes * 2 ^ i

-- the age in seconds isn't below the limit before that of the bucket
abbrev pub is_from : ShapeOptions → ℕ → ℕ → Bool
is_from o zero age = true
is_from o (suc i) age = nat_le (60 * limit_of o i) age

-- the age is below the limit of the bucket; the last bucket has none
abbrev pub is_below : ShapeOptions → ℕ → ℕ → Bool
is_below o i age = nat_le o.buckets (suc i) || nat_lt age (60 * limit_of o i)

-- the age belongs to the bucket
abbrev pub is_in : ShapeOptions → ℕ → ℕ → Bool
is_in o i age = is_from o i age && is_below o i age
