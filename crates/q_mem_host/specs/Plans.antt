-- Which calls of a host in memory are made to fail.
use Rattle.std.specs.Prelude.{ℕ, Bool, false, ◌-◌, ◌==◌, ◌||◌, Option, Some, None}
use Rattle.std.specs.Option.{option_map, option_map_or}

-- how many calls are left before every call fails, and the number, counted from 1, of a call that fails alone
pub record Plan : Type 0 where
  pub left : Option ℕ
  pub failing : Option ℕ

-- no call
abbrev pub no_plan : Plan
no_plan = record { left = None; failing = None }

-- whether the next call fails: no call is left, or it is the one that was named
abbrev pub fails_next : Plan → Bool
fails_next p = option_map_or (λ n. n == 0) p.left false || option_map_or (λ n. n == 1) p.failing false

-- the plan after a call
abbrev pub after_call : Plan → Plan
after_call p = record { left = option_map (λ n. n - 1) p.left; failing = option_map (λ n. n - 1) p.failing }

-- every call fails after so many more
abbrev pub stopping : ℕ → Plan → Plan
stopping calls p = record { left = Some calls; failing = p.failing }

-- the call of this number fails
abbrev pub failing_at : ℕ → Plan → Plan
failing_at call p = record { left = p.left; failing = Some call }
