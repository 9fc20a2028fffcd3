-- What a clock gives, call by call.
use Rattle.std.specs.Prelude.{◌≡◌, ℕ, zero, suc, ◌-◌, ◌^◌, ◌==◌, if◌then◌else◌, min, List, [], ◌∷◌, ◌++◌, length, slice_get, Option, Some, None}
use Rattle.std.specs.Option.{option_map_or}

-- the greatest moment that a clock gives, in seconds
abbrev pub last_moment : ℕ
last_moment = 999990000000

-- the moments given before a call and after it: the answer was added at the end, where they are still told
abbrev pub AddsMoment : Option (List ℕ) → Option (List ℕ) → ℕ → Type 0
AddsMoment old None moment = Unit {0}
AddsMoment None (Some new) moment = ⊥
AddsMoment (Some old) (Some new) moment = new ≡ old ++ moment ∷ []

-- moments that are given one after another, and how many calls there were
pub record Timetable : Type 0 where
  pub moments : List ℕ
  pub calls : ℕ

-- what the call with this number gives, counted from 0: the last moment stays, and none is 0
abbrev pub moment_at : List ℕ → ℕ → ℕ
moment_at moments i = option_map_or (min last_moment) (slice_get moments (min i (length moments - 1))) 0

-- what the first calls gave, in order
abbrev pub first_moments : List ℕ → ℕ → List ℕ
first_moments moments zero = []
first_moments moments (suc n) = first_moments moments n ++ moment_at moments n ∷ []

-- what was given so far; nothing is told of it once the count of calls has come to its last value
abbrev pub given_so_far : Timetable → Option (List ℕ)
given_so_far t = if t.calls == (2 ^ 64 - 1) then None else Some (first_moments t.moments t.calls)
