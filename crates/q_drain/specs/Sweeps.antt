-- Sweeps, rests, moments and connects of a call.
use Rattle.std.specs.Prelude.{◌*◌, ◌+◌, ◌++◌, ◌∷◌, ◌≡◌, ◌≤◌, [], if◌then◌else◌, length, List, map, nat_lt, ℕ}
use Rattle.q_drain.specs.Stories.{Story}
use Rattle.q_drain.specs.Told.{begun, moments_of}

-- those past all before them, where m came before
abbrev pub rising_past : ℕ → List ℕ → List ℕ
rising_past m [] = []
rising_past m (t ∷ ts) = if nat_lt m t then t ∷ rising_past t ts else rising_past m ts

-- the first moment, and each later one past all before it
abbrev pub rising : List ℕ → List ℕ
rising [] = []
rising (t ∷ ts) = t ∷ rising_past t ts

-- the `at` lines are these moments
abbrev pub IsClocked : Story → Type 0
IsClocked s = moments_of s.told ≡ rising s.moments

-- the `at` lines are the first of them
abbrev pub IsClockedSoFar : Story → Type 0
IsClockedSoFar s = (rest : List ℕ) × (rising s.moments ≡ moments_of s.told ++ rest)

-- The clock gave a moment for each rest and one more, and at most two more for each delivery that
-- began.
pub record IsRested (s : Story) : Type 0 where
  pub least : s.rests + 1 ≤ length s.moments
  pub most : length s.moments ≤ s.rests + 1 + 2 * length (begun s.told)

-- the next hops of the deliveries that began
abbrev pub hops_begun : Story → List (List ℕ)
hops_begun s = map (λ b. b.site.hop) (begun s.told)

-- each delivery that began was connected, in order
pub record AllConnected (s : Story) : Type 0 where
  pub connects : s.connects ≡ length (begun s.told)
  pub hops : s.hops ≡ hops_begun s

-- the first of them were
pub record SomeConnected (s : Story) : Type 0 where
  pub connects : s.connects ≤ length (begun s.told)
  pub few : length s.hops ≤ s.connects
  pub hops : (rest : List (List ℕ)) × (hops_begun s ≡ s.hops ++ rest)
