-- The sweeps that a drain made, and those in which every open session waited.
use Rattle.std.specs.List.{AllByRecursion}
use Rattle.std.specs.Prelude.{◌&&◌, ◌+◌, ◌++◌, ◌==◌, ◌∷◌, ◌≡◌, ◌⊎◌, [], Bool, flat_map, if◌then◌else◌, length, List, map, nat_lt, true, ℕ}
use Rattle.q_model.specs.declared.entry.Entry.{Entry}
use Rattle.q_model.specs.declared.entry.Entry.TheVariants as entries
use Rattle.q_model.specs.Ledger.{Ledger}
use Rattle.q_model.specs.Settings.{World}
use Rattle.q_model.specs.Step.{after_all}
use Rattle.q_drain.specs.Stories.{Story}
use Rattle.q_drain.specs.Told.{begun, ended, moments_of}

-- a sweep: the moment that the clock gave, and what was told from then on
pub record MadeSweep : Type 0 where
  pub moment : ℕ
  pub told : List Entry

-- Its moment is told first, or not at all, and no other is.
abbrev pub IsSweep : MadeSweep → Type 0
IsSweep p = (rest : List Entry) × (moments_of rest ≡ [])
    × ((p.told ≡ rest) ⊎ (p.told ≡ entries.At p.moment ∷ rest))

-- what was told in all of them
abbrev pub told_in : List MadeSweep → List Entry
told_in ps = flat_map (λ p. p.told) ps

-- these are the sweeps of the story, in order
pub record AreSweeps (s : Story) (ps : List MadeSweep) : Type 0 where
  pub told : s.told ≡ told_in ps
  pub moments : s.moments ≡ map (λ p. p.moment) ps
  pub each : AllByRecursion IsSweep ps

-- no delivery began, and none came to its reply
abbrev pub is_silent : List Entry → Bool
is_silent es = (length (begun es) + length (ended es)) == 0

-- a delivery is in flight
abbrev pub has_flight : Ledger → Bool
has_flight l = nat_lt 0 (length l.flights)

-- Every open session waited, and none was opened: in the sweep no delivery began, and none came to its
-- reply, and behind it one is in flight.
abbrev pub waits_through : World → Ledger → MadeSweep → Bool
waits_through w l p = is_silent p.told && has_flight (after_all w l p.told)

-- how many of these sweeps were so, from a ledger on
abbrev pub waiting_sweeps : World → Ledger → List MadeSweep → ℕ
waiting_sweeps w l [] = 0
waiting_sweeps w l (p ∷ ps) = (if waits_through w l p then 1 else 0) + waiting_sweeps w (after_all w l p.told) ps

-- The sweeps of a drain that ends behind one. One rest was given behind each before the last in which
-- every open session waited and none was opened, and none behind another. In the last one no delivery
-- began, and none came to its reply.
pub record MadeSweeps (w : World) (l : Ledger) (s : Story) : Type 0 where
  pub earlier : List MadeSweep
  pub last : MadeSweep
  pub are : AreSweeps s (earlier ++ last ∷ [])
  pub rests : s.rests ≡ waiting_sweeps w l earlier
  pub silent : is_silent last.told ≡ true

-- in how many of all every open session waited, and none was opened
abbrev pub waiting_in : (w : World) → (l : Ledger) → (s : Story) → MadeSweeps w l s → ℕ
waiting_in w l s made = waiting_sweeps w l (made.earlier ++ made.last ∷ [])
