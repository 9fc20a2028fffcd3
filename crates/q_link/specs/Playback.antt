-- A place in the steps of a script.
use Rattle.std.specs.Prelude.{◌≡◌, ◌<◌, ◌≤◌, ◌∷◌, ◌++◌, [], drop, length, List, map, take, ℕ}
use Rattle.std.specs.List.{flat_map}
use Rattle.q_link.specs.declared.link.Got.{Got}
use Rattle.q_link.specs.declared.link.Got.TheVariants as got
use Rattle.q_link.specs.declared.script.Step.{Step as Kept}
use Rattle.q_link.specs.declared.script.Step.TheVariants as kept
use Rattle.q_link.specs.Scripts.{Step, end, failure, next_bytes, not_yet, piece}

-- the bytes that came so far, and the steps that are left
pub record Played : Type 0 where
  pub received : List ℕ
  pub rest : List Step

-- a step, by how it is kept
abbrev pub step_of : Kept → Step
step_of (kept.Piece p) = piece p.bytes.items
step_of kept.NotYet = not_yet
step_of kept.End = end
step_of kept.Fail = failure

abbrev pub steps_of : List Kept → List Step
steps_of steps = map step_of steps

-- the bytes of a step
abbrev pub bytes_of : Step → List ℕ
bytes_of (piece bytes) = bytes
bytes_of not_yet = []
bytes_of end = []
bytes_of failure = []

-- the steps that are left, where so many bytes of the first are gone
abbrev pub without_front : ℕ → List Step → List Step
without_front at [] = []
without_front at (piece bytes ∷ steps) = piece (drop at bytes) ∷ steps
without_front at (not_yet ∷ steps) = not_yet ∷ steps
without_front at (end ∷ steps) = end ∷ steps
without_front at (failure ∷ steps) = failure ∷ steps

-- so many steps are behind, and so many bytes of the next one
abbrev pub played : List Step → ℕ → ℕ → Played
played steps next at = record {
  received = flat_map bytes_of (take next steps) ++ take at (next_bytes (drop next steps));
  rest = without_front at (drop next steps);
}

-- a place before the last byte of a piece, or before another step
abbrev pub IsPlace : ℕ → List Step → Type 0
IsPlace at [] = at ≡ 0
IsPlace at (piece bytes ∷ steps) = at < length bytes
IsPlace at (not_yet ∷ steps) = at ≡ 0
IsPlace at (end ∷ steps) = at ≡ 0
IsPlace at (failure ∷ steps) = at ≡ 0

-- what a read took stands at the front of these bytes, and is at least one
abbrev pub IsFront : Got → List ℕ → List ℕ → Type 0
IsFront (got.Took n) bytes buf = (1 ≤ n) × (n ≤ length buf) × (take n buf ≡ take n bytes)
IsFront got.NotYet bytes buf = Unit {0}
IsFront got.End bytes buf = Unit {0}
IsFront got.Failed bytes buf = Unit {0}

-- what a read took was received
abbrev pub received_after : Got → List ℕ → List ℕ → List ℕ
received_after (got.Took n) buf received = received ++ take n buf
received_after got.NotYet buf received = received
received_after got.End buf received = received
received_after got.Failed buf received = received
