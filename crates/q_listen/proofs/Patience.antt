-- Moments between which late links were waited for.
use Rattle.std.proofs.Common.{◌≡◌, ◌≤◌, ◌+◌, ℕ, List, [], ◌∷◌, ◌++◌, max, refl, arith}
use Rattle.std.proofs.lemmas.Grind.{fold-append}
use Rattle.q_listen.specs.Listens.{IsPatient, greatest}
use Rattle.q_listen.specs.Serving.{IsWaited}

pub greatest_more : (moments : List ℕ) (t : ℕ) → greatest (moments ++ t ∷ []) ≡ max (greatest moments) t
greatest_more moments t = fold-append max 0 moments (t ∷ [])

-- the first moment of a call
pub waited_first : (t : ℕ) → IsWaited (t ∷ []) 0 t
waited_first t = omega arith

-- a session is polled at a later moment
pub waited_more : (moments : List ℕ) (late heard t : ℕ) → (moments ≡ [] → ⊥) → IsWaited moments late heard → IsWaited (moments ++ t ∷ []) late heard
waited_more [] late heard t some h = absurd (some refl)
waited_more (first ∷ moments) late heard t some h = h

-- it hears a byte, or another session begins
pub waited_on : (moments : List ℕ) (late heard now : ℕ) → heard ≤ now → IsWaited moments late heard → IsWaited moments late now
waited_on [] late heard now more h = h
waited_on (first ∷ moments) late heard now more h = omega (arith, more, h)

-- it was late
pub waited_late : (moments : List ℕ) (late heard now : ℕ) → (moments ≡ [] → ⊥) → heard + 300 ≤ now → IsWaited moments late heard → IsWaited moments (late + 1) now
waited_late [] late heard now some more h = absurd (some refl)
waited_late (first ∷ moments) late heard now some more h = omega (arith, more, h)

-- all links were served
pub patient : (moments : List ℕ) (late now : ℕ) → greatest moments ≡ now → IsWaited moments late now → IsPatient moments late
patient [] late now is h = h
patient (first ∷ moments) late now is h = rw is h
