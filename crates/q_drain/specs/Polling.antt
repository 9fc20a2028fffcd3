-- The open sessions of a drain between two calls, whatever host and hops tell.
use Rattle.std.specs.List.{AllByRecursion}
use Rattle.std.specs.Prelude.{◌<◌, ◌≡◌, ◌≤◌, ◌⊎◌, Bool, false, length, List, map, true, ℕ}
use Rattle.q_agent.specs.Sessions.{OpenSession, Rises, Sessions, link_waits}

-- each session's number is below this one
abbrev pub AreBelow : ℕ → List OpenSession → Type 0
AreBelow number os = AllByRecursion (λ o. o.number < number) os

-- The numbers rise, from 1 on, and are below this one.
pub record AreInOrder (os : List OpenSession) (number : ℕ) : Type 0 where
  pub rises : Rises (map (λ o. o.number) os)
  pub positive : AllByRecursion (λ o. 1 ≤ o.number) os
  pub below : AreBelow number os

-- it is still to be polled, or waits
abbrev pub ComesOrWaits : ℕ → OpenSession → Type 0
ComesOrWaits polled o = (polled < o.number) ⊎ (link_waits o ≡ true)

-- Within a sweep: each session that was polled waits.
pub record IsPolling (agent : Sessions) (number : ℕ) : Type 0 where
  pub order : AreInOrder agent.listed number
  pub polled : agent.polled < number
  pub waited : AllByRecursion (ComesOrWaits agent.polled) agent.listed

-- Unless a delivery began or ended meanwhile or before, none was opened, and as many are open.
abbrev pub KeepsSame : Bool → Bool → ℕ → ℕ → Sessions → Sessions → Type 0
KeepsSame was busy known last old new = busy ≡ false
    → (was ≡ false) × (last ≡ known) × (length new.listed ≡ length old.listed)
