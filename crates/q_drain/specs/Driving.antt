-- What holds between two calls of a drain.
use Rattle.std.specs.List.{AllByRecursion, count_by}
use Rattle.std.specs.Option.{is_some}
use Rattle.std.specs.Prelude.{◌&&◌, ◌+◌, ◌++◌, ◌-◌, ◌∷◌, ◌^◌, ◌≡◌, ◌≤◌, ◌⊎◌, if◌then◌else◌, length, List, map, not, ℕ}
use Rattle.q_model.specs.declared.rows.Delivery.{Delivery}
use Rattle.q_model.specs.Ledger.{Ledger}
use Rattle.q_model.specs.Past.{starts}
use Rattle.q_model.specs.Settings.{World}
use Rattle.q_model.specs.Step.{after_all}
use Rattle.q_link.specs.Routes.{has_route}
use Rattle.q_link.specs.Views.{Told}
use Rattle.q_agent.specs.Sessions.{OpenSession, Rises}
use Rattle.q_drain.specs.AllTold.{AllTold}
use Rattle.q_drain.specs.Cases.{Case}
use Rattle.q_drain.specs.Causes.{has_failed, IsDelivery}
use Rattle.q_drain.specs.Drains.{IsOwnRun}
use Rattle.q_drain.specs.Flights.{AreNumbered, flight}
use Rattle.q_drain.specs.Rooms.{HadRoom}
use Rattle.q_drain.specs.Stories.{Story}
use Rattle.q_drain.specs.Told.{Begun, begun, ended, moment_after}
use Rattle.q_drain.specs.Sweeps.{IsClocked}
use Rattle.q_drain.specs.Works.{IsSessionOf, Pairs}

-- it has no link, and its next hop has a route
abbrev pub is_cut_off : Delivery → OpenSession → ℕ
is_cut_off f o = if not (is_some o.work) && has_route f.row.site.hop then 1 else 0

-- how many of these are so
abbrev pub cut_off : List Delivery → List OpenSession → ℕ
cut_off (f ∷ fs) (o ∷ os) = is_cut_off f o + cut_off fs os
cut_off _ _ = 0

-- Those, and the cases that were so, are at most as many as connects failed since.
abbrev pub FewCutOff : List Case → List Delivery → List OpenSession → ℕ → ℕ → Type 0
FewCutOff cs fs os old new = (old + count_by has_failed cs + cut_off fs os ≤ new) ⊎ (2 ^ 64 - 1 ≤ new)

-- What was told is the run of its events; the ledger behind it has its clock and its deliveries.
pub record IsOnCourse (w : World) (l : Ledger) (s : Story) : Type 0 where
  pub run : IsOwnRun w l s.told
  pub room : HadRoom w l s.told
  pub clocked : IsClocked s
  pub now : (after_all w l s.told).now ≡ moment_after 0 s.told
  pub starts : starts (after_all w l s.told) ≡ length (begun s.told)

-- The deliveries that began: the early ones were connected, in order, and the others wait for it.
pub record AreConnected (s : Story) (early waiting : List Begun) : Type 0 where
  pub begins : begun s.told ≡ early ++ waiting
  pub numbers : AreNumbered (length early) waiting
  pub current : AllByRecursion (λ b. b.moment ≡ moment_after 0 s.told) waiting
  pub connects : s.connects ≡ length early
  pub hops : s.hops ≡ map (λ b. b.site.hop) early

-- The deliveries in flight are those of the open sessions, in order, and those that wait.
pub record AreOpen (w : World) (l : Ledger) (s : Story) (Tells : Begun → Told → Type 0) (early waiting : List Begun) (open_flights : List Delivery) (os : List OpenSession) : Type 0 where
  pub flights : (after_all w l s.told).flights ≡ open_flights ++ map flight waiting
  pub sessions : Pairs (IsSessionOf (after_all w l s.told).book s.told Tells) open_flights os
  pub rises : Rises (map (λ o. o.number) os)
  pub below : AllByRecursion (λ o. o.number ≤ length early) os
  pub counted : length early ≡ length (ended s.told) + length os

-- Between two calls, whatever clock and hops tell.
pub record Driving (w : World) (l : Ledger) (Tells : Begun → Told → Type 0) (early waiting : List Begun) (fs : List Delivery) (os : List OpenSession) (s : Story) : Type 0 where
  pub course : IsOnCourse w l s
  pub connected : AreConnected s early waiting
  pub opened : AreOpen w l s Tells early waiting fs os

-- Where the hops tell: `connects` were made before the first call, and the count of connects that
-- failed was `old` then and is `new`.
pub record HasCases (w : World) (l : Ledger) (connects old new : ℕ) (fs : List Delivery) (os : List OpenSession) (s : Story) : Type 0 where
  pub cases : List Case
  pub all : AllTold w l s cases
  pub each : AllByRecursion (IsDelivery s connects) cases
  pub failed : FewCutOff cases fs os old new
