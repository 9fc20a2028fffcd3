-- What the steps of a request come to.
use Rattle.std.specs.Option.{option_map}
use Rattle.std.specs.Prelude.{◌≡◌, ◌⊎◌, Bool, false, List, None, Option, Some, true, length, IfSome, ℕ}
use Rattle.q_host.specs.View.{View as HostView}
use Rattle.q_link.specs.Reads.{Rose}
use Rattle.q_link.specs.Records.{HopsView, IsFresh}
use Rattle.q_link.specs.Routes.{has_route}
use Rattle.q_link.specs.Views.{View}
use Rattle.q_link.specs.WaitsLeft.{Spares, waits_sum}
use Rattle.q_model.specs.Values.{Spot}
use Rattle.q_agent.specs.Requests.{BeginsWork}
use Rattle.q_agent.specs.Sessions.{CanGoOn}
use Rattle.q_agent.specs.Slots.{shown_work}
use Rattle.q_agent.specs.WaitsLeft.{work_waits_left}
use Rattle.q_agent.specs.declared.delivery_session.Work.{Work}

-- a link over which nothing came or went yet, or none where there is no route or the connection failed
abbrev pub Connected : {L : Type 0} → (L → View) → List ℕ → HopsView → HopsView → Option L → Type 0
Connected view hop old new None = (has_route hop ≡ false) ⊎ Rose old.connect_faults new.connect_faults
Connected view hop old new (Some link) = IsFresh hop new (view link) × (has_route hop ≡ true)

-- what the links that are still to be opened may answer, and this one where it was opened
abbrev pub with_link : {L : Type 0} → (L → View) → HopsView → Option L → Option ℕ
with_link view hops None = hops.waits_left
with_link view hops (Some link) = waits_sum hops.waits_left (view link).waits_left

-- what a delivery begins with
pub record MayBegin {L : Type 0} (view : L → View) (tells : Bool) (host : HostView) (spot : Spot) (hop positions : List ℕ) (now : ℕ) (old new : HopsView) (work : Option (Work L)) : Type 0 where
  pub begins : BeginsWork tells host spot hop positions now old new (option_map (shown_work view) work)
  pub sound : IfSome (option_map (shown_work view) work) (CanGoOn (length positions))
  pub spares : Spares 0 old.waits_left (waits_sum new.waits_left (work_waits_left (option_map (shown_work view) work)))
